-- Lists of facts that grow.
use Rattle.std.proofs.Common.{◌≡◌, ◌⊎◌, ◌↔◌, inl, inr, ℕ, List, [], ◌∷◌, ◌++◌, ◌+◌, ◌<◌, length, take, get_or, map, ap, sym, subst, refl, ◌∙◌}
use Rattle.std.specs.Prelude.{Option, Some, None, MatchOption}
use Rattle.std.specs.Borrow.{Bor}
use Rattle.std.proofs.lemmas.List.{take_more, map-append}
use Rattle.node_tree.specs.declared.node.Node.{Node}
use Rattle.node_tree.specs.declared.span.Span.{Span}
use Rattle.node_tree.specs.Numbers.{Numbered}
use Rattle.node_pool.specs.declared.spot.Spot.{Spot}
use Rattle.node_pool.specs.Spots.{seen, all_seen}
use Rattle.graph_form.specs.Sets.{Among}
use Rattle.graph_form.proofs.Amongs.{among_push}
use Rattle.taint_form.specs.Expressions.{exposed, nodes_now}
use Rattle.assignments.specs.Seen.{Named}
use Rattle.taint_tables.specs.Numbers.{Numbering}
use Rattle.taint_tables.specs.Taints.{IsFactOf, Denotes, DenotesAny, Taints}

-- the one fact with a property is pushed
pub one_pushed : (Is : ℕ → Type 0) (old new : List ℕ) (fact : ℕ) → ((other : ℕ) → Is other ↔ (fact ≡ other)) → new ≡ old ++ fact ∷ [] → (f : ℕ) → Among new f ↔ (Among old f ⊎ Is f)
one_pushed Is old new fact only is f =
    let p = among_push old fact f in
    let P : List ℕ → Type 0 = λ xs. Among xs f ↔ (Among old f ⊎ Is f) in
    subst P (sym is) (
      λ h. elim (p.0 h) [ inl a ↦ inl a | inr e ↦ inr ((only f).1 e) ],
      λ h. p.1 (elim h [ inl a ↦ inl a | inr i ↦ inr ((only f).0 i) ]),
    )

-- nothing has the property
pub none_pushed : (Is : ℕ → Type 0) (old : List ℕ) → ((f : ℕ) → Is f → ⊥) → (f : ℕ) → Among old f ↔ (Among old f ⊎ Is f)
none_pushed Is old none f = (λ h. inl h, λ h. elim h [ inl a ↦ a | inr i ↦ absurd (none f i) ])

-- what is found is the one
pub found_only : (o : Option ℕ) (fact : ℕ) → o ≡ Some fact → (other : ℕ) → (o ≡ Some other) ↔ (fact ≡ other)
found_only o fact e other = (λ h. let q : Some fact ≡ Some other = sym e ∙ h in cc, λ h. let q : o ≡ Some other = cc in q)

pub found_none : (o : Option ℕ) → o ≡ None → (other : ℕ) → o ≡ Some other → ⊥
found_none o e other h = let q : None ≡ Some other = sym e ∙ h in cc

-- one after the other
pub two_pushed : (A B : ℕ → Type 0) (old mid new : List ℕ) → ((f : ℕ) → Among mid f ↔ (Among old f ⊎ A f)) → ((f : ℕ) → Among new f ↔ (Among mid f ⊎ B f)) → (f : ℕ) → Among new f ↔ (Among old f ⊎ (A f ⊎ B f))
two_pushed A B old mid new first second f = (
  λ h. elim ((second f).0 h) [
    | inl m ↦ elim ((first f).0 m) [ inl o ↦ inl o | inr a ↦ inr (inl a) ]
    | inr b ↦ inr (inr b)
  ],
  λ h. (second f).1 (elim h [
    | inl o ↦ inl ((first f).1 (inl o))
    | inr ab ↦ elim ab [ inl a ↦ inl ((first f).1 (inr a)) | inr b ↦ inr b ]
  ]),
)

-- the facts of expressions, one more
pub denoted_more : (numbers : Numbering) (xs ys : List Node) (y : Node) (mid new : List ℕ) → ((x : Node) → Among ys x ↔ (Among xs x ⊎ (y ≡ x))) → ((f : ℕ) → Among mid f ↔ DenotesAny numbers xs f)
    → ((f : ℕ) → Among new f ↔ (Among mid f ⊎ Denotes numbers y f)) → (f : ℕ) → Among new f ↔ DenotesAny numbers ys f
denoted_more numbers xs ys y mid new split all step f = (
  λ h. elim ((step f).0 h) [
    | inl m ↦ let r = (all f).0 m in (r.0, (split r.0).1 (inl r.1), r.2)
    | inr d ↦ (y, (split y).1 (inr refl), d)
  ],
  λ (e, among, d). (step f).1 (elim ((split e).0 among) [
    | inl a ↦ inl ((all f).1 (e, a, d))
    | inr q ↦ inr (let P : Node → Type 0 = λ z. Denotes numbers z f in subst P (sym q) d)
  ]),
)

-- what was told of a fact that may be there
pub told_some : (Is : ℕ → Type 0) (o : Option ℕ) (fact : ℕ) → MatchOption o ((f : ℕ) → Is f → ⊥) (λ found. (other : ℕ) → Is other ↔ (found ≡ other)) → o ≡ Some fact → (other : ℕ) → Is other ↔ (fact ≡ other)
told_some Is o fact told e = let P : Option ℕ → Type 0 = λ r. MatchOption r ((f : ℕ) → Is f → ⊥) (λ found. (other : ℕ) → Is other ↔ (found ≡ other)) in subst P e told

pub told_none : (Is : ℕ → Type 0) (o : Option ℕ) → MatchOption o ((f : ℕ) → Is f → ⊥) (λ found. (other : ℕ) → Is other ↔ (found ≡ other)) → o ≡ None → (f : ℕ) → Is f → ⊥
told_none Is o told e = let P : Option ℕ → Type 0 = λ r. MatchOption r ((f : ℕ) → Is f → ⊥) (λ found. (other : ℕ) → Is other ↔ (found ≡ other)) in subst P e told

-- one node more, as they are lent
pub lent_more : (xs : List (Bor Node)) (i : ℕ) (x : Bor Node) → i < length xs → x ≡ get_or xs i x → (n : Node) → Among (nodes_now (take (i + 1) xs)) n ↔ (Among (nodes_now (take i xs)) n ⊎ (x.now ≡ n))
lent_more xs i x lt is n =
    let one : nodes_now (take (i + 1) xs) ≡ nodes_now (take i xs) ++ x.now ∷ [] =
    ap nodes_now (take_more xs i x lt ∙ ap (λ y. take i xs ++ y ∷ []) (sym is)) ∙ map-append (λ (m : Bor Node). m.now) (take i xs) (x ∷ []) in
    let P : List Node → Type 0 = λ ns. Among ns n ↔ (Among (nodes_now (take i xs)) n ⊎ (x.now ≡ n)) in
    subst P (sym one) (among_push (nodes_now (take i xs)) x.now n)

-- what is exposed taints
pub exposed_taint : (numbers : Numbering) (spans : List Span) (v : Node) (shown : List Node) (facts all : List ℕ) → shown ≡ exposed spans v → ((f : ℕ) → Among facts f ↔ DenotesAny numbers shown f) → ((f : ℕ) → Among all f ↔ Among facts f)
    → (f : ℕ) → Among all f ↔ Taints spans numbers v f
exposed_taint numbers spans v shown facts all is each same f =
    let P : List Node → Type 0 = λ ns. Among facts f ↔ DenotesAny numbers ns f in
    let e = subst P is (each f) in
    (λ h. e.0 ((same f).0 h), λ h. (same f).1 (e.1 h))

-- the facts of a node more
pub tainted_more : (T : Numbered → ℕ → Type 0) (xs ys : List Numbered) (y : Numbered) (old mid new : List ℕ) → ((x : Numbered) → Among ys x ↔ (Among xs x ⊎ (y ≡ x)))
    → ((f : ℕ) → Among mid f ↔ (Among old f ⊎ ((s : Numbered) × Among xs s × T s f))) → ((f : ℕ) → Among new f ↔ (Among mid f ⊎ T y f)) → (f : ℕ) → Among new f ↔ (Among old f ⊎ ((s : Numbered) × Among ys s × T s f))
tainted_more T xs ys y old mid new split all step f = (
  λ h. elim ((step f).0 h) [
    | inl m ↦ elim ((all f).0 m) [ inl o ↦ inl o | inr (s, a, t) ↦ inr (s, (split s).1 (inl a), t) ]
    | inr t ↦ inr (y, (split y).1 (inr refl), t)
  ],
  λ h. (step f).1 (elim h [
    | inl o ↦ inl ((all f).1 (inl o))
    | inr (s, a, t) ↦ elim ((split s).0 a) [
      | inl b ↦ inl ((all f).1 (inr (s, b, t)))
      | inr e ↦ inr (let P : Numbered → Type 0 = λ z. T z f in subst P (sym e) t)
    ]
  ]),
)

-- one node more, as it is seen
pub seen_more : (xs : List Spot) (i : ℕ) (x : Spot) → i < length xs → x ≡ get_or xs i x → (s : Numbered) → Among (all_seen (take (i + 1) xs)) s ↔ (Among (all_seen (take i xs)) s ⊎ (seen x ≡ s))
seen_more xs i x lt is s =
    let one : all_seen (take (i + 1) xs) ≡ all_seen (take i xs) ++ seen x ∷ [] =
    ap all_seen (take_more xs i x lt ∙ ap (λ y. take i xs ++ y ∷ []) (sym is)) ∙ map-append seen (take i xs) (x ∷ []) in
    let P : List Numbered → Type 0 = λ ns. Among ns s ↔ (Among (all_seen (take i xs)) s ⊎ (seen x ≡ s)) in
    subst P (sym one) (among_push (all_seen (take i xs)) (seen x) s)

-- bases: the name of the only one
pub base_some : (numbers : Numbering) (ts : List Named) (text : List ℕ) (f : ℕ) → (text ∷ []) ≡ map (λ (t : Named). t.name) ts → IsFactOf numbers text f ↔ ((b : Named) × Among ts b × IsFactOf numbers b.name f)
base_some numbers [] text f e = absurd cc
base_some numbers (t ∷ []) text f e =
    let same : text ≡ t.name = cc in
    let P : List ℕ → Type 0 = λ n. IsFactOf numbers n f in (
      λ h. (t, inl refl, subst P same h),
      λ (b, among, h). elim among [
        | inl q ↦ let Q : Named → Type 0 = λ z. IsFactOf numbers z.name f in subst P (sym same) (subst Q (sym q) h)
        | inr none ↦ absurd none
      ],
    )
base_some numbers (t ∷ u ∷ us) text f e = absurd cc

pub base_none : (numbers : Numbering) (ts : List Named) (f : ℕ) → [] ≡ map (λ (t : Named). t.name) ts → ((b : Named) × Among ts b × IsFactOf numbers b.name f) → ⊥
base_none numbers [] f e (b, none, h) = absurd none
base_none numbers (t ∷ ts) f e h = absurd cc

-- a property that holds of the same facts
pub pushed_same : (A B : ℕ → Type 0) (old new : List ℕ) → ((f : ℕ) → A f ↔ B f) → ((f : ℕ) → Among new f ↔ (Among old f ⊎ A f)) → (f : ℕ) → Among new f ↔ (Among old f ⊎ B f)
pushed_same A B old new same all f = (
  λ h. elim ((all f).0 h) [ inl o ↦ inl o | inr a ↦ inr ((same f).0 a) ],
  λ h. (all f).1 (elim h [ inl o ↦ inl o | inr b ↦ inr ((same f).1 b) ]),
)

-- a property that holds beside another that does
pub beside : (C : Type 0) (A : ℕ → Type 0) → C → (f : ℕ) → A f ↔ (C × A f)
beside C A c f = (λ a. (c, a), λ h. h.1)

-- pairs of one first, one more
pub with_more : (first : ℕ) (xs ys : List ℕ) (y : ℕ) (old mid new : List (ℕ × ℕ)) → ((x : ℕ) → Among ys x ↔ (Among xs x ⊎ (y ≡ x))) → ((from to : ℕ) → Among mid (from, to) ↔ (Among old (from, to) ⊎ ((first ≡ from) × Among xs to)))
    → new ≡ mid ++ (first, y) ∷ [] → (from to : ℕ) → Among new (from, to) ↔ (Among old (from, to) ⊎ ((first ≡ from) × Among ys to))
with_more first xs ys y old mid new split all is from to =
    let p = among_push mid (first, y) (from, to) in
    let P : List (ℕ × ℕ) → Type 0 = λ zs. Among zs (from, to) ↔ (Among old (from, to) ⊎ ((first ≡ from) × Among ys to)) in
    subst P (sym is) (
      λ h. elim (p.0 h) [
        | inl m ↦ elim ((all from to).0 m) [ inl o ↦ inl o | inr (e, a) ↦ inr (e, (split to).1 (inl a)) ]
        | inr e ↦ inr (ap (λ (z : ℕ × ℕ). z.0) e, (split to).1 (inr (ap (λ (z : ℕ × ℕ). z.1) e)))
      ],
      λ h. p.1 (elim h [
        | inl o ↦ inl ((all from to).1 (inl o))
        | inr (e, a) ↦ elim ((split to).0 a) [ inl b ↦ inl ((all from to).1 (inr (e, b))) | inr q ↦ inr (λ i. (e i, q i)) ]
      ]),
    )

-- pairs, one first more
pub firsts_more : (seconds xs ys : List ℕ) (y : ℕ) (old mid new : List (ℕ × ℕ)) → ((x : ℕ) → Among ys x ↔ (Among xs x ⊎ (y ≡ x))) → ((from to : ℕ) → Among mid (from, to) ↔ (Among old (from, to) ⊎ (Among xs from × Among seconds to)))
    → ((from to : ℕ) → Among new (from, to) ↔ (Among mid (from, to) ⊎ ((y ≡ from) × Among seconds to))) → (from to : ℕ) → Among new (from, to) ↔ (Among old (from, to) ⊎ (Among ys from × Among seconds to))
firsts_more seconds xs ys y old mid new split all step from to = (
  λ h. elim ((step from to).0 h) [
    | inl m ↦ elim ((all from to).0 m) [ inl o ↦ inl o | inr (a, b) ↦ inr ((split from).1 (inl a), b) ]
    | inr (e, b) ↦ inr ((split from).1 (inr e), b)
  ],
  λ h. (step from to).1 (elim h [
    | inl o ↦ inl ((all from to).1 (inl o))
    | inr (a, b) ↦ elim ((split from).0 a) [ inl c ↦ inl ((all from to).1 (inr (c, b))) | inr e ↦ inr (e, b) ]
  ]),
)
