-- Facts with what they come from.
use Rattle.std.proofs.Common.{◌≡◌, ◌⊎◌, ◌↔◌, inl, inr, ℕ, Bool, true, false, List, [], ◌∷◌, ◌++◌, refl, sym, ap, ◌∙◌, subst}
use Rattle.std.specs.Prelude.{Option, None, Some, is_some, IsTrue, eqb}
use Rattle.std.specs.List.{Contains, dedup}
use Rattle.std.specs.Global.{Vec}
use Rattle.std.specs.declared.cmp.Ordering.{Ordering}
use Rattle.std.specs.declared.cmp.Ordering.TheVariants.{Less, Equal, Greater}
use Rattle.std.specs.Ordering.{is_eq, nat_cmp}
use Rattle.std.specs.BTreeMap.{BTreeMap, get}
use Rattle.std.proofs.lemmas.Bool.{cases_eq}
use Rattle.std.proofs.lemmas.List.Kept.{Contains-dedup_nat, Contains-from_dedup}
use Rattle.std.proofs.lemmas.Map.Lookups.{exact_unsigned}
use Rattle.graph_form.specs.Sets.{Among}
use Rattle.flow_reach.specs.declared.moves.Move.{Move}
use Rattle.flow_reach.specs.Carried.{TurnsBy}
use Rattle.graph_form.proofs.Amongs.{among_place, among_at, among_push}
use Rattle.taint_form.specs.declared.origins.Aim.{Aim}
use Rattle.taint_form.specs.declared.origins.Origins.{Origins}
use Rattle.taint_form.specs.Origins.{ComesBy, Comes, ComesAny, AfterOne, IsAim, IsRenewed, IsListed, JoinsTo, AddsBy}

pub is_equal : (o : Ordering) → is_eq o ≡ true → o ≡ Equal
is_equal Less e = absurd cc
is_equal Equal e = refl
is_equal Greater e = absurd cc

pub apart : (a b : ℕ) → (a ≡ b → ⊥) → is_eq (nat_cmp a b) ≡ false
apart a b ne = by (is_eq (nat_cmp a b)) refl
  where
    by : (r : Bool) → is_eq (nat_cmp a b) ≡ r → r ≡ false
    by true e = absurd (ne (exact_unsigned a b (is_equal (nat_cmp a b) e)))
    by false e = refl

-- ---- lists

there : (xs : List ℕ) (x : ℕ) → Among xs x → Contains xs x
there xs x h = among_place x xs x h

back : (xs : List ℕ) (x : ℕ) → Contains xs x → Among xs x
back xs x h = let P : ℕ → Type 0 = λ z. Among xs z in subst P h.2 (among_at xs h.0 x h.1)

pub among_dedup : (xs : List ℕ) (x : ℕ) → Among (dedup eqb xs) x ↔ Among xs x
among_dedup xs x = (λ h. back xs x (Contains-from_dedup eqb xs x (there (dedup eqb xs) x h)), λ h. back (dedup eqb xs) x (Contains-dedup_nat xs x (there xs x h)))

-- ---- one fact is touched

module _ (old new : BTreeMap ℕ (Vec ℕ)) (fact : ℕ) (value : Vec ℕ) (here : get nat_cmp new fact ≡ Some value) (others : (q : ℕ) → is_eq (nat_cmp fact q) ≡ false → get nat_cmp new q ≡ get nat_cmp old q) where
  pub comes_here : (from : ℕ) → ComesBy (get nat_cmp new fact) from fact ↔ Among value.items from
  comes_here from = let P : Option (Vec ℕ) → Type 0 = λ r. ComesBy r from fact ↔ Among value.items from in subst P (sym here) (λ h. h, λ h. h)

  pub comes_elsewhere : (from to : ℕ) → (fact ≡ to → ⊥) → ComesBy (get nat_cmp new to) from to ↔ ComesBy (get nat_cmp old to) from to
  comes_elsewhere from to ne = let P : Option (Vec ℕ) → Type 0 = λ r. ComesBy r from to ↔ ComesBy (get nat_cmp old to) from to in subst P (sym (others to (apart fact to ne))) (λ h. h, λ h. h)

  pub listed_after : (o p : Origins) → p.from ≡ new → o.from ≡ old → IsListed o → ((f : ℕ) → Among p.touched.items f ↔ (Among o.touched.items f ⊎ (fact ≡ f))) → IsListed p
  listed_after o p is was listed split = record {
    listed = λ f origins got. elim (cases_eq fact f) [
      | inl e ↦ (split f).1 (inr e)
      | inr ne ↦
          let same : get nat_cmp o.from f ≡ Some origins = ap (λ m. get nat_cmp m f) was ∙ sym (others f (apart fact f ne)) ∙ ap (λ m. get nat_cmp m f) (sym is) ∙ got in
          (split f).1 (inl (listed.listed f origins same))
    ];
    there = λ f among. elim (cases_eq fact f) [
      | inl e ↦ (value, ap (λ m. get nat_cmp m f) is ∙ ap (get nat_cmp new) (sym e) ∙ here)
      | inr ne ↦ elim ((split f).0 among) [
        | inl a ↦ let r = listed.there f a in (r.0, ap (λ m. get nat_cmp m f) is ∙ others f (apart fact f ne) ∙ ap (λ m. get nat_cmp m f) (sym was) ∙ r.1)
        | inr e ↦ absurd (ne e)
      ]
    ];
  }

some_of : (o : Option (Vec ℕ)) → is_some o ≡ true → (v : Vec ℕ) × (o ≡ Some v)
some_of None e = absurd cc
some_of (Some v) e = (v, refl)

-- a fact that has what it comes from is listed already
pub listed_already : (o : Origins) (fact : ℕ) → IsListed o → is_some (get nat_cmp o.from fact) ≡ true → (f : ℕ) → Among o.touched.items f ↔ (Among o.touched.items f ⊎ (fact ≡ f))
listed_already o fact listed has f = (
  λ h. inl h,
  λ h. elim h [
    | inl a ↦ a
    | inr e ↦ let r = some_of (get nat_cmp o.from fact) has in let P : ℕ → Type 0 = λ z. Among o.touched.items z in subst P e (listed.listed fact r.0 r.1)
  ],
)

-- ---- one target

aim_one : (aim : Aim) (to : ℕ) → IsAim (aim ∷ []) to ↔ (aim.fact ≡ to)
aim_one aim to = (λ (a, among, e). elim among [ inl q ↦ ap (λ (z : Aim). z.fact) q ∙ e | inr none ↦ absurd none ], λ e. (aim, inl refl, e))

renewed_one : (aim : Aim) (to : ℕ) → IsRenewed (aim ∷ []) to ↔ ((aim.fact ≡ to) × IsTrue aim.renewed)
renewed_one aim to = (
  λ (a, among, e, r). elim among [
    | inl q ↦ let P : Aim → Type 0 = λ (z : Aim). IsTrue z.renewed in (ap (λ (z : Aim). z.fact) q ∙ e, subst P (sym q) r)
    | inr none ↦ absurd none
  ],
  λ (e, r). (aim, inl refl, e, r),
)

pub after_one : (value : List ℕ) (Before After : ℕ → ℕ → Type 0) (aim : Aim) (joined : List ℕ) → ((from : ℕ) → Among joined from ↔ JoinsTo value Before aim from)
    → ((from : ℕ) → After from aim.fact ↔ Among joined from) → ((from to : ℕ) → (aim.fact ≡ to → ⊥) → After from to ↔ Before from to)
    → (from to : ℕ) → After from to ↔ AfterOne (Among value) Before (aim ∷ []) from to
after_one value Before After aim joined joins here others from to = elim (cases_eq aim.fact to) [
  | inl e ↦
      let P : ℕ → Type 0 = λ z. After from z ↔ AfterOne (Among value) Before (aim ∷ []) from z in
      subst P e (
        λ h. elim ((joins from).0 ((here from).0 h)) [
          | inl v ↦ inl ((aim_one aim aim.fact).1 refl, v)
          | inr (b, un) ↦ inr (b, λ r. un ((renewed_one aim aim.fact).0 r).1)
        ],
        λ h. (here from).1 ((joins from).1 (elim h [
          | inl (a, v) ↦ inl v
          | inr (b, un) ↦ inr (b, λ r. un ((renewed_one aim aim.fact).1 (refl, r)))
        ])),
      )
  | inr ne ↦
      let o = others from to ne in (
        λ h. inr (o.0 h, λ r. ne ((renewed_one aim to).0 r).0),
        λ h. o.1 (elim h [ inl (a, v) ↦ absurd (ne ((aim_one aim to).0 a)) | inr (b, un) ↦ b ]),
      )
]

-- ---- several targets

module _ (Value : ℕ → Type 0) (Before : ℕ → ℕ → Type 0) where
  pub after_none : (from to : ℕ) → Before from to ↔ AfterOne Value Before [] from to
  after_none from to = (λ h. inr (h, λ (a, none, e, r). absurd none), λ h. elim h [ inl (a, v) ↦ absurd a.1 | inr (b, un) ↦ b ])

  -- one target more
  pub after_more : (Mid After : ℕ → ℕ → Type 0) (xs ys : List Aim) (aim : Aim) → ((x : Aim) → Among ys x ↔ (Among xs x ⊎ (aim ≡ x)))
      → ((from to : ℕ) → Mid from to ↔ AfterOne Value Before xs from to) → ((from to : ℕ) → After from to ↔ AfterOne Value Mid (aim ∷ []) from to)
      → (from to : ℕ) → After from to ↔ AfterOne Value Before ys from to
  after_more Mid After xs ys aim split mid step from to = (
    λ h. elim ((step from to).0 h) [
      | inl (a, v) ↦ inl (let e = (aim_one aim to).0 a in (aim, (split aim).1 (inr refl), e), v)
      | inr (m, un) ↦ elim ((mid from to).0 m) [
        | inl ((a, among, e), v) ↦ inl ((a, (split a).1 (inl among), e), v)
        | inr (b, unless) ↦ inr (
          b,
          λ (a, among, e, r). elim ((split a).0 among) [
            | inl o ↦ unless (a, o, e, r)
            | inr q ↦ let P : Aim → Type 0 = λ (z : Aim). IsTrue z.renewed in un ((renewed_one aim to).1 (ap (λ (z : Aim). z.fact) q ∙ e, subst P (sym q) r))
          ],
        )
      ]
    ],
    λ h. (step from to).1 (elim h [
      | inl ((a, among, e), v) ↦ elim ((split a).0 among) [
        | inl o ↦ kept ((mid from to).1 (inl ((a, o, e), v))) v
        | inr q ↦ inl ((aim_one aim to).1 (ap (λ (z : Aim). z.fact) q ∙ e), v)
      ]
      | inr (b, unless) ↦ inr ((mid from to).1 (inr (b, λ (a, among, e, r). unless (a, (split a).1 (inl among), e, r))), λ r. let q = (renewed_one aim to).0 r in unless (aim, (split aim).1 (inr refl), q.0, q.1))
    ]),
  )
    where
      kept : Mid from to → Value from → AfterOne Value Mid (aim ∷ []) from to
      kept m v = elim (cases_eq aim.fact to) [
        | inl e ↦ inl ((aim_one aim to).1 e, v)
        | inr ne ↦ inr (m, λ r. ne ((renewed_one aim to).0 r).0)
      ]

  -- the same value
  pub after_as : (Other : ℕ → Type 0) → ((from : ℕ) → Value from ↔ Other from) → (aims : List Aim) (from to : ℕ) → AfterOne Value Before aims from to ↔ AfterOne Other Before aims from to
  after_as Other same aims from to = (
    λ h. elim h [ inl (a, v) ↦ inl (a, (same from).0 v) | inr b ↦ inr b ],
    λ h. elim h [ inl (a, v) ↦ inl (a, (same from).1 v) | inr b ↦ inr b ],
  )

-- facts of which one more was looked up
pub any_more : (Before : ℕ → ℕ → Type 0) (xs ys : List ℕ) (y from : ℕ) (mid new : List ℕ) → ((x : ℕ) → Among ys x ↔ (Among xs x ⊎ (y ≡ x))) → (Among mid from ↔ ComesAny Before xs from)
    → (Among new from ↔ (Among mid from ⊎ Before from y)) → Among new from ↔ ComesAny Before ys from
any_more Before xs ys y from mid new split all step = (
  λ h. elim (step.0 h) [
    | inl m ↦ let t = all.0 m in (t.0, (split t.0).1 (inl t.1), t.2)
    | inr b ↦ (y, (split y).1 (inr refl), b)
  ],
  λ (f, among, b). elim ((split f).0 among) [
    | inl a ↦ step.1 (inl (all.1 (f, a, b)))
    | inr e ↦ step.1 (inr (let P : ℕ → Type 0 = λ z. Before from z in subst P (sym e) b))
  ],
)

-- one number more of a loop that adds them
pub pushed_more : (old xs ys : List ℕ) (y : ℕ) (mid new : List ℕ) → ((x : ℕ) → Among ys x ↔ (Among xs x ⊎ (y ≡ x))) → ((x : ℕ) → Among mid x ↔ (Among old x ⊎ Among xs x))
    → new ≡ mid ++ y ∷ [] → (x : ℕ) → Among new x ↔ (Among old x ⊎ Among ys x)
pushed_more old xs ys y mid new split all is x =
    let p = among_push mid y x in
    let P : List ℕ → Type 0 = λ zs. Among zs x ↔ (Among old x ⊎ Among ys x) in
    subst P (sym is) (
      λ h. elim (p.0 h) [
        | inl m ↦ elim ((all x).0 m) [ inl o ↦ inl o | inr a ↦ inr ((split x).1 (inl a)) ]
        | inr e ↦ inr ((split x).1 (inr e))
      ],
      λ h. p.1 (elim h [
        | inl o ↦ inl ((all x).1 (inl o))
        | inr a ↦ elim ((split x).0 a) [ inl b ↦ inl ((all x).1 (inr b)) | inr e ↦ inr e ]
      ]),
    )

-- a target that isn't renewed keeps what it came from
pub joined_old : (value old new all : List ℕ) (Before : ℕ → ℕ → Type 0) (aim : Aim) → aim.renewed ≡ false → old ≡ value → ((x : ℕ) → Among new x ↔ (Among old x ⊎ Before x aim.fact))
    → ((x : ℕ) → Among all x ↔ Among new x) → (from : ℕ) → Among all from ↔ JoinsTo value Before aim from
joined_old value old new all Before aim off is split same from =
    let P : List ℕ → Type 0 = λ xs. Among all from ↔ (Among xs from ⊎ (Before from aim.fact × (IsTrue aim.renewed → ⊥))) in
    subst P is (
      λ h. elim ((split from).0 ((same from).0 h)) [ inl o ↦ inl o | inr b ↦ inr (b, λ t. let e : true ≡ false = sym t ∙ off in cc) ],
      λ h. (same from).1 ((split from).1 (elim h [ inl o ↦ inl o | inr (b, un) ↦ inr b ])),
    )

-- a target that is renewed comes from the value alone
pub joined_new : (value all : List ℕ) (Before : ℕ → ℕ → Type 0) (aim : Aim) → IsTrue aim.renewed → all ≡ value → (from : ℕ) → Among all from ↔ JoinsTo value Before aim from
joined_new value all Before aim on is from =
    let P : List ℕ → Type 0 = λ xs. Among all from ↔ (Among xs from ⊎ (Before from aim.fact × (IsTrue aim.renewed → ⊥))) in
    subst P is (λ h. inl h, λ h. elim h [ inl o ↦ o | inr (b, un) ↦ absurd (un on) ])

-- ---- rows

-- pairs of one fact, one more
pub pairs_more : (old mid new : List (ℕ × ℕ)) (xs ys : List ℕ) (y fact : ℕ) → ((x : ℕ) → Among ys x ↔ (Among xs x ⊎ (y ≡ x)))
    → ((from to : ℕ) → Among mid (from, to) ↔ (Among old (from, to) ⊎ ((fact ≡ to) × Among xs from))) → new ≡ mid ++ (y, fact) ∷ []
    → (from to : ℕ) → Among new (from, to) ↔ (Among old (from, to) ⊎ ((fact ≡ to) × Among ys from))
pairs_more old mid new xs ys y fact split all is from to =
    let p = among_push mid (y, fact) (from, to) in
    let P : List (ℕ × ℕ) → Type 0 = λ zs. Among zs (from, to) ↔ (Among old (from, to) ⊎ ((fact ≡ to) × Among ys from)) in
    subst P (sym is) (
      λ h. elim (p.0 h) [
        | inl m ↦ elim ((all from to).0 m) [ inl o ↦ inl o | inr (e, a) ↦ inr (e, (split from).1 (inl a)) ]
        | inr e ↦ inr (ap (λ (z : ℕ × ℕ). z.1) e, (split from).1 (inr (ap (λ (z : ℕ × ℕ). z.0) e)))
      ],
      λ h. p.1 (elim h [
        | inl o ↦ inl ((all from to).1 (inl o))
        | inr (e, a) ↦ elim ((split from).0 a) [ inl b ↦ inl ((all from to).1 (inr (e, b))) | inr q ↦ inr (λ i. (q i, e i)) ]
      ]),
    )

-- the facts that a listed fact comes from are added
pub adds_some : (o : Origins) (fact : ℕ) (origins : Vec ℕ) (items : List ℕ) (old new : List (ℕ × ℕ)) → get nat_cmp o.from fact ≡ Some origins → items ≡ origins.items
    → ((from to : ℕ) → Among new (from, to) ↔ (Among old (from, to) ⊎ ((fact ≡ to) × Among items from)))
    → (from to : ℕ) → Among new (from, to) ↔ (Among old (from, to) ⊎ AddsBy o fact from to)
adds_some o fact origins items old new got is all from to = (
  λ h. elim ((all from to).0 h) [
    | inl a ↦ inl a
    | inr (e, a) ↦ inr (e, origins, got, let P : List ℕ → Type 0 = λ xs. Among xs from in subst P is a)
  ],
  λ h. (all from to).1 (elim h [
    | inl a ↦ inl a
    | inr (e, other, has, a) ↦
        let q : Some other ≡ Some origins = sym has ∙ got in
        let same : other ≡ origins = cc in
        inr (e, let P : List ℕ → Type 0 = λ xs. Among xs from in subst P (ap (λ (v : Vec ℕ). v.items) same ∙ sym is) a)
  ]),
)

pub adds_none : (o : Origins) (fact : ℕ) (all : List (ℕ × ℕ)) → get nat_cmp o.from fact ≡ None → (from to : ℕ) → Among all (from, to) ↔ (Among all (from, to) ⊎ AddsBy o fact from to)
adds_none o fact all none from to = (λ h. inl h, λ h. elim h [ inl a ↦ a | inr (e, other, has, a) ↦ absurd (let q : None ≡ Some other = sym none ∙ has in cc) ])

-- listed facts, one more
pub row_more : (o : Origins) (mid new : List (ℕ × ℕ)) (xs ys : List ℕ) (y : ℕ) → ((x : ℕ) → Among ys x ↔ (Among xs x ⊎ (y ≡ x)))
    → ((from to : ℕ) → Among mid (from, to) ↔ ((fact : ℕ) × Among xs fact × AddsBy o fact from to)) → ((from to : ℕ) → Among new (from, to) ↔ (Among mid (from, to) ⊎ AddsBy o y from to))
    → (from to : ℕ) → Among new (from, to) ↔ ((fact : ℕ) × Among ys fact × AddsBy o fact from to)
row_more o mid new xs ys y split all step from to = (
  λ h. elim ((step from to).0 h) [
    | inl m ↦ let r = (all from to).0 m in (r.0, (split r.0).1 (inl r.1), r.2)
    | inr a ↦ (y, (split y).1 (inr refl), a)
  ],
  λ (f, among, a). (step from to).1 (elim ((split f).0 among) [
    | inl b ↦ inl ((all from to).1 (f, b, a))
    | inr e ↦ inr (let P : ℕ → Type 0 = λ z. AddsBy o z from to in subst P (sym e) a)
  ]),
)

-- what the row turns is what facts come from, and what is carried over
pub row_turns : (o : Origins) → IsListed o → (row : Move) (own carried : List (ℕ × ℕ)) → ((f : ℕ) → Among row.drops f ↔ Among o.touched.items f)
    → ((from to : ℕ) → Among own (from, to) ↔ ((fact : ℕ) × Among o.touched.items fact × AddsBy o fact from to))
    → ((from to : ℕ) → Among row.adds (from, to) ↔ (Among own (from, to) ⊎ Among carried (from, to)))
    → (from to : ℕ) → TurnsBy row from to ↔ (Comes o from to ⊎ Among carried (from, to))
row_turns o listed row own carried drops owns adds from to = (
  λ h. elim h [
    | inl (e, kept) ↦ inl (untouched (get nat_cmp o.from to) refl e kept)
    | inr a ↦ elim ((adds from to).0 a) [
      | inl b ↦ let r = (owns from to).0 b in inl (added r.0 r.2)
      | inr c ↦ inr c
    ]
  ],
  λ h. elim h [
    | inl c ↦ turns (get nat_cmp o.from to) refl c
    | inr c ↦ inr ((adds from to).1 (inr c))
  ],
)
  where
    untouched : (r : Option (Vec ℕ)) → get nat_cmp o.from to ≡ r → from ≡ to → (Among row.drops from → ⊥) → ComesBy r from to
    untouched None q e kept = sym e
    untouched (Some origins) q e kept = absurd (kept (let P : ℕ → Type 0 = λ z. Among row.drops z in subst P (sym e) ((drops to).1 (listed.listed to origins q))))

    added : (fact : ℕ) → AddsBy o fact from to → Comes o from to
    added fact (e, origins, got, among) =
        let P : Option (Vec ℕ) → Type 0 = λ r. ComesBy r from to in
        subst P (sym got ∙ ap (get nat_cmp o.from) e) among

    none_there : Among row.drops to → get nat_cmp o.from to ≡ None → ⊥
    none_there among q = let r = listed.there to ((drops to).0 among) in let e : Some r.0 ≡ None = sym r.1 ∙ q in cc

    turns : (r : Option (Vec ℕ)) → get nat_cmp o.from to ≡ r → ComesBy r from to → TurnsBy row from to
    turns None q c = inl (sym c, λ among. none_there (let P : ℕ → Type 0 = λ z. Among row.drops z in subst P (sym c) among) q)
    turns (Some origins) q c = inr ((adds from to).1 (inl ((owns from to).1 (to, listed.listed to origins q, (refl, origins, q, c)))))
