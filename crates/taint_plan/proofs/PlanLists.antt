-- The facts that begin with sources, and which facts there are.
use Rattle.std.proofs.Common.{◌≡◌, ◌⊎◌, ◌↔◌, inl, inr, ℕ, zero, suc, ◌+◌, ◌<◌, List, [], ◌∷◌, ◌++◌, length, set, take, get_or, refl, sym, ap, ◌∙◌, subst, arith}
use Rattle.std.specs.Prelude.{Some, slice_get}
use Rattle.std.specs.Borrow.{Bor}
use Rattle.std.specs.Global.{Vec}
use Rattle.std.proofs.lemmas.Bool.{cases_lt}
use Rattle.std.proofs.lemmas.List.{length-map}
use Rattle.std.proofs.lemmas.Option.{slice_get_within}
use Rattle.node_tree.specs.declared.node.Node.{Node}
use Rattle.node_tree.specs.declared.span.Span.{Span}
use Rattle.node_tree.specs.Numbers.{Numbered}
use Rattle.node_tree.specs.Tree.{text_of, span_of}
use Rattle.graph_form.specs.declared.graph.Point.{Point}
use Rattle.graph_form.specs.Sets.{Among}
use Rattle.graph_form.proofs.Amongs.{among_more}
use Rattle.flow_reach.specs.Spread.{RowHas}
use Rattle.flow_reach.proofs.Sorted.{among_got}
use Rattle.flow_reach.proofs.Steps.{row_at}
use Rattle.assignments.specs.Declarators.{parameters_of}
use Rattle.taint_tables.specs.declared.census.Census.{Census}
use Rattle.taint_plan.specs.declared.goal.Goal.{Goal}
use Rattle.taint_tables.specs.declared.sets.Carry.{Carry}
use Rattle.taint_plan.specs.Begins.{BeginsHere, BeginsAmong}
use Rattle.taint_tables.specs.Censuses.{AreNumbered, texts_of}
use Rattle.taint_tables.specs.Numbers.{Numbering}
use Rattle.taint_plan.specs.Facts.{BeginsBy, PointFactOf}
use Rattle.taint_tables.specs.Taints.{IsFactOf}
use Rattle.taint_tables.specs.Numbers.{numbers_of}
use Rattle.taint_plan.specs.SinkGoals.{IsGoal}

-- ---- rows

pub row_pushed : (t : List (Vec ℕ)) (new : Vec ℕ) (from to : ℕ) → RowHas (t ++ new ∷ []) from to ↔ (RowHas t from to ⊎ ((from ≡ length t) × Among new.items to))
row_pushed [] new zero to = (λ h. inr (refl, h), λ h. elim h [ inl a ↦ absurd a | inr b ↦ b.1 ])
row_pushed [] new (suc from) to = (λ h. absurd h, λ h. elim h [ inl a ↦ absurd a | inr b ↦ absurd (let z = b.0 in cc) ])
row_pushed (r ∷ rs) new zero to = (λ h. inl h, λ h. elim h [ inl a ↦ a | inr b ↦ absurd (let z = b.0 in cc) ])
row_pushed (r ∷ rs) new (suc from) to =
    let s = row_pushed rs new from to in
    (λ h. elim (s.0 h) [ inl a ↦ inl a | inr b ↦ inr (ap suc b.0, b.1) ], λ h. s.1 (elim h [ inl a ↦ inl a | inr b ↦ inr (cc, b.1) ]))

pub row_set : (t : List (Vec ℕ)) (i : ℕ) (row new : Vec ℕ) (Is : ℕ → Type 0) → slice_get t i ≡ Some row → ((x : ℕ) → Among new.items x ↔ (Among row.items x ⊎ Is x)) → (from to : ℕ) → RowHas (set t i new) from to ↔ (RowHas t from to ⊎ ((i ≡ from) × Is to))
row_set [] i row new Is e split from to = absurd cc
row_set (r ∷ rs) zero row new Is e split zero to =
    let q : row ≡ r = cc in
    let P : Vec ℕ → Type 0 = λ v. Among new.items to ↔ (Among v.items to ⊎ Is to) in
    let s = subst P q (split to) in
    (λ h. elim (s.0 h) [ inl a ↦ inl a | inr b ↦ inr (refl, b) ], λ h. elim h [ inl a ↦ s.1 (inl a) | inr b ↦ s.1 (inr b.1) ])
row_set (r ∷ rs) zero row new Is e split (suc from) to = (λ h. inl h, λ h. elim h [ inl a ↦ a | inr b ↦ absurd (let z = b.0 in cc) ])
row_set (r ∷ rs) (suc i) row new Is e split zero to = (λ h. inl h, λ h. elim h [ inl a ↦ a | inr b ↦ absurd (let z = b.0 in cc) ])
row_set (r ∷ rs) (suc i) row new Is e split (suc from) to =
    let s = row_set rs i row new Is e split from to in
    (λ h. elim (s.0 h) [ inl a ↦ inl a | inr b ↦ inr (ap suc b.0, b.1) ], λ h. elim h [ inl a ↦ s.1 (inl a) | inr b ↦ s.1 (inr (cc, b.1)) ])

-- each source with itself, one more
pub own_more : (old new : List (Vec ℕ)) (facts : Vec ℕ) (n : ℕ) → length old ≡ n → facts.items ≡ n ∷ [] → new ≡ old ++ facts ∷ [] → ((source fact : ℕ) → RowHas old source fact ↔ ((source < n) × (fact ≡ source)))
    → (source fact : ℕ) → RowHas new source fact ↔ ((source < n + 1) × (fact ≡ source))
own_more old new facts n size only is all source fact =
    let p = row_pushed old facts source fact in
    let P : List (Vec ℕ) → Type 0 = λ t. RowHas t source fact ↔ ((source < n + 1) × (fact ≡ source)) in
    let Q : List ℕ → Type 0 = λ xs. Among xs fact in
    subst P (sym is) (
      λ h. elim (p.0 h) [
        | inl a ↦ let (lt, e) = (all source fact).0 a in (omega (arith, lt), e)
        | inr (at, among) ↦ (omega (arith, at, size), elim (subst Q only among) [ inl e ↦ omega (arith, e, at, size) | inr none ↦ absurd none ])
      ],
      λ (lt, e). p.1 (elim (cases_lt source n) [
        | inl less ↦ inl ((all source fact).1 (less, e))
        | inr ge ↦ inr (omega (arith, lt, ge, size), subst Q (sym only) (inl (omega (arith, lt, ge, e))))
      ]),
    )

-- the fact of a parameter that is a source begins with it
pub begins_here : (numbers : Numbering) (s : Numbered) (t : List (Vec ℕ)) (i : ℕ) (row new : Vec ℕ) → numbers.source (span_of s.node) ≡ Some i → slice_get t i ≡ Some row → ((x : ℕ) → Among new.items x ↔ (Among row.items x ⊎ IsFactOf numbers (text_of s.node) x))
    → (source fact : ℕ) → RowHas (set t i new) source fact ↔ (RowHas t source fact ⊎ BeginsHere numbers s source fact)
begins_here numbers s t i row new found got split source fact =
    let r = row_set t i row new (IsFactOf numbers (text_of s.node)) got split source fact in (
      λ h. elim (r.0 h) [ inl a ↦ inl a | inr (e, f) ↦ inr (found ∙ ap (λ k. Some k) e, f) ],
      λ h. r.1 (elim h [ inl a ↦ inl a | inr (e, f) ↦ inr (let q : Some i ≡ Some source = sym found ∙ e in cc, f) ]),
    )

-- a parameter more
pub begins_more : (numbers : Numbering) (xs ys : List Numbered) (y : Numbered) → ((s : Numbered) → Among ys s ↔ (Among xs s ⊎ (y ≡ s))) → (source fact : ℕ) → BeginsAmong numbers ys source fact ↔ (BeginsAmong numbers xs source fact ⊎ BeginsHere numbers y source fact)
begins_more numbers xs ys y split source fact = (
  λ (s, among, here). elim ((split s).0 among) [
    | inl a ↦ inl (s, a, here)
    | inr e ↦ inr (let P : Numbered → Type 0 = λ z. BeginsHere numbers z source fact in subst P (sym e) here)
  ],
  λ h. elim h [ inl (s, a, here) ↦ (s, (split s).1 (inl a), here) | inr here ↦ (y, (split y).1 (inr refl), here) ],
)

-- an item more, as it is read
pub item_more : (xs : List (Vec ℕ)) (i : ℕ) (x : Vec ℕ) → i < length xs → x ≡ get_or xs i x → (y : Vec ℕ) → Among (take (i + 1) xs) y ↔ (Among (take i xs) y ⊎ (x ≡ y))
item_more xs i x lt is y = let P : Vec ℕ → Type 0 = λ z. Among (take (i + 1) xs) y ↔ (Among (take i xs) y ⊎ (z ≡ y)) in subst P (sym is) (among_more xs i x lt y)

-- lists of facts, one more
pub all_more : (xs ys : List (Vec ℕ)) (y : Vec ℕ) → ((x : Vec ℕ) → Among ys x ↔ (Among xs x ⊎ (y ≡ x))) → (fact : ℕ) → ((x : Vec ℕ) × Among ys x × Among x.items fact) ↔ (((x : Vec ℕ) × Among xs x × Among x.items fact) ⊎ Among y.items fact)
all_more xs ys y split fact = (
  λ (x, among, is). elim ((split x).0 among) [
    | inl a ↦ inl (x, a, is)
    | inr e ↦ inr (let P : Vec ℕ → Type 0 = λ z. Among z.items fact in subst P (sym e) is)
  ],
  λ h. elim h [ inl (x, a, is) ↦ (x, (split x).1 (inl a), is) | inr is ↦ (y, (split y).1 (inr refl), is) ],
)

-- what a point does, where the same carries are listed otherwise
pub carried_as : (nodes : List Node) (spans : List Span) (carries others : List Carry) (numbers : Numbering) → ((c : Carry) → Among carries c ↔ Among others c) → (p : Point) (from to : ℕ) → PointFactOf nodes spans carries numbers p from to ↔ PointFactOf nodes spans others numbers p from to
carried_as nodes spans carries others numbers same p from to = (
  λ h. elim h [ inl after ↦ inl after | inr (c, among, fact) ↦ inr (c, (same c).0 among, fact) ],
  λ h. elim h [ inl after ↦ inl after | inr (c, among, fact) ↦ inr (c, (same c).1 among, fact) ],
)

-- ---- plans

module _ (census : Census) (are : AreNumbered census) where
  abbrev numbers : Numbering
  numbers = numbers_of census

  abbrev most : ℕ
  most = length census.sources.keys.items + length census.names.keys.items

  pub source_below : (span : Span) (i : ℕ) → numbers.source span ≡ Some i → i < length census.sources.keys.items
  source_below span i e = slice_get_within census.sources.keys.items i span ((are.sources span i).0 e)

  fact_below : (name : List ℕ) (fact : ℕ) → IsFactOf numbers name fact → fact < most
  fact_below name fact (m, has, e) =
      let size : length (texts_of census) ≡ length census.names.keys.items = length-map census.names.keys.items (λ (k : Bor (List ℕ)). k.now) in
      omega (arith, e, size, slice_get_within (texts_of census) m name ((are.names name m).0 has))

  pub goal_below : (nodes : List Node) (points : List Point) (spans sinks : List Span) (g : Goal) → IsGoal nodes points spans sinks numbers g → g.fact < most
  goal_below nodes points spans sinks g (p, at, (range, sink, (e, outer, (x, shown, inl source)))) = omega (arith, source_below (span_of x) g.fact source)
  goal_below nodes points spans sinks g (p, at, (range, sink, (e, outer, (x, shown, inr (is, fact))))) = fact_below (text_of x) g.fact fact

  module _ (nodes : List Node) (unit : ℕ) (begins : List (Vec ℕ)) (rows : (source fact : ℕ) → RowHas begins source fact ↔ (((source < length census.sources.keys.items) × (fact ≡ source)) ⊎ BeginsAmong numbers (parameters_of nodes unit) source fact)) where
    pub begins_are : (k : ℕ) (source : Span) (facts : Vec ℕ) → slice_get census.sources.keys.items k ≡ Some source → slice_get begins k ≡ Some facts → (fact : ℕ) → Among facts.items fact ↔ BeginsBy nodes unit numbers source k fact
    begins_are k source facts key got fact =
        let row = row_at begins k facts fact got in (
          λ h. elim ((rows k fact).0 (row.1 h)) [
            | inl (lt, e) ↦ inl e
            | inr (s, among, (is, f)) ↦ inr (text_of s.node, f, (s, among, (let q : Some (span_of s.node) ≡ Some source = sym ((are.sources (span_of s.node) k).0 is) ∙ key in cc), refl))
          ],
          λ h. row.0 ((rows k fact).1 (elim h [
            | inl e ↦ inl (slice_get_within census.sources.keys.items k source key, e)
            | inr (n, f, (s, among, is, text)) ↦
                let P : List ℕ → Type 0 = λ t. IsFactOf numbers t fact in
                inr (s, among, ((are.sources (span_of s.node) k).1 (key ∙ ap (λ z. Some z) (sym is)), subst P (sym text) f))
          ])),
        )

    pub begin_below : (facts : Vec ℕ) → Among begins facts → (fact : ℕ) → Among facts.items fact → fact < most
    begin_below facts among fact is =
        let (k, got) = among_got begins facts among in
        elim ((rows k fact).0 ((row_at begins k facts fact got).1 is)) [
          | inl (lt, e) ↦ omega (arith, lt, e)
          | inr (s, there, (source, f)) ↦ fact_below (text_of s.node) fact f
        ]
