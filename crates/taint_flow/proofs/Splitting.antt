-- What is carried from where a source begins: its own fact to all points that are reached, and names from where it adds them.
use Rattle.std.proofs.Common.{◌≡◌, ◌⊎◌, ◌↔◌, inl, inr, ℕ, zero, suc, ◌+◌, ◌<◌, List, [], ◌∷◌, ◌++◌, length, set, refl, sym, ap, ◌∙◌, subst, arith, Some}
use Rattle.std.specs.Prelude.{Option, slice_get}
use Rattle.std.specs.Global.{Vec}
use Rattle.std.proofs.lemmas.Bool.{cases_eq}
use Rattle.std.proofs.lemmas.Option.{slice_get_within}
use Rattle.node_tree.specs.declared.span.Span.{Span}
use Rattle.graph_form.specs.declared.graph.Graph.{Graph}
use Rattle.graph_form.specs.Sets.{Among}
use Rattle.flow_reach.specs.declared.moves.Move.{Move}
use Rattle.flow_reach.specs.declared.moves.Moves.{Moves}
use Rattle.flow_reach.specs.declared.reached.Reached.{Reached}
use Rattle.flow_reach.specs.Carried.{CarriedFrom, LeadsFrom, Stop, TurnsBy}
use Rattle.flow_reach.specs.Reached.{IsReachedFrom, Tells}
use Rattle.flow_reach.proofs.Sorted.{got_among}
use Rattle.flow_reach.proofs.Steps.{both_ways}
use Rattle.taint_plan.specs.declared.goal.Goal.{Goal}
use Rattle.taint_plan.specs.declared.plan.Plan.{Plan}
use Rattle.taint_flow.specs.declared.split.Split.{Split}
use Rattle.taint_flow.specs.Found.{AreFew, AreInside, BySource, CarriesName, FromEntry}
use Rattle.taint_flow.specs.Lowest.{Lowers}
use Rattle.taint_flow.specs.Splits.{AddsName, AreNames, IsSplit, ListHas, StartsBy}
use Rattle.taint_flow.specs.Still.{EdgesFit, KeepsFacts, Reachable}
use Rattle.taint_flow.proofs.Lowest.{lowers_none, lowers_same}
use Rattle.taint_flow.proofs.Reaching.{own_to, own_from}
use Rattle.taint_flow.proofs.Routes.{some_at}

-- a fact is that of a source or of a name
pub which : (sources fact : ℕ) → (fact < sources) ⊎ ((name : ℕ) × (fact ≡ sources + name))
which zero fact = inr (fact, omega arith)
which (suc n) zero = inl (omega arith)
which (suc n) (suc fact) = elim (which n fact) [ inl lt ↦ inl (omega (arith, lt)) | inr (name, e) ↦ inr (name, omega (arith, e)) ]

-- lists of a row of lists
module _ {X : Type 0} where
  pub list_at : (lists : List (Vec X)) (i : ℕ) (list : Vec X) (x : X) → slice_get lists i ≡ Some list → ListHas lists i x ↔ Among list.items x
  list_at [] i list x e = absurd cc
  list_at (l ∷ ls) zero list x e = let q : l ≡ list = cc in let P : Vec X → Type 0 = λ v. Among l.items x ↔ Among v.items x in subst P q (λ h. h, λ h. h)
  list_at (l ∷ ls) (suc i) list x e = list_at ls i list x e

  pub list_push : (lists : List (Vec X)) (i from : ℕ) (list new : Vec X) (y x : X) → slice_get lists i ≡ Some list → ((z : X) → Among new.items z ↔ (Among list.items z ⊎ (y ≡ z))) → ListHas (set lists i new) from x ↔ (ListHas lists from x ⊎ ((i ≡ from) × (y ≡ x)))
  list_push [] i from list new y x e more = absurd cc
  list_push (l ∷ ls) zero zero list new y x e more =
      let q : list ≡ l = cc in
      let P : Vec X → Type 0 = λ v. Among new.items x ↔ (Among v.items x ⊎ (y ≡ x)) in
      let s = subst P q (more x) in
      (λ h. elim (s.0 h) [ inl a ↦ inl a | inr b ↦ inr (refl, b) ], λ h. elim h [ inl a ↦ s.1 (inl a) | inr b ↦ s.1 (inr b.1) ])
  list_push (l ∷ ls) zero (suc from) list new y x e more = (λ h. inl h, λ h. elim h [ inl a ↦ a | inr b ↦ absurd (let z = b.0 in cc) ])
  list_push (l ∷ ls) (suc i) zero list new y x e more = (λ h. inl h, λ h. elim h [ inl a ↦ a | inr b ↦ absurd (let z = b.0 in cc) ])
  list_push (l ∷ ls) (suc i) (suc from) list new y x e more =
      let s = list_push ls i from list new y x e more in
      (λ h. elim (s.0 h) [ inl a ↦ inl a | inr b ↦ inr (ap suc b.0, b.1) ], λ h. elim h [ inl a ↦ s.1 (inl a) | inr b ↦ s.1 (inr (cc, b.1)) ])

  pub lists_none : (lists : List (Vec X)) (new : Vec X) (i : ℕ) (x : X) → ((i : ℕ) (x : X) → ListHas lists i x → ⊥) → new.items ≡ [] → ListHas (lists ++ new ∷ []) i x → ⊥
  lists_none [] new zero x none e h = let P : List X → Type 0 = λ xs. Among xs x in subst P e h
  lists_none [] new (suc i) x none e h = h
  lists_none (l ∷ ls) new zero x none e h = none zero x h
  lists_none (l ∷ ls) new (suc i) x none e h = lists_none ls new i x (λ j y t. none (suc j) y t) e h

-- the points whose names are added, one more
pub adds_more : (graph : Graph) (moves : Moves) (sources source i at name : ℕ) (row : Move) → slice_get moves.rows i ≡ Some row → (Old New : Type 0)
    → New ↔ (Old ⊎ ((i ≡ at) × Reachable graph at × Among row.adds (source, sources + name))) → Old ↔ ((at < i) × AddsName graph moves sources source (at, name)) → New ↔ ((at < i + 1) × AddsName graph moves sources source (at, name))
adds_more graph moves sources source i at name row row_at Old New step all = (
  λ h. elim (step.0 h) [
    | inl o ↦ (let a = all.0 o in (omega (arith, a.0), a.1))
    | inr (e, reach, adds) ↦ (omega (arith, e), (reach, (row, (let P : ℕ → Type 0 = λ p. slice_get moves.rows p ≡ Some row in subst P e row_at), adds)))
  ],
  λ (lt, (reach, (other, other_at, adds))). elim (cases_eq at i) [
    | inl e ↦
        let same : other ≡ row = let q : Some other ≡ Some row = sym other_at ∙ ap (slice_get moves.rows) e ∙ row_at in cc in
        let P : Move → Type 0 = λ r. Among r.adds (source, sources + name) in
        step.1 (inr (sym e, reach, subst P same adds))
    | inr ne ↦ step.1 (inl (all.1 (omega (arith, lt, ne), (reach, (other, other_at, adds)))))
  ],
)

module _ (graph : Graph) (plan : Plan) (sources : ℕ) (keeps : KeepsFacts graph plan sources) (edges : EdgesFit graph) (names : Moves) (are : AreNames sources plan.moves names) where
  -- nothing but a name's fact comes of it, and the names do what their facts do
  names_row : (i : ℕ) (row : Move) → slice_get plan.moves.rows i ≡ Some row → (named : Move) × (slice_get names.rows i ≡ Some named)
  names_row i row at = some_at names.rows i (let less = slice_get_within plan.moves.rows i row at in omega (arith, less, are.rows))

  module _ (k : ℕ) (lt : k < sources) (own : Vec ℕ) (own_at : slice_get plan.begins.items k ≡ Some own) (added : List (ℕ × ℕ)) (exact : (at : ℕ × ℕ) → Among added at ↔ AddsName graph plan.moves sources k at) where
    abbrev Starts : ℕ → ℕ → Type 0
    Starts = StartsBy graph sources own.items added

    abbrev Parts : ℕ → ℕ → Type 0
    Parts i fact = ((fact ≡ k) × Reachable graph i) ⊎ ((name : ℕ) × (fact ≡ sources + name) × CarriedFrom Starts graph names i name)

    -- the source's own fact adds a name
    own_adds : (row : Move) (name : ℕ) → TurnsBy row k (sources + name) → Among row.adds (k, sources + name)
    own_adds row name (inl (same, stays)) = absurd (omega (arith, same, lt))
    own_adds row name (inr adds) = adds

    to : (stops : List Stop) (i fact : ℕ) → LeadsFrom (FromEntry own.items) graph plan.moves stops i fact → Parts i fact
    to stops i fact leads = elim (which sources fact) [ inl small ↦ inl (own_to graph plan sources keeps k own own_at stops i fact small leads) | inr (name, e) ↦ inr (name, e, names_to stops i fact name e leads) ]
      where
        names_to : (stops : List Stop) (i fact name : ℕ) → fact ≡ sources + name → LeadsFrom (FromEntry own.items) graph plan.moves stops i fact → CarriedFrom Starts graph names i name
        names_to [] i fact name e (first, among) = ([], inl (first, (let P : ℕ → Type 0 = λ f. Among own.items f in subst P e among)))
        names_to (last ∷ earlier) i fact name e (leads, edge, (row, row_at, turns)) =
            let T : ℕ → Type 0 = λ f. TurnsBy row last.fact f in
            let turned = subst T e turns in
            elim (which sources last.fact) [
              | inl small ↦
                  let (is, reach) = own_to graph plan sources keeps k own own_at earlier last.point last.fact small leads in
                  let F : ℕ → Type 0 = λ f. TurnsBy row f (sources + name) in
                  ([], inr (last.point, (exact (last.point, name)).1 (reach, (row, row_at, own_adds row name (subst F is turned))), edge))
              | inr (before, q) ↦
                  let (stops, carried) = names_to earlier last.point last.fact before q leads in
                  let (named, named_at) = names_row last.point row row_at in
                  let F : ℕ → Type 0 = λ f. TurnsBy row f (sources + name) in
                  (record { point = last.point; fact = before } ∷ stops, (carried, edge, (named, named_at, (are.each last.point row named row_at named_at before name).1 (subst F q turned))))
            ]

    from : (stops : List Stop) (i name : ℕ) → LeadsFrom Starts graph names stops i name → CarriedFrom (FromEntry own.items) graph plan.moves i (sources + name)
    from [] i name (inl (first, among)) = ([], (first, among))
    from [] i name (inr (before, among, edge)) =
        let ((path, led), (row, row_at, adds)) = (exact (before, name)).0 among in
        let (stops, carried) = own_from graph plan sources keeps edges k own own_at lt path before led in
        (record { point = before; fact = k } ∷ stops, (carried, edge, (row, row_at, inr adds)))
    from (last ∷ earlier) i name (leads, edge, (named, named_at, turns)) =
        let (stops, carried) = from earlier last.point last.fact leads in
        let (row, row_at) = some_at plan.moves.rows last.point (let less = slice_get_within names.rows last.point named named_at in omega (arith, less, are.rows)) in
        (record { point = last.point; fact = sources + last.fact } ∷ stops, (carried, edge, (row, row_at, (are.each last.point row named row_at named_at last.fact name).0 turns)))

    -- names go from where the source adds them
    pub names_are : (i name : ℕ) → CarriesName own.items graph plan.moves sources i name ↔ CarriedFrom Starts graph names i name
    names_are i name = (
      λ (stops, leads). elim (to stops i (sources + name) leads) [
        | inl (e, reach) ↦ absurd (omega (arith, e, lt))
        | inr (other, e, carried) ↦ (let q : other ≡ name = omega (arith, e) in let P : ℕ → Type 0 = λ n. CarriedFrom Starts graph names i n in subst P q carried)
      ],
      λ (stops, leads). from stops i name leads,
    )

-- nothing is carried where nothing begins
none_lead : (Begins : ℕ → ℕ → Type 0) (graph : Graph) (moves : Moves) → ((point fact : ℕ) → Begins point fact → ⊥) → (stops : List Stop) (i fact : ℕ) → LeadsFrom Begins graph moves stops i fact → ⊥
none_lead Begins graph moves none [] i fact begins = none i fact begins
none_lead Begins graph moves none (last ∷ earlier) i fact (leads, edge, turns) = none_lead Begins graph moves none earlier last.point last.fact leads

-- ---- one source

module _ (graph : Graph) (plan : Plan) (split : Split) (keeps : KeepsFacts graph plan split.sources) (is : IsSplit graph plan split.sources split) (k : ℕ) (lt : k < split.sources) (own : Vec ℕ) (own_at : slice_get plan.begins.items k ≡ Some own) (added : List (ℕ × ℕ))
    (exact : (at : ℕ × ℕ) → Among added at ↔ AddsName graph plan.moves split.sources k at) (named : List Goal) (source : Span) where
  abbrev carries : (point name : ℕ) → CarriesName own.items graph plan.moves split.sources point name ↔ CarriedFrom (StartsBy graph split.sources own.items added) graph split.names point name
  carries = names_are graph plan split.sources keeps is.reached.edges split.names is.names k lt own own_at added exact

  -- what is told of goals is what some route carries
  pub names_done : (names : Reached) → IsReachedFrom (StartsBy graph split.sources own.items added) graph split.names names → AreInside (length graph.points) split.names.facts named → (old new : List (Option Span))
      → Lowers (BySource source (Tells names) named) old new → Lowers (BySource source (CarriesName own.items graph plan.moves split.sources) named) old new
  names_done names told inside old new low = lowers_same (BySource source (Tells names) named) (BySource source (CarriesName own.items graph plan.moves split.sources) named) old new (λ sink s. (
    λ (e, (g, among, same, tells)). (e, (g, among, same, (let r = inside g among in (carries g.point g.fact).1 ((told.exact g.point g.fact r.0 r.1).0 tells)))),
    λ (e, (g, among, same, carried)). (e, (g, among, same, (let r = inside g among in (told.exact g.point g.fact r.0 r.1).1 ((carries g.point g.fact).0 carried)))),
  )) low

  -- a source that adds no name carries none
  pub names_none : ((point name : ℕ) → StartsBy graph split.sources own.items added point name → ⊥) → (table : List (Option Span)) → Lowers (BySource source (CarriesName own.items graph plan.moves split.sources) named) table table
  names_none none table = lowers_none (BySource source (CarriesName own.items graph plan.moves split.sources) named) table (λ sink s (e, (g, among, same, carried)).
      let (stops, leads) = (carries g.point g.fact).0 carried in
      none_lead (StartsBy graph split.sources own.items added) graph split.names none stops g.point g.fact leads)

-- what stands in the list of a source
module _ (graph : Graph) (plan : Plan) (split : Split) (keeps : KeepsFacts graph plan split.sources) (is : IsSplit graph plan split.sources split) (k : ℕ) (lt : k < split.sources) (list : Vec (ℕ × ℕ)) (list_is : slice_get split.added.items k ≡ Some list) where
  pub added_is : (at : ℕ × ℕ) → Among list.items at ↔ AddsName graph plan.moves split.sources k at
  added_is at =
      let l = list_at split.added.items k list at list_is in
      both_ways _ _ _ (l.1, l.0) (is.added.exact k lt at)

  pub added_there : (point name : ℕ) → Among list.items (point, name) → point < length split.ready.after.items
  added_there point name among =
      let (reach, (row, row_at, adds)) = (added_is (point, name)).0 among in
      omega (arith, slice_get_within plan.moves.rows point row row_at, keeps.rows, is.ready.after.rows)

  -- names begin at points that are there, and are there
  pub starts_inside : (own : Vec ℕ) → slice_get plan.begins.items k ≡ Some own → AreFew plan.moves.facts plan.begins.items → (point name : ℕ) → StartsBy graph split.sources own.items list.items point name → (point < length graph.points) × (name < split.names.facts)
  starts_inside own own_at few point name (inl (first, among)) =
      (omega (arith, first, is.whole.entry), omega (arith, few own (got_among plan.begins.items k own own_at) (split.sources + name) among, is.names.facts))
  starts_inside own own_at few point name (inr (before, among, edge)) =
      let (reach, (row, row_at, adds)) = (added_is (before, name)).0 among in
      let fact = ((is.whole.speaks before row row_at).adds k (split.sources + name) adds).1 in
      ((is.whole.edges before point edge).1, omega (arith, fact, is.names.facts))
