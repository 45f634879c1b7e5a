-- A source's own fact is carried to all points that are reached.
use Rattle.std.proofs.Common.{◌≡◌, ◌↔◌, inl, inr, ℕ, ◌+◌, ◌<◌, List, [], ◌∷◌, ◌++◌, length, take, get_or, refl, sym, ap, ◌∙◌, subst, arith, Some}
use Rattle.std.specs.Prelude.{Option, slice_get}
use Rattle.std.specs.Global.{Vec}
use Rattle.std.proofs.lemmas.Option.{slice_get_within}
use Rattle.node_tree.specs.declared.node.Node.{Node}
use Rattle.node_tree.specs.declared.span.Span.{Span}
use Rattle.graph_form.specs.declared.graph.Graph.{Graph}
use Rattle.graph_form.specs.declared.graph.Point.{Point}
use Rattle.graph_form.specs.Sets.{Among}
use Rattle.graph_form.proofs.Amongs.{among_more, among_push}
use Rattle.flow_reach.specs.declared.moves.Move.{Move}
use Rattle.flow_reach.specs.declared.moves.Moves.{Moves}
use Rattle.flow_reach.specs.declared.reached.Reached.{Reached}
use Rattle.flow_reach.specs.Carried.{AtEntry as FromStart, CarriedFrom, Fits, LeadsFrom, Stop, TurnsBy}
use Rattle.flow_reach.specs.Reached.{IsReached, Tells}
use Rattle.flow_reach.proofs.Sorted.{got_among}
use Rattle.assignments.specs.Assignments.{assigned_of}
use Rattle.assignments.specs.Seen.{Assigned}
use Rattle.taint_tables.specs.declared.census.Census.{Census}
use Rattle.taint_plan.specs.declared.goal.Goal.{Goal}
use Rattle.taint_plan.specs.declared.plan.Plan.{Plan}
use Rattle.taint_tables.specs.declared.sets.TaintSets.{TaintSets}
use Rattle.taint_plan.specs.Facts.{AfterFact, AfterFacts, PointFact, Same}
use Rattle.taint_tables.specs.Taints.{IsFactOf}
use Rattle.taint_tables.specs.Numbers.{Numbering}
use Rattle.taint_flow.specs.Found.{AreInside, ByPlan, FromEntry}
use Rattle.taint_tables.specs.Numbers.{numbers_of}
use Rattle.taint_flow.specs.Lowest.{Lowers}
use Rattle.taint_plan.specs.Plans.{IsPlan}
use Rattle.taint_flow.specs.Still.{AreReachable, AreStill, BySources, EdgesFit, IsStill, KeepsFacts, LeadTo, Reachable}
use Rattle.taint_flow.proofs.Lowest.{lowers_same, lowers_then}
use Rattle.taint_flow.proofs.Routes.{some_at}

-- ---- rows that change nothing

pub still_more : (old new : List Move) (row : Move) → new ≡ old ++ row ∷ [] → IsStill row → ((r : Move) → Among old r → IsStill r) → (r : Move) → Among new r → IsStill r
still_more old new row is still all r among =
    let P : List Move → Type 0 = λ rs. Among rs r in
    elim ((among_push old row r).0 (subst P is among)) [ inl before ↦ all r before | inr e ↦ subst IsStill e still ]

still_turns : (row : Move) (fact : ℕ) → IsStill row → TurnsBy row fact fact
still_turns row fact (drops, adds) = inl (refl, λ among. (let P : List ℕ → Type 0 = λ fs. Among fs fact in subst P drops among))

-- ---- a plan with no facts of names

no_name : (numbers : Numbering) (n : List ℕ) (fact : ℕ) → IsFactOf numbers n fact → fact < numbers.sources → ⊥
no_name numbers n fact (m, has, e) lt = omega (arith, e, lt)

after_still : (spans : List Span) (numbers : Numbering) (R : ℕ → ℕ → Type 0) (list : List Assigned) (from to : ℕ) → to < numbers.sources → AfterFacts spans numbers R list from to ↔ R from to
after_still spans numbers R [] from to lt = (λ h. h, λ h. h)
after_still spans numbers R (a ∷ more) from to lt =
    let r = after_still spans numbers (AfterFact spans numbers R a) more from to lt in (
      λ h. elim (r.0 h) [ inl ((t, among, fact), value) ↦ absurd (no_name numbers t.name to fact lt) | inr (on, unrenewed) ↦ on ],
      λ h. r.1 (inr (h, λ (renews, t, among, fact, plain). no_name numbers t.name to fact lt)),
    )

point_still : (nodes : List Node) (sets : TaintSets) (numbers : Numbering) (p : Point) (from to : ℕ) → to < numbers.sources → PointFact nodes sets numbers p from to ↔ (to ≡ from)
point_still nodes sets numbers p from to lt =
    let r = after_still sets.sanitizers numbers Same (assigned_of nodes p) from to lt in (
      λ h. elim h [ inl after ↦ r.0 after | inr (c, among, carries) ↦ absurd (no_name numbers carries.named.name to carries.fact lt) ],
      λ e. inl (r.1 e),
    )

pub plan_keeps : (nodes : List Node) (unit : ℕ) (graph : Graph) (sets : TaintSets) (census : Census) (plan : Plan) → IsPlan nodes unit graph.points sets census plan → KeepsFacts graph plan (length census.sources.keys.items)
plan_keeps nodes unit graph sets census plan planned = record {
  rows = planned.rows;
  turns = λ i row at from to lt.
      let (p, p_at) = some_at graph.points i (let less = slice_get_within plan.moves.rows i row at in omega (arith, less, planned.rows)) in
      let turns = planned.turns i p row p_at at from to in
      let still = point_still nodes sets (numbers_of census) p from to lt in
      (λ t. still.0 (turns.0 t), λ e. turns.1 (still.1 e));
  lists = planned.lists;
  begins = λ k own at fact lt.
      let less = slice_get_within plan.begins.items k own at in
      let (source, source_at) = some_at census.sources.keys.items k (omega (arith, less, planned.lists)) in
      let begins = planned.begins k source own source_at at fact in (
        λ among. elim (begins.0 among) [ inl e ↦ e | inr (n, is, rest) ↦ absurd (no_name (numbers_of census) n fact is lt) ],
        λ e. begins.1 (inl e),
      );
}

pub goals_inside : (nodes : List Node) (unit : ℕ) (graph : Graph) (sets : TaintSets) (census : Census) (plan : Plan) → IsPlan nodes unit graph.points sets census plan → length census.names.keys.items ≡ 0 → AreInside (length graph.points) (length census.sources.keys.items) plan.goals
goals_inside nodes unit graph sets census plan planned none g among =
    let (p, at, rest) = (planned.goals g).0 among in
    let fact = planned.goal_facts g among in
    (slice_get_within graph.points g.point p at, omega (arith, fact, planned.facts, none))

pub goals_fit : (nodes : List Node) (unit : ℕ) (graph : Graph) (sets : TaintSets) (census : Census) (plan : Plan) → IsPlan nodes unit graph.points sets census plan → AreInside (length graph.points) plan.moves.facts plan.goals
goals_fit nodes unit graph sets census plan planned g among =
    let (p, at, rest) = (planned.goals g).0 among in
    (slice_get_within graph.points g.point p at, planned.goal_facts g among)

-- ---- points that are reached

module _ (graph : Graph) (moves : Moves) (still : AreStill (length graph.points) moves) (fits : Fits graph moves) where
  to_reachable : (stops : List Stop) (i fact : ℕ) → LeadsFrom (FromStart moves) graph moves stops i fact → Reachable graph i
  to_reachable [] i fact (first, among) = ([], first)
  to_reachable (last ∷ earlier) i fact (leads, edge, turns) =
      let (path, to) = to_reachable earlier last.point last.fact leads in
      (last.point ∷ path, (to, edge))

  from_reachable : (path : List ℕ) (i : ℕ) → LeadTo graph path i → CarriedFrom (FromStart moves) graph moves i 0
  from_reachable [] i first = ([], (first, still.start))
  from_reachable (last ∷ earlier) i (to, edge) =
      let (stops, carried) = from_reachable earlier last to in
      let (r, r_at) = some_at moves.rows last (let less = (fits.edges last i edge).0 in omega (arith, less, still.rows)) in
      (record { point = last; fact = 0 } ∷ stops, (carried, edge, (r, r_at, still_turns r 0 (still.still r (got_among moves.rows last r r_at)))))

  pub reachable_is : (reached : Reached) → IsReached graph moves reached → AreReachable graph reached
  reachable_is reached is = record {
    edges = fits.edges;
    points = is.points;
    facts = is.facts ∙ still.facts;
    exact = λ point there.
        let e = is.exact point 0 there (omega (arith, still.facts)) in
        (λ t. (let (stops, leads) = e.0 t in to_reachable stops point 0 leads), λ (path, to). e.1 (from_reachable path point to));
  }

-- ---- own facts

module _ (graph : Graph) (plan : Plan) (facts : ℕ) (keeps : KeepsFacts graph plan facts) where
  -- where one of these facts is carried, it is the one that begins, and the point is reached
  pub own_to : (k : ℕ) (own : Vec ℕ) → slice_get plan.begins.items k ≡ Some own → (stops : List Stop) (i fact : ℕ) → fact < facts → LeadsFrom (FromEntry own.items) graph plan.moves stops i fact → (fact ≡ k) × Reachable graph i
  own_to k own at [] i fact lt (first, among) = ((keeps.begins k own at fact lt).0 among, ([], first))
  own_to k own at (last ∷ earlier) i fact lt (leads, edge, (row, row_at, turns)) =
      let same : fact ≡ last.fact = (keeps.turns last.point row row_at last.fact fact lt).0 turns in
      let (is, (path, to)) = own_to k own at earlier last.point last.fact (omega (arith, lt, same)) leads in
      (same ∙ is, (last.point ∷ path, (to, edge)))

  -- it is carried to each point that is reached
  pub own_from : EdgesFit graph → (k : ℕ) (own : Vec ℕ) → slice_get plan.begins.items k ≡ Some own → k < facts → (path : List ℕ) (i : ℕ) → LeadTo graph path i → CarriedFrom (FromEntry own.items) graph plan.moves i k
  own_from edges k own at lt [] i first = ([], (first, (keeps.begins k own at k lt).1 refl))
  own_from edges k own at lt (last ∷ earlier) i (to, edge) =
      let (stops, carried) = own_from edges k own at lt earlier last to in
      let (r, r_at) = some_at plan.moves.rows last (let less = (edges last i edge).0 in omega (arith, less, keeps.rows)) in
      (record { point = last; fact = k } ∷ stops, (carried, edge, (r, r_at, (keeps.turns last r r_at k k lt).1 refl)))

  module _ (reached : Reached) (is : AreReachable graph reached) (sources : List Span) (size : length sources ≡ facts) (inside : AreInside (length graph.points) facts plan.goals) where
    told : (sink : ℕ) (source : Span) → BySources (λ point. Tells reached point 0) sources plan.goals sink source ↔ ByPlan graph plan sources (length sources) sink source
    told sink source = (
      λ (g, among, same, at, tells).
          let r = inside g among in
          let (own, own_at) = some_at plan.begins.items g.fact (omega (arith, r.1, keeps.lists)) in
          let (path, to) = (is.exact g.point r.0).0 tells in
          (g.fact, omega (arith, r.1, size), at, (own, own_at, (g, among, same, own_from is.edges g.fact own own_at r.1 path g.point to))),
      λ (k, lt, at, (own, own_at, (g, among, same, (stops, carried)))).
          let r = inside g among in
          let (fact, reach) = own_to k own own_at stops g.point g.fact r.1 carried in
          (g, among, same, ap (slice_get sources) fact ∙ at, (is.exact g.point r.0).1 reach),
    )

    pub still_done : (old new : List (Option Span)) → Lowers (BySources (λ point. Tells reached point 0) sources plan.goals) old new → Lowers (ByPlan graph plan sources (length sources)) old new
    still_done old new low = lowers_same (BySources (λ point. Tells reached point 0) sources plan.goals) (ByPlan graph plan sources (length sources)) old new told low

-- ---- one goal more

module _ (At : ℕ → Type 0) (sources : List Span) (goals : List Goal) (i : ℕ) (d : Goal) (lt : i < length goals) where
  abbrev now : Goal
  now = get_or goals i d

  pub goal_none : (old new : List (Option Span)) → (At now.point → ⊥) → Lowers (BySources At sources (take i goals)) old new → Lowers (BySources At sources (take (i + 1) goals)) old new
  goal_none old new not low = lowers_same (BySources At sources (take i goals)) (BySources At sources (take (i + 1) goals)) old new (λ k s. (
    λ (g, among, sink, source, there). (g, (among_more goals i d lt g).1 (inl among), sink, source, there),
    λ (g, among, sink, source, there). elim ((among_more goals i d lt g).0 among) [
      | inl before ↦ (g, before, sink, source, there)
      | inr q ↦ absurd (not (let P : Goal → Type 0 = λ x. At x.point in subst P (sym q) there))
    ],
  )) low

  pub goal_some : (old mid new : List (Option Span)) (source : Span) → At now.point → slice_get sources now.fact ≡ Some source → Lowers (BySources At sources (take i goals)) old mid
      → Lowers (λ (k : ℕ) (s : Span). (k ≡ now.sink) × (s ≡ source)) mid new → Lowers (BySources At sources (take (i + 1) goals)) old new
  goal_some old mid new source there is low one = lowers_then (BySources At sources (take i goals)) (λ (k : ℕ) (s : Span). (k ≡ now.sink) × (s ≡ source)) (BySources At sources (take (i + 1) goals)) old mid new (λ k s. (
    λ (g, among, sink, got, at). elim ((among_more goals i d lt g).0 among) [
      | inl before ↦ inl (g, before, sink, got, at)
      | inr q ↦ inr (sym sink ∙ ap (λ (x : Goal). x.sink) (sym q), (let e : Some s ≡ Some source = sym got ∙ ap (λ (x : Goal). slice_get sources x.fact) (sym q) ∙ is in cc))
    ],
    λ h. elim h [
      | inl (g, among, sink, got, at) ↦ (g, (among_more goals i d lt g).1 (inl among), sink, got, at)
      | inr (sink, e) ↦ (now, (among_more goals i d lt now).1 (inr refl), sym sink, is ∙ ap Some (sym e), there)
    ],
  )) low one
