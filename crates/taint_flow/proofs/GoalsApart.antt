-- Goals of sources' own facts, and goals of names: together they find what the plan does.
use Rattle.std.proofs.Common.{◌≡◌, ◌⊎◌, ◌↔◌, inl, inr, ℕ, ◌+◌, ◌-◌, ◌<◌, ◌≤◌, List, length, refl, sym, ap, ◌∙◌, subst, arith, Some}
use Rattle.std.specs.Prelude.{Option, slice_get}
use Rattle.std.proofs.lemmas.Option.{slice_get_within}
use Rattle.node_tree.specs.declared.span.Span.{Span}
use Rattle.graph_form.specs.declared.graph.Graph.{Graph}
use Rattle.graph_form.specs.Sets.{Among}
use Rattle.flow_reach.specs.declared.reached.Reached.{Reached}
use Rattle.flow_reach.specs.Carried.{CarriedFrom}
use Rattle.flow_reach.specs.Reached.{Tells}
use Rattle.taint_plan.specs.declared.goal.Goal.{Goal}
use Rattle.taint_plan.specs.declared.plan.Plan.{Plan}
use Rattle.taint_flow.specs.Found.{AreInside, AreNamed, AreOfSinks, AreOwn, ByNames, ByPlan, FromEntry, of_name}
use Rattle.taint_flow.specs.Lowest.{Lowers}
use Rattle.taint_flow.specs.Still.{AreReachable, BySources, KeepsFacts}
use Rattle.taint_flow.proofs.Lowest.{lowers_then}
use Rattle.taint_flow.proofs.Reaching.{own_to, own_from}
use Rattle.taint_flow.proofs.Routes.{some_at}
use Rattle.taint_flow.proofs.Splitting.{which}

-- the fact of a source is none of a name's
pub none_named : (sources : ℕ) (goal : Goal) → goal.fact < sources → (g : Goal) → goal ≡ of_name sources g → ⊥
none_named sources goal small g e = let q : goal.fact ≡ sources + g.fact = ap (λ (x : Goal). x.fact) e in omega (arith, q, small)

-- a goal of a name, with the number of its name
pub named_is : (sources : ℕ) (goal : Goal) → sources ≤ goal.fact → (g : Goal) → ◌≡◌ {A = Goal} (record { sink = goal.sink; point = goal.point; fact = goal.fact - sources }) g ↔ (goal ≡ of_name sources g)
named_is sources goal large g = (
  λ e.
      let n : Goal = record { sink = goal.sink; point = goal.point; fact = goal.fact - sources } in
      let q : goal.fact ≡ sources + (goal.fact - sources) = omega (arith, large) in
      let same : goal ≡ of_name sources n = λ i. record { sink = goal.sink; point = goal.point; fact = q i } in
      let P : Goal → Type 0 = λ x. goal ≡ of_name sources x in
      subst P e same,
  λ e.
      let s : goal.sink ≡ g.sink = ap (λ (x : Goal). x.sink) e in
      let p : goal.point ≡ g.point = ap (λ (x : Goal). x.point) e in
      let f : goal.fact ≡ sources + g.fact = ap (λ (x : Goal). x.fact) e in
      let q : goal.fact - sources ≡ g.fact = omega (arith, f) in
      λ i. record { sink = s i; point = p i; fact = q i },
)

module _ (graph : Graph) (plan : Plan) (count : ℕ) (keeps : KeepsFacts graph plan count) (reached : Reached) (is : AreReachable graph reached) (sources : List Span) (size : length sources ≡ count) (own named : List Goal) (owns : AreOwn count plan.goals own) (names : AreNamed count plan.goals named)
    (inside : AreInside (length graph.points) plan.moves.facts plan.goals) where
  abbrev Own : ℕ → Span → Type 0
  Own = BySources (λ point. Tells reached point 0) sources own

  abbrev Names : ℕ → Span → Type 0
  Names = ByNames graph plan count named sources (length sources)

  both : (sink : ℕ) (source : Span) → ByPlan graph plan sources (length sources) sink source ↔ (Own sink source ⊎ Names sink source)
  both sink source = (
    λ (k, lt, at, (facts, facts_at, (g, among, same, (stops, carried)))). elim (which count g.fact) [
      | inl small ↦
          let (fact, reach) = own_to graph plan count keeps k facts facts_at stops g.point g.fact small carried in
          inl (g, (owns g).1 (among, small), same, ap (slice_get sources) fact ∙ at, (is.exact g.point (inside g among).0).1 reach)
      | inr (name, e) ↦
          let n : Goal = record { sink = g.sink; point = g.point; fact = name } in
          let q : g ≡ of_name count n = (λ i. record { sink = g.sink; point = g.point; fact = e i }) in
          let P : Goal → Type 0 = λ x. Among plan.goals x in
          let F : ℕ → Type 0 = λ f. CarriedFrom (FromEntry facts.items) graph plan.moves g.point f in
          inr (k, lt, at, (facts, facts_at, (n, (names n).1 (subst P q among), same, subst F e (stops, carried))))
    ],
    λ h. elim h [
      | inl (g, among, same, at, tells) ↦
          let (there, lt) = (owns g).0 among in
          let (facts, facts_at) = some_at plan.begins.items g.fact (omega (arith, lt, keeps.lists)) in
          let (path, to) = (is.exact g.point (inside g there).0).0 tells in
          (g.fact, omega (arith, lt, size), at, (facts, facts_at, (g, there, same, own_from graph plan count keeps is.edges g.fact facts facts_at lt path g.point to)))
      | inr (k, lt, at, (facts, facts_at, (g, among, same, carried))) ↦ (k, lt, at, (facts, facts_at, (of_name count g, (names g).0 among, same, carried)))
    ],
  )

  pub apart_done : (old mid new : List (Option Span)) → Lowers Own old mid → Lowers Names mid new → Lowers (ByPlan graph plan sources (length sources)) old new
  apart_done old mid new first second = lowers_then Own Names (ByPlan graph plan sources (length sources)) old mid new both first second

  -- the goals are of points, facts and sinks that are there
  pub own_inside : AreInside (length graph.points) (length sources) own
  own_inside g among = let (there, lt) = (owns g).0 among in ((inside g there).0, omega (arith, lt, size))

  pub named_inside : (facts : ℕ) → count + facts ≡ plan.moves.facts → AreInside (length graph.points) facts named
  named_inside facts e g among = let r = inside (of_name count g) ((names g).0 among) in (r.0, omega (arith, r.1, e))

pub own_sinks : (count sinks : ℕ) (goals own : List Goal) → AreOwn count goals own → AreOfSinks sinks goals → AreOfSinks sinks own
own_sinks count sinks goals own owns all g among = all g ((owns g).0 among).0

pub named_sinks : (count sinks : ℕ) (goals named : List Goal) → AreNamed count goals named → AreOfSinks sinks goals → AreOfSinks sinks named
named_sinks count sinks goals named names all g among = all (of_name count g) ((names g).0 among)
