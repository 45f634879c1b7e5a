-- What the search by a plan finds is what hits in the unit.
use Rattle.std.proofs.Common.{◌≡◌, ◌⊎◌, ◌↔◌, inl, inr, ℕ, Bool, true, false, List, [], ◌∷◌, length, refl, sym, ap, ◌∙◌, subst, arith, Some}
use Rattle.std.specs.Prelude.{Option, slice_get, ◌||◌}
use Rattle.std.specs.Global.{Vec}
use Rattle.std.proofs.lemmas.Option.{slice_get_within}
use Rattle.node_tree.specs.declared.node.Node.{Node}
use Rattle.node_tree.specs.declared.span.Span.{Span}
use Rattle.node_tree.specs.Tree.{pre_of}
use Rattle.graph_form.specs.declared.graph.Graph.{Graph}
use Rattle.graph_form.specs.declared.graph.Point.{Point}
use Rattle.graph_form.specs.Sets.{Among}
use Rattle.flow_graph.specs.Units.{points_of, Goes, IsGraphOf}
use Rattle.flow_reach.specs.Carried.{CarriedFrom}
use Rattle.taint_form.specs.Expressions.{has_span, same_span}
use Rattle.taint_tables.specs.declared.census.Census.{Census}
use Rattle.taint_plan.specs.declared.goal.Goal.{Goal}
use Rattle.taint_plan.specs.declared.plan.Plan.{Plan}
use Rattle.taint_tables.specs.declared.sets.TaintSets.{TaintSets}
use Rattle.taint_tables.specs.Censuses.{AreNumbered, IsCensus}
use Rattle.taint_tables.specs.Numbers.{numbers_of}
use Rattle.taint_flow.specs.Lowest.{HitsIn, Lowers}
use Rattle.taint_plan.specs.Plans.{IsPlan}
use Rattle.taint_flow.specs.Found.{ByGoals, ByPlan, FromEntry}
use Rattle.taint_tables.specs.Names.{spans_among}
use Rattle.taint_flow.specs.Taint.{AtEntry}
use Rattle.taint_flow.proofs.Counted.{among_filter, sources_same, spans_tell}
use Rattle.flow_reach.proofs.Sorted.{got_among, among_got}
use Rattle.taint_flow.proofs.KnownNames.{HasNames, names_from, assigned_known, carried_known, parameter_known}
use Rattle.taint_flow.proofs.Lowest.{lowers_same}
use Rattle.taint_flow.proofs.Routes.{AreMoves, path_hit, hit_path, path_places, some_at}
use Rattle.taint_flow.proofs.Sources.{source_there}
use Rattle.taint_flow.proofs.Spread.{AreApart, IsKnown, IsKnownAt, path_there}

-- the names that the points and the entry of a unit may taint have facts
module _ (root : Node) (unit : ℕ) (graph : Graph) (is : IsGraphOf (points_of root unit) (Goes root unit) graph) (census : Census) (names : HasNames (pre_of root) unit graph.points census) where
  pub known_at : (sets : TaintSets) (source : Span) (k : ℕ) (apart : AreApart (numbers_of census) source k) (p : Point) → Among (points_of root unit) p → IsKnownAt sets (numbers_of census) source k apart (pre_of root) p
  known_at sets source k apart p there =
      let place = (is.points p).1 there in
      record {
        assigned = assigned_known (pre_of root) unit graph.points census names p place;
        carried = λ c among t at b base. carried_known (pre_of root) unit graph.points census names p place c.target t at b base;
      }

  pub known_first : (source : Span) (n : List ℕ) → AtEntry root unit source n → IsKnown (numbers_of census) n
  known_first source n (s, among, span, text) = subst (IsKnown (numbers_of census)) text (parameter_known (pre_of root) unit graph.points census names s among)

-- the sources and the names of a census are told apart by their numbers
pub apart_by : (census : Census) → AreNumbered census → (k : ℕ) (source : Span) → slice_get census.sources.keys.items k ≡ Some source → AreApart (numbers_of census) source k
apart_by census numbered k source at = record {
  there = (numbered.sources source k).1 at;
  below = λ s i has. slice_get_within census.sources.keys.items i s ((numbered.sources s i).0 has);
  spans = λ s t i has got. (let q : Some s ≡ Some t = sym ((numbered.sources s i).0 has) ∙ (numbered.sources t i).0 got in cc);
  names = λ n m i has got. (let q : Some n ≡ Some m = sym ((numbered.names n i).0 has) ∙ (numbered.names m i).0 got in cc);
}

pub spans_has : (ss : List Span) (s : Span) → has_span ss s ≡ true → Among ss s
spans_has [] s e = absurd cc
spans_has (x ∷ xs) s e = by (spans_has xs s) (same_span x s) refl e
  where
    by : (has_span xs s ≡ true → Among xs s) → (b : Bool) → same_span x s ≡ b → (b || has_span xs s) ≡ true → (x ≡ s) ⊎ Among xs s
    by later true same h = inl ((spans_tell x s).0 same)
    by later false same h = inr (later h)

pub has_spans : (ss : List Span) (s : Span) → Among ss s → has_span ss s ≡ true
has_spans [] s none = absurd none
has_spans (x ∷ xs) s (inl e) = ap (λ b. b || has_span xs s) ((spans_tell x s).1 e)
has_spans (x ∷ xs) s (inr more) = by (same_span x s) (has_spans xs s more)
  where
    by : (b : Bool) → has_span xs s ≡ true → (b || has_span xs s) ≡ true
    by true e = refl
    by false e = e

-- a source that hits something in the unit is in its census
pub source_counted : (root : Node) (unit : ℕ) (sets : TaintSets) (graph : Graph) (census : Census) → IsGraphOf (points_of root unit) (Goes root unit) graph → IsCensus (pre_of root) unit graph.points sets.sources census
    → (sink : ℕ) (source : Span) → HitsIn root unit sets sink source → Among census.sources.keys.items source
source_counted root unit sets graph census is has sink source h =
    let there = source_there root unit sets source h.range h.earlier h.point h.hits in
    let in_unit = (among_filter (has_span sets.sources) (spans_among (pre_of root) unit (points_of root unit)) source).1 (there, has_spans sets.sources source h.listed) in
    (has.has_sources source).1 ((sources_same root unit graph is sets.sources source).1 in_unit)

module _ (root : Node) (unit : ℕ) (sets : TaintSets) (graph : Graph) (census : Census) (plan : Plan) (is : IsGraphOf (points_of root unit) (Goes root unit) graph) (has : IsCensus (pre_of root) unit graph.points sets.sources census)
    (planned : IsPlan (pre_of root) unit graph.points sets census plan) where
  names : HasNames (pre_of root) unit graph.points census
  names = names_from (pre_of root) unit graph.points sets.sources census has

  moves_are : (k : ℕ) (source : Span) (facts : Vec ℕ) → slice_get census.sources.keys.items k ≡ Some source → slice_get plan.begins.items k ≡ Some facts → AreMoves root unit sets (numbers_of census) source k graph plan.moves (FromEntry facts.items)
  moves_are k source facts at facts_at = record {
    graph_is = is;
    rows = planned.rows;
    turns = planned.turns;
    begins = λ point fact. (λ (e, among). (e, (planned.begins k source facts at facts_at fact).0 among), λ (e, b). (e, (planned.begins k source facts at facts_at fact).1 b));
  }

  -- the goals that are reached from where a source begins are those of the sinks that it hits
  source_hits : (k : ℕ) (source : Span) (facts : Vec ℕ) → slice_get census.sources.keys.items k ≡ Some source → slice_get plan.begins.items k ≡ Some facts → Among sets.sources source → (sink : ℕ)
      → ByGoals (CarriedFrom (FromEntry facts.items) graph plan.moves) plan.goals sink ↔ HitsIn root unit sets sink source
  source_hits k source facts at facts_at listed sink = (to, back)
    where
      moves : AreMoves root unit sets (numbers_of census) source k graph plan.moves (FromEntry facts.items)
      moves = moves_are k source facts at facts_at

      to : ByGoals (CarriedFrom (FromEntry facts.items) graph plan.moves) plan.goals sink → HitsIn root unit sets sink source
      to (g, among, same, (stops, leads)) =
          let (p, p_at, (range, range_at, taints)) = (planned.goals g).0 among in
          let (earlier, hits, places) = path_hit root unit sets (numbers_of census) source k graph plan.moves (FromEntry facts.items) moves (apart_by census has.numbered k source at) (known_at root unit graph is census names sets source k (apart_by census has.numbered k source at)) (known_first root unit graph is census names source) stops g.point g.fact p range p_at leads taints in
          record { range = range; sink_is = ap (slice_get sets.sinks) (sym same) ∙ range_at; listed = listed; earlier = earlier; point = p; hits = hits }

      back : HitsIn root unit sets sink source → ByGoals (CarriedFrom (FromEntry facts.items) graph plan.moves) plan.goals sink
      back h =
          let (i, i_at) = among_got graph.points h.point ((is.points h.point).1 (path_there root unit h.earlier h.point h.hits.path)) in
          let (places, same) = path_places root unit sets (numbers_of census) source k graph plan.moves (FromEntry facts.items) moves h.earlier h.point h.hits.path in
          let (fact, taints, (stops, leads, there)) = hit_path root unit sets (numbers_of census) source k graph plan.moves (FromEntry facts.items) moves (apart_by census has.numbered k source at) (known_at root unit graph is census names sets source k (apart_by census has.numbered k source at)) (known_first root unit graph is census names source) h.earlier h.point places i h.range same i_at h.hits in
          let g : Goal = record { sink = sink; point = i; fact = fact } in
          (g, (planned.goals g).1 (h.point, i_at, (h.range, h.sink_is, taints)), refl, (stops, leads))

  -- what the plan finds for all its sources
  pub plan_hits : (sink : ℕ) (source : Span) → ByPlan graph plan census.sources.keys.items (length census.sources.keys.items) sink source ↔ HitsIn root unit sets sink source
  plan_hits sink source = (
    λ (k, lt, at, (facts, facts_at, goals)).
        let in_sources = (has.has_sources source).0 (got_among census.sources.keys.items k source at) in
        let listed = spans_has sets.sources source ((among_filter (has_span sets.sources) (spans_among (pre_of root) unit graph.points) source).0 in_sources).1 in
        (source_hits k source facts at facts_at listed sink).0 goals,
    λ h.
        let (k, at) = among_got census.sources.keys.items source (source_counted root unit sets graph census is has sink source h) in
        let lt = slice_get_within census.sources.keys.items k source at in
        let (facts, facts_at) = some_at plan.begins.items k (omega (arith, lt, planned.lists)) in
        (k, lt, at, (facts, facts_at, (source_hits k source facts at facts_at h.listed sink).1 h)),
  )

-- the hits that are found by a plan are those in the unit
pub found_hits : (root : Node) (nodes : List Node) (unit : ℕ) (sets : TaintSets) (graph : Graph) (points : List Point) (keys : List Span) (census : Census) (plan : Plan) (old new : List (Option Span)) → nodes ≡ pre_of root → points ≡ graph.points → keys ≡ census.sources.keys.items
    → IsGraphOf (points_of root unit) (Goes root unit) graph → IsCensus nodes unit graph.points sets.sources census → IsPlan nodes unit points sets census plan → Lowers (ByPlan graph plan keys (length keys)) old new → Lowers (HitsIn root unit sets) old new
found_hits root nodes unit sets graph points keys census plan old new nodes_are points_are keys_are is has planned low =
    let C : List Node → Type 0 = λ ns. IsCensus ns unit graph.points sets.sources census in
    let P : List Node → Type 0 = λ ns. IsPlan ns unit graph.points sets census plan in
    let Q : List Point → Type 0 = λ ps. IsPlan nodes unit ps sets census plan in
    let L : List Span → Type 0 = λ ks. Lowers (ByPlan graph plan ks (length ks)) old new in
    lowers_same (ByPlan graph plan census.sources.keys.items (length census.sources.keys.items)) (HitsIn root unit sets) old new (plan_hits root unit sets graph census plan is (subst C nodes_are has) (subst P nodes_are (subst Q points_are planned))) (subst L keys_are low)
