-- The moves of a unit for one source.
use Rattle.std.proofs.Common.{◌≡◌, ℕ, ◌+◌, List, [], ◌∷◌, length, sym, ap, ◌∙◌, arith, Some}
use Rattle.std.specs.Prelude.{slice_get}
use Rattle.std.specs.Set.{distinct_count}
use Rattle.std.specs.Str.{bytes_eq}
use Rattle.std.proofs.lemmas.Option.{slice_get_within}
use Rattle.node_tree.specs.declared.node.Node.{Node}
use Rattle.node_tree.specs.declared.span.Span.{Span}
use Rattle.node_tree.specs.Span.{span_cmp}
use Rattle.node_tree.specs.Tree.{pre_of}
use Rattle.graph_form.specs.declared.graph.Graph.{Graph}
use Rattle.graph_form.specs.declared.graph.Point.{Point}
use Rattle.flow_graph.specs.Units.{points_of, Goes, IsGraphOf}
use Rattle.flow_reach.specs.Carried.{AtEntry as FromStart}
use Rattle.flow_reach.proofs.Sorted.{got_among, among_got}
use Rattle.taint_form.specs.declared.table.Table.{Table}
use Rattle.taint_form.specs.Tables.{AreNumbers}
use Rattle.taint_tables.specs.declared.census.Census.{Census}
use Rattle.taint_plan.specs.declared.plan.Plan.{Plan}
use Rattle.taint_tables.specs.declared.sets.TaintSets.{TaintSets}
use Rattle.taint_tables.specs.Censuses.{AreNumbered, IsCensus}
use Rattle.taint_tables.specs.Numbers.{numbers_of}
use Rattle.taint_plan.specs.Plans.{IsPlan}
use Rattle.taint_flow.specs.Sizes.{names_of}
use Rattle.taint_flow.specs.Traces.{AreGoals, TracesAreHits}
use Rattle.taint_tables.proofs.CensusLists.{source_places}
use Rattle.taint_flow.proofs.Counted.{names_counted}
use Rattle.taint_flow.proofs.KnownNames.{HasNames}
use Rattle.taint_flow.proofs.Routes.{AreMoves, some_at}
use Rattle.taint_flow.proofs.Searching.{apart_by, known_at, known_first}
use Rattle.taint_flow.proofs.Traces.{traces_are_hits}

-- the names of a census with other sources
abbrev pub with_sources : Census → Table Span → Census
with_sources census sources = record { names = census.names; sources = sources }

pub numbered_alone : (nodes : List Node) (unit : ℕ) (points : List Point) (spans : List Span) (census : Census) (sources : Table Span) → IsCensus nodes unit points spans census → AreNumbers span_cmp sources.numbers sources.keys.items → AreNumbered (with_sources census sources)
numbered_alone nodes unit points spans census sources has are = record { names = has.numbered.names; sources = source_places sources.numbers sources.keys.items are }

module _ (root : Node) (unit : ℕ) (sets : TaintSets) (source : Span) (graph : Graph) (is : IsGraphOf (points_of root unit) (Goes root unit) graph) (spans : List Span) (census : Census) (has : IsCensus (pre_of root) unit graph.points spans census)
    (sources : Table Span) (keys : sources.keys.items ≡ source ∷ []) (are : AreNumbers span_cmp sources.numbers sources.keys.items) (plan : Plan) (planned : IsPlan (pre_of root) unit graph.points sets (with_sources census sources) plan) where
  pub facts_alone : plan.moves.facts ≡ distinct_count bytes_eq (names_of root unit) + 1
  facts_alone =
      let n = names_counted root unit graph is spans census has in
      let one : length sources.keys.items ≡ 1 = ap length keys in
      omega (arith, planned.facts, n, one)

  pub goals_alone : AreGoals graph (record { moves = plan.moves; goals = plan.goals })
  goals_alone g among = let (p, at, rest) = (planned.goals g).0 among in (slice_get_within graph.points g.point p at, planned.goal_facts g among)

  at : slice_get sources.keys.items 0 ≡ Some source
  at = ap (λ ks. slice_get ks 0) keys

  numbered : AreNumbered (with_sources census sources)
  numbered = numbered_alone (pre_of root) unit graph.points spans census sources has are

  names : HasNames (pre_of root) unit graph.points (with_sources census sources)
  names = record { has = has.has_names; number = has.numbered.names }

  one_list : length plan.begins.items ≡ 1
  one_list = planned.lists ∙ ap length keys

  moves : AreMoves root unit sets (numbers_of (with_sources census sources)) source 0 graph plan.moves (FromStart plan.moves)
  moves = record {
    graph_is = is;
    rows = planned.rows;
    turns = planned.turns;
    begins = λ point fact. (
      λ (e, among).
          let (facts, listed, there) = (planned.start fact).0 among in
          let (j, j_at) = among_got plan.begins.items facts listed in
          let less = slice_get_within plan.begins.items j facts j_at in
          let first : j ≡ 0 = omega (arith, less, one_list) in
          (e, (planned.begins 0 source facts at (ap (slice_get plan.begins.items) (sym first) ∙ j_at) fact).0 there),
      λ (e, begins).
          let (facts, facts_at) = some_at plan.begins.items 0 (omega (arith, one_list)) in
          (e, (planned.start fact).1 (facts, got_among plan.begins.items 0 facts facts_at, (planned.begins 0 source facts at facts_at fact).1 begins)),
    );
  }

  pub hits_alone : TracesAreHits root unit sets source graph (record { moves = plan.moves; goals = plan.goals })
  hits_alone = traces_are_hits root unit sets (numbers_of (with_sources census sources)) source 0 graph (record { moves = plan.moves; goals = plan.goals }) moves (apart_by (with_sources census sources) numbered 0 source at)
      (known_at root unit graph is (with_sources census sources) names sets source 0 (apart_by (with_sources census sources) numbered 0 source at)) (known_first root unit graph is (with_sources census sources) names source) planned.goals
