use Rattle.std.proofs.Common.{ℕ, subst}
use Rattle.std.specs.Prelude.{Option, MatchOption}
use Rattle.node_tree.specs.declared.node.Node.{Node}
use Rattle.node_tree.specs.declared.span.Span.{Span}
use Rattle.taint_tables.specs.declared.census.Census.{Census}
use Rattle.taint_tables.specs.Censuses.{IsCensus}
use Rattle.taint_flow.specs.Lowest.{HitsIn}
use Rattle.taint_flow.specs.Scoped.{IsScope}
use Rattle.taint_flow.proofs.Lowest.{lowers_none}
use Rattle.taint_flow.proofs.find.search_unit.Goals as goal

pub search-requires-clause-census : goal.search-requires-clause-census
search-requires-clause-census c = rw c.in-Some.is at c.in_ok-counted.ensures.census

pub returns-in-None-clause-notes : goal.returns-in-None-clause-notes
returns-in-None-clause-notes c root is =
    let scope = c.args.scope.now in
    let sets = c.args.rule.now.sets.now in
    let P : Option Census → Type 0 = λ o. MatchOption o ((r : Node) (sink : ℕ) (source : Span) → IsScope r c.args.tree.now scope → HitsIn r scope.unit sets sink source → ⊥) (IsCensus c.args.tree.now scope.unit scope.graph.points sets.sources) in
    let none = subst P c.in-None.is c.in_ok-counted.ensures.census in
    lowers_none (HitsIn root scope.unit sets) c.args.least.now.sources.items (λ sink source. none root sink source is)
