use Rattle.std.proofs.Common.{List, [], subst}
use Rattle.node_tree.specs.declared.node.Node.{Node}
use Rattle.graph_form.specs.declared.graph.Point.{Point}
use Rattle.taint_tables.specs.Censuses.{IsCensus}
use Rattle.taint_plan.specs.Plans.{IsPlan}
use Rattle.taint_flow.proofs.Alone.{numbered_alone, facts_alone, goals_alone, hits_alone, with_sources}
use Rattle.taint_flow.proofs.unit.unit_moves.Goals as goal

pub plan_of-requires : goal.plan_of-requires
plan_of-requires c =
    record { numbered = numbered_alone c.args.tree.now c.args.scope.now.unit c.as_slice-points.result.now [] c.in_ok-names.field-0 c.in_ok-sources.sources (c.in_ok-names.ensures [] c.in_ok-none.ensures) c.in_ok-sources.ensures.numbers }

pub returns-clause-facts : goal.returns-clause-facts
returns-clause-facts c root sets is are =
    let unit = c.args.scope.now.unit in
    let graph = c.args.scope.now.graph in
    let census = c.in_ok-names.field-0 in
    let plan = c.in_ok-plan.plan in
    let all = with_sources census c.in_ok-sources.sources in
    let P : List Point → Type 0 = λ ps. IsCensus c.args.tree.now unit ps [] census in
    let N : List Node → Type 0 = λ ns. IsCensus ns unit graph.points [] census in
    let Q : List Point → Type 0 = λ ps. IsPlan c.args.tree.now unit ps sets all plan in
    let M : List Node → Type 0 = λ ns. IsPlan ns unit graph.points sets all plan in
    facts_alone root unit sets c.args.source graph is.graph [] census (subst N is.nodes_are (subst P c.as_slice-points.ensures (c.in_ok-names.ensures [] c.in_ok-none.ensures)))
    c.in_ok-sources.sources c.in_ok-sources.ensures.keys c.in_ok-sources.ensures.numbers plan (subst M is.nodes_are (subst Q c.as_slice-points.ensures (c.in_ok-plan.ensures sets are.places are.sanitizers)))

pub returns-clause-goals : goal.returns-clause-goals
returns-clause-goals c root sets is are =
    let unit = c.args.scope.now.unit in
    let graph = c.args.scope.now.graph in
    let census = c.in_ok-names.field-0 in
    let plan = c.in_ok-plan.plan in
    let all = with_sources census c.in_ok-sources.sources in
    let P : List Point → Type 0 = λ ps. IsCensus c.args.tree.now unit ps [] census in
    let N : List Node → Type 0 = λ ns. IsCensus ns unit graph.points [] census in
    let Q : List Point → Type 0 = λ ps. IsPlan c.args.tree.now unit ps sets all plan in
    let M : List Node → Type 0 = λ ns. IsPlan ns unit graph.points sets all plan in
    goals_alone root unit sets c.args.source graph is.graph [] census (subst N is.nodes_are (subst P c.as_slice-points.ensures (c.in_ok-names.ensures [] c.in_ok-none.ensures)))
    c.in_ok-sources.sources c.in_ok-sources.ensures.keys c.in_ok-sources.ensures.numbers plan (subst M is.nodes_are (subst Q c.as_slice-points.ensures (c.in_ok-plan.ensures sets are.places are.sanitizers)))

pub returns-clause-hits : goal.returns-clause-hits
returns-clause-hits c root sets is are =
    let unit = c.args.scope.now.unit in
    let graph = c.args.scope.now.graph in
    let census = c.in_ok-names.field-0 in
    let plan = c.in_ok-plan.plan in
    let all = with_sources census c.in_ok-sources.sources in
    let P : List Point → Type 0 = λ ps. IsCensus c.args.tree.now unit ps [] census in
    let N : List Node → Type 0 = λ ns. IsCensus ns unit graph.points [] census in
    let Q : List Point → Type 0 = λ ps. IsPlan c.args.tree.now unit ps sets all plan in
    let M : List Node → Type 0 = λ ns. IsPlan ns unit graph.points sets all plan in
    hits_alone root unit sets c.args.source graph is.graph [] census (subst N is.nodes_are (subst P c.as_slice-points.ensures (c.in_ok-names.ensures [] c.in_ok-none.ensures)))
    c.in_ok-sources.sources c.in_ok-sources.ensures.keys c.in_ok-sources.ensures.numbers plan (subst M is.nodes_are (subst Q c.as_slice-points.ensures (c.in_ok-plan.ensures sets are.places are.sanitizers)))
