use Rattle.std.proofs.Common.{◌∙◌, List, length, ap, arith, subst, sym}
use Rattle.node_tree.specs.declared.span.Span.{Span}
use Rattle.graph_form.specs.declared.graph.Point.{Point}
use Rattle.taint_flow.specs.Found.{AreInside}
use Rattle.taint_plan.specs.Plans.{IsPlan}
use Rattle.taint_flow.specs.Still.{KeepsFacts}
use Rattle.taint_flow.proofs.Reaching.{plan_keeps, goals_inside}
use Rattle.taint_flow.proofs.Searching.{found_hits}
use Rattle.taint_flow.proofs.search.search.Goals as goal

pub search_still-requires-clause-keeps : goal.search_still-requires-clause-keeps
search_still-requires-clause-keeps c =
    let scope = c.args.scope.now in
    let sets = c.args.rule.now.sets.now in
    let P : List Point → Type 0 = λ ps. IsPlan c.args.tree.now scope.unit ps sets c.args.census.now c.in_ok-plan.plan in
    let K : List Span → Type 0 = λ ks. KeepsFacts scope.graph c.in_ok-plan.plan (length ks) in
    subst K (sym c.keys-sources.ensures) (plan_keeps c.args.tree.now scope.unit scope.graph sets c.args.census.now c.in_ok-plan.plan (subst P c.as_slice-points.ensures (c.in_ok-plan.ensures sets c.requires.rule.places c.requires.rule.sanitizers)))

pub search_plan-requires-clause-keeps : goal.search_plan-requires-clause-keeps
search_plan-requires-clause-keeps c =
    let scope = c.args.scope.now in
    let sets = c.args.rule.now.sets.now in
    let P : List Point → Type 0 = λ ps. IsPlan c.args.tree.now scope.unit ps sets c.args.census.now c.in_ok-plan.plan in
    let K : List Span → Type 0 = λ ks. KeepsFacts scope.graph c.in_ok-plan.plan (length ks) in
    subst K (sym c.keys-sources.ensures) (plan_keeps c.args.tree.now scope.unit scope.graph sets c.args.census.now c.in_ok-plan.plan (subst P c.as_slice-points.ensures (c.in_ok-plan.ensures sets c.requires.rule.places c.requires.rule.sanitizers)))

pub search_plan-requires-clause-facts : goal.search_plan-requires-clause-facts
search_plan-requires-clause-facts c =
    let scope = c.args.scope.now in
    let sets = c.args.rule.now.sets.now in
    let P : List Point → Type 0 = λ ps. IsPlan c.args.tree.now scope.unit ps sets c.args.census.now c.in_ok-plan.plan in
    omega (arith, (subst P c.as_slice-points.ensures (c.in_ok-plan.ensures sets c.requires.rule.places c.requires.rule.sanitizers)).facts, ap length c.keys-sources.ensures)

pub search_still-requires-clause-goals : goal.search_still-requires-clause-goals
search_still-requires-clause-goals c =
    let scope = c.args.scope.now in
    let sets = c.args.rule.now.sets.now in
    let P : List Point → Type 0 = λ ps. IsPlan c.args.tree.now scope.unit ps sets c.args.census.now c.in_ok-plan.plan in
    let K : List Span → Type 0 = λ ks. AreInside (length scope.graph.points) (length ks) c.in_ok-plan.plan.goals in
    subst K (sym c.keys-sources.ensures) (goals_inside c.args.tree.now scope.unit scope.graph sets c.args.census.now c.in_ok-plan.plan (subst P c.as_slice-points.ensures (c.in_ok-plan.ensures sets c.requires.rule.places c.requires.rule.sanitizers)) (sym c.len.ensures ∙ c.if-len-eq0.true))

pub returns-then-len-eq0 : goal.returns-then-len-eq0
returns-then-len-eq0 c root is =
    let scope = c.args.scope.now in
    let sets = c.args.rule.now.sets.now in
    found_hits root c.args.tree.now scope.unit sets scope.graph c.as_slice-points.result.now c.keys-sources.result.now c.args.census.now c.in_ok-plan.plan c.args.least.now.sources.items c.search_still.new.least.sources.items is.nodes_are c.as_slice-points.ensures c.keys-sources.ensures
    is.graph c.requires.census (c.in_ok-plan.ensures sets c.requires.rule.places c.requires.rule.sanitizers) c.in_ok-search_still.ensures

pub returns : goal.returns
returns c root is =
    let scope = c.args.scope.now in
    let sets = c.args.rule.now.sets.now in
    found_hits root c.args.tree.now scope.unit sets scope.graph c.as_slice-points.result.now c.keys-sources.result.now c.args.census.now c.in_ok-plan.plan c.args.least.now.sources.items c.search_plan.new.least.sources.items is.nodes_are c.as_slice-points.ensures c.keys-sources.ensures
    is.graph c.requires.census (c.in_ok-plan.ensures sets c.requires.rule.places c.requires.rule.sanitizers) c.in_ok-search_plan.ensures
