use Rattle.std.proofs.Common.{◌∙◌, subst, ℕ, List}
use Rattle.std.proofs.lemmas.List.{take_all}
use Rattle.unit_names.specs.Scopes.{AreScopesOf}
use Rattle.unit_names.proofs.ScopeList.{scope_more, scope_none}
use Rattle.unit_names.proofs.scope.scopes_in.Goals as goal

pub loop-unit-init : goal.loop-unit-init
loop-unit-init c = scope_none c.args.root.now c.new-scopes.result c.new-scopes.ensures

pub loop-unit-preserved : goal.loop-unit-preserved
loop-unit-preserved c = scope_more c.args.root.now c.as_slice-unit-items.result.now c.loop-unit.unit-index _ _ _ _ c.loop-unit-test.true c.in_ok-graph.ensures c.loop-unit.invariant c.in_ok-push.ensures.ok

pub returns : goal.returns
returns c =
    subst (λ (ns : List ℕ). AreScopesOf c.args.root.now ns c.loop-unit.scopes) (take_all c.loop-unit.unit-index c.as_slice-unit-items.result.now c.loop-unit-test.false ∙ c.as_slice-unit-items.ensures ∙ c.in_ok-numbers.ensures) c.loop-unit.invariant
