use Rattle.unit_names.proofs.Loops.{plain_more, plain_done}
use Rattle.unit_effects.specs.Fixed as spec
use Rattle.unit_effects.proofs.fixed.add_c_functions.Goals as goal

pub loop-scope-preserved : goal.loop-scope-preserved
loop-scope-preserved c = plain_more (spec.c_words c.args.tree.now) c.args.scopes.now c.loop-scope.scope-index c.scope-item.result _ _ _ c.loop-scope-test.true c.scope-item.is c.loop-scope.invariant c.in_ok-add_c_function.ensures

pub returns : goal.returns
returns c = plain_done (spec.c_words c.args.tree.now) c.args.scopes.now c.loop-scope.scope-index _ _ c.loop-scope-test.false c.loop-scope.invariant
