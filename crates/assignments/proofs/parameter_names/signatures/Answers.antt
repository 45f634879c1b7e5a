use Rattle.node_pool.specs.Spots.{seen}
use Rattle.assignments.specs.Declarators.{signature}
use Rattle.assignments.proofs.Loops.{all_more}
use Rattle.assignments.proofs.parameter_names.signatures.Goals as goal

pub loop-declarator-preserved : goal.loop-declarator-preserved
loop-declarator-preserved c =
    all_more seen signature c.args.declarators.now c.loop-declarator.declarator-index c.declarator-item.result _ _ c.loop-declarator-test.true c.declarator-item.is c.loop-declarator.invariant c.in_ok-add_signature.ensures
