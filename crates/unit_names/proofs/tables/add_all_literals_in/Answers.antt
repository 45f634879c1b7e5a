use Rattle.std.proofs.Common.{refl}
use Rattle.unit_names.specs.Seen.{all_words}
use Rattle.unit_names.specs.Names as spec
use Rattle.assignments.proofs.Loops.{flat_done}
use Rattle.point_nodes.proofs.Parts.{flat_more}
use Rattle.assignments.specs.Seen.{seen_assignment}
use Rattle.unit_names.proofs.tables.add_all_literals_in.Goals as goal

pub loop-one-preserved : goal.loop-one-preserved
loop-one-preserved c = flat_more seen_assignment spec.literals_in c.args.list.now c.loop-one.one-index c.one-item.result _ _ _ c.loop-one-test.true c.one-item.is c.loop-one.invariant c.in_ok-add_literal.ensures

pub returns : goal.returns
returns c = flat_done seen_assignment spec.literals_in c.args.list.now c.loop-one.one-index _ (all_words c.args.into.now) _ c.loop-one-test.false refl c.loop-one.invariant
