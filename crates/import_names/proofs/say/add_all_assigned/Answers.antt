use Rattle.std.proofs.Common.{false, ◌∙◌}
use Rattle.point_nodes.proofs.Parts.{flat_more}
use Rattle.assignments.proofs.Loops.{flat_done}
use Rattle.assignments.specs.Seen.{seen_assignment}
use Rattle.assignments.specs.Assignments.{assigned_in}
use Rattle.node_tree.specs.Numbers.{root_of}
use Rattle.import_names.specs.Claims as spec
use Rattle.import_names.proofs.Loops.{map_as}
use Rattle.import_names.proofs.say.add_all_assigned.Goals as goal

pub loop-one-preserved : goal.loop-one-preserved
loop-one-preserved c =
    flat_more seen_assignment spec.assigned_claims c.as_slice-one-items.result.now c.loop-one.one-index c.one-item.result _ _ _ c.loop-one-test.true c.one-item.is c.loop-one.invariant c.in_ok-add_assigned.ensures

pub returns : goal.returns
returns c =
    flat_done seen_assignment spec.assigned_claims c.as_slice-one-items.result.now c.loop-one.one-index (assigned_in false (root_of c.args.tree.now)) c.args.into.now.items _ c.loop-one-test.false
    (map_as seen_assignment c.as_slice-one-items.ensures ∙ c.in_ok-list.ensures) c.loop-one.invariant
