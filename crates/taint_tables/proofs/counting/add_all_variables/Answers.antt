use Rattle.std.proofs.Common.{◌++◌, ap, ◌∙◌}
use Rattle.std.specs.List.{flat_map}
use Rattle.std.proofs.lemmas.List.{take_all}
use Rattle.point_nodes.proofs.Parts.{flat_more}
use Rattle.assignments.specs.Seen.{seen_assignment, all_assignments}
use Rattle.taint_tables.specs.Censuses.{texts}
use Rattle.taint_tables.specs.Names.{variables_of}
use Rattle.taint_tables.proofs.counting.add_all_variables.Goals as goal

pub loop-one-preserved : goal.loop-one-preserved
loop-one-preserved c = flat_more seen_assignment variables_of c.args.list.now c.loop-one.one-index c.one-item.result (texts c.args.into.now) (texts c.loop-one.into) (texts c.add_variables.new.into) c.loop-one-test.true c.one-item.is c.loop-one.invariant c.in_ok-add_variables.ensures

pub returns : goal.returns
returns c = c.loop-one.invariant ∙ ap (λ xs. texts c.args.into.now ++ flat_map variables_of (all_assignments xs)) (take_all c.loop-one.one-index c.args.list.now c.loop-one-test.false)
