use Rattle.std.proofs.Common.{List, ◌+◌, take, subst, ◌∙◌}
use Rattle.std.proofs.lemmas.List.{take_all}
use Rattle.assignments.specs.declared.assignment.Target.{Target}
use Rattle.assignments.specs.Seen.{all_targets, seen_assignment}
use Rattle.taint_tables.specs.Numbers.{numbers_of}
use Rattle.taint_plan.proofs.RowLists.{AimsOf, aims_more, read_more, are_aims}
use Rattle.taint_plan.proofs.rows.aims.Goals as goal

pub loop-target-preserved : goal.loop-target-preserved
loop-target-preserved c =
    let xs = c.as_slice-target-items.result.now in
    let i = c.loop-target.target-index in
    aims_more (numbers_of c.args.look.census.now) c.args.one.now.manner (all_targets (take i xs)) (all_targets (take (i + 1) xs)) _ c.loop-target.aims.items c.add_aim.new.aims.items
    (read_more xs i _ c.loop-target-test.true) c.loop-target.invariant c.in_ok-add_aim.ensures

pub returns : goal.returns
returns c =
    let numbers = numbers_of c.args.look.census.now in
    let P : List Target → Type 0 = λ xs. AimsOf numbers c.args.one.now.manner (all_targets xs) c.loop-target.aims.items in
    are_aims numbers (seen_assignment c.args.one.now) c.loop-target.aims.items (subst P (take_all c.loop-target.target-index c.as_slice-target-items.result.now c.loop-target-test.false ∙ c.as_slice-target-items.ensures) c.loop-target.invariant)
