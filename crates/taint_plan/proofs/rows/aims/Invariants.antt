use Rattle.std.proofs.Common.{take}
use Rattle.assignments.specs.Seen.{all_targets}
use Rattle.taint_tables.specs.Numbers.{numbers_of}
use Rattle.taint_plan.proofs.RowLists.{AimsOf}
use Rattle.taint_plan.proofs.rows.aims.Given as goal

abbrev pub invariant-loop-target : goal.invariant-loop-target
invariant-loop-target l = AimsOf (numbers_of l.look.census.now) l.one.manner (all_targets (take l.target-index l.target-items)) l.aims.items
