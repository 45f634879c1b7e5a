use Rattle.kept_leaves.proofs.Puts.{none_kept, none_right}
use Rattle.kept_leaves.proofs.kept.KeptLeaves.new.Goals as goal

pub invariant_of-result : goal.invariant_of-result
invariant_of-result c = record { sound = c.new.ensures.sound; right = none_right _ (none_kept _ c.new.ensures.empty) }

pub returns : goal.returns
returns c = none_kept _ c.new.ensures.empty
