use Rattle.kept_leaves.proofs.Puts.{none_kept, none_right}
use Rattle.kept_leaves.proofs.kept.KeptLeaves.clear.Goals as goal

pub invariant_of-self : goal.invariant_of-self
invariant_of-self c = record { sound = c.clear.ensures.sound; right = none_right _ (none_kept _ c.clear.ensures.none) }

pub returns : goal.returns
returns c = none_kept _ c.clear.ensures.none
