use Rattle.kept_leaves.proofs.kept.KeptLeaves.is_right.Goals as goal

pub returns : goal.returns
returns c = rw (← c.self.view_is) c.self.invariant.right
