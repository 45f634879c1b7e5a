use Rattle.kept_leaves.specs.Kept.{kept_in}
use Rattle.kept_leaves.proofs.Puts.{turns, turns_right}
use Rattle.kept_leaves.proofs.kept.KeptLeaves.turn.Goals as goal

pub invariant_of-self : goal.invariant_of-self
invariant_of-self c =
    let old = kept_in c.self.inside.pairs.store in
    let new = kept_in c.turn.new.self in
    record { sound = c.turn.ensures.sound; right = turns_right old new (turns old new c.turn.ensures.turned) c.self.invariant.right }

pub returns : goal.returns
returns c = rw (← c.self.view_is) (turns (kept_in c.self.inside.pairs.store) (kept_in c.turn.new.self) c.turn.ensures.turned)
