use Rattle.kept_leaves.specs.Kept.{kept_in}
use Rattle.kept_leaves.proofs.Puts.{path_marks, path_right}
use Rattle.kept_leaves.proofs.kept.KeptLeaves.keep_path.Goals as goal

pub invariant_of-self : goal.invariant_of-self
invariant_of-self c =
    let old = kept_in c.self.inside.pairs.store in
    let new = kept_in c.mark_all.new.self in
    record { sound = c.mark_all.ensures.sound; right = path_right old new c.args.path.now c.mark_all.ensures.met c.self.invariant.right }

pub returns : goal.returns
returns c = rw (← c.self.view_is) (path_marks (kept_in c.self.inside.pairs.store) (kept_in c.mark_all.new.self) c.args.path.now c.mark_all.ensures.met)
