use Rattle.std.proofs.Common.{List, [], ◌∷◌, ◌++◌, sym, ap, ◌∙◌}
use Rattle.meta_bind.specs.declared.bound.Bound.{Bound}
use Rattle.taint_judge.proofs.Gathering.{take_grown}
use Rattle.taint_judge.proofs.gather.add_lent.Goals as goal

pub loop-at-preserved : goal.loop-at-preserved
loop-at-preserved c =
    let m = c.in-Some.member.now in
    take_grown c.args.members.now c.loop-at.at m (sym c.in-Some.ensures) c.args.all.now.items c.loop-at.all.items c.push.new.self.items c.loop-at.invariant
    (c.in_ok-push.ensures.items ∙ ap (λ (b : List Bound). c.loop-at.all.items ++ (m.0, b) ∷ []) c.in_ok-of.ensures)
