use Rattle.std.proofs.Common.{◌++◌, ◌∷◌, [], get_or, ap, sym, ◌∙◌}
use Rattle.std.proofs.lemmas.List.{take_more, take_all}
use Rattle.taint_form.specs.Origins.{Comes}
use Rattle.taint_form.proofs.Maps.{joined_old, joined_new}
use Rattle.taint_form.proofs.origins.Origins.joined.Goals as goal

pub loop-origin-preserved : goal.loop-origin-preserved
loop-origin-preserved c =
    c.in_ok-push.ensures.items ∙ ap (λ xs. xs ++ get_or c.args.value.now c.loop-origin.origin-index 0 ∷ []) c.loop-origin.invariant ∙ sym (take_more c.args.value.now c.loop-origin.origin-index 0 c.loop-origin-test.true)

pub returns-then-aim : goal.returns-then-aim
returns-then-aim c =
    let whole = c.loop-origin.invariant ∙ take_all c.loop-origin.origin-index c.args.value.now c.loop-origin-test.false in
    joined_new c.args.value.now c.loop-origin.origins.items (Comes c.args.self.now) c.args.aim c.if-aim.true whole

pub returns : goal.returns
returns c =
    let whole = c.loop-origin.invariant ∙ take_all c.loop-origin.origin-index c.args.value.now c.loop-origin-test.false in
    joined_old c.args.value.now c.loop-origin.origins.items c.add_origins.new.into.items c.in_ok-all.all.items (Comes c.args.self.now) c.args.aim c.if-aim.false whole c.in_ok-add_origins.ensures c.in_ok-all.ensures
