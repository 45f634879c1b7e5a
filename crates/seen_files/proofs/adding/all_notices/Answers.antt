use Rattle.std.proofs.Common.{◌≡◌, List, [], ◌∷◌, ◌++◌, ap, ◌∙◌}
use Rattle.report_form.specs.declared.notice.Notice.{Notice}
use Rattle.seen_files.proofs.Added.{moved_on, moved_all}
use Rattle.seen_files.proofs.adding.all_notices.Goals as goal

pub loop-notice-preserved : goal.loop-notice-preserved
loop-notice-preserved c =
    moved_on c.loop-notice.old c.pop.new.self c.loop-notice.notices.items c.push.new.self.items c.in-Some.notice c.in-Some.ensures
    (c.in_ok-push.ensures.items ∙ ap (λ (n : Notice). c.loop-notice.notices.items ++ n ∷ []) c.of.ensures) _ _ c.loop-notice.invariant

pub returns : goal.returns
returns c = moved_all c.loop-notice.old c.loop-notice.notices.items _ _ c.in_default.ensures.0 c.loop-notice.invariant c.in_order.result c.in_order.ensures.same
