use Rattle.std.proofs.Common.{◌++◌, List, ap, ◌∙◌, reverse}
use Rattle.report_form.specs.declared.notice.Notice.{Notice}
use Rattle.std.proofs.lemmas.List.{reverse-reverse}
use Rattle.scan_session.proofs.scanner.append_notices.Goals as goal

pub loop-notice-init : goal.loop-notice-init
loop-notice-init c = ap (λ (ns : List Notice). c.args.notices.now.items ++ reverse ns) c.reverse.ensures ∙ ap (λ (ns : List Notice). c.args.notices.now.items ++ ns) (reverse-reverse c.args.more)
