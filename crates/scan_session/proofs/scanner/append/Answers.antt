use Rattle.std.proofs.Common.{◌++◌, List, ap, ◌∙◌, reverse}
use Rattle.report_form.specs.declared.report.Reported.{Reported}
use Rattle.std.proofs.lemmas.List.{reverse-reverse}
use Rattle.scan_session.proofs.scanner.append.Goals as goal

pub loop-result-init : goal.loop-result-init
loop-result-init c = ap (λ (rs : List Reported). c.args.results.now ++ reverse rs) c.reverse.ensures ∙ ap (λ (rs : List Reported). c.args.results.now ++ rs) (reverse-reverse c.args.more)
