use Rattle.std.proofs.Common.{◌++◌, List, inl, refl, ap, ◌∙◌}
use Rattle.report_form.specs.declared.notice.Notice.{Notice}
use Rattle.running_rules.specs.Running.{running, rule_notices}
use Rattle.file_results.specs.Quieted.{grammars_of}
use Rattle.scan_session.proofs.Scans.{none_yet}
use Rattle.scan_session.proofs.scanner.Scanner.of.Goals as goal

pub returns-clause-begun : goal.returns-clause-begun
returns-clause-begun g c =
    let refused = c.take_files.new.decided.refused in
    let rules = running refused c.args.rules.now in
    let before = rule_notices refused c.args.rules.now in
    let noted = c.in_ok-running.ensures.notices ∙ ap (λ (ns : List Notice). ns ++ before) c.new-notices.ensures.items in
    record { limit = refl; rules = c.in_ok-running.ensures.rules; found = inl (none_yet (grammars_of (g.R.TreeReader.spells c.args.reader.now) (g.R.TreeReader.knows c.args.reader.now) (g.R.CommentReader.comments c.args.reader.now) c.args.traced) rules before c.args.most c.new.result c.take_files.new.notices.items c.new.ensures noted) }

pub returns-in_err-running-clause-grows : goal.returns-in_err-running-clause-grows
returns-in_err-running-clause-grows g c = c.take_files.ensures.begun.gains

pub returns-clause-grows : goal.returns-clause-grows
returns-clause-grows g c = c.take_files.ensures.begun.gains

pub returns-in_err-running-clause-asked : goal.returns-in_err-running-clause-asked
returns-in_err-running-clause-asked g c = c.take_files.ensures.begun.some

pub returns-clause-asked : goal.returns-clause-asked
returns-clause-asked g c = c.take_files.ensures.begun.some

pub returns-in_err-running-clause-undecided : goal.returns-in_err-running-clause-undecided
returns-in_err-running-clause-undecided g c = c.take_files.ensures.begun.undecided

pub returns-clause-undecided : goal.returns-clause-undecided
returns-clause-undecided g c = c.take_files.ensures.begun.undecided

pub returns-in_err-running-clause-kept : goal.returns-in_err-running-clause-kept
returns-in_err-running-clause-kept g c = c.take_files.ensures.begun.grows

pub returns-clause-kept : goal.returns-clause-kept
returns-clause-kept g c = c.take_files.ensures.begun.grows
