use Rattle.std.proofs.Common.{◌∙◌, ap, Err}
use Rattle.wire_words.specs.Commands.{task_of}
use Rattle.decided_texts.specs.Refused.{gained}
use Rattle.stream_run.specs.Reports.{readings_of}
use Rattle.stream_run.specs.Still.{setting}
use Rattle.folder_run.proofs.Scans.{not_memory, many_not_memory, refused_since, asks_texts, front_scanned, many_scanned, report_scanned, of_report}
use Rattle.folder_run.proofs.scanning.scan_and_print.Goals as goal

pub returns-in-Ok-clause-so : goal.returns-in-Ok-clause-so
returns-in-Ok-clause-so g c told takes a =
    let fine = not_memory c.scan_once.result c.in-Ok.report c.in-Ok.is in
    let readings = (let r = c.args.rules.now.reader in readings_of (g.R.TreeReader.spells r) (g.R.TreeReader.knows r) (g.R.CommentReader.comments r) (g.R.PatternReader.writes r) c.args.job.now.trace) in
    let texts = gained (g.P.Patterns.refusals c.args.patterns.now) (g.P.Patterns.refusals c.scan_once.new.patterns) in
    report_scanned (setting readings told c.args.job.now.most texts) (task_of c.args.job.now) (record { files = c.args.files.now; rules = c.args.rules.now.files }) takes
    c.scan_once.new.decided.refused (refused_since c.new-decided.result c.scan_once.new.decided c.new-decided.ensures texts (c.scan_once.ensures.refused fine))
    (g.P.Patterns.asked c.args.patterns.now) (g.P.Patterns.asked c.scan_once.new.patterns) (asks_texts c.new-decided.result c.scan_once.new.decided c.new-decided.ensures readings c.args.rules.now.files _ _ (c.scan_once.ensures.settled fine))
    c.args.steps.now c.scan_once.new.steps (c.scan_once.ensures.work fine)
    c.in-Ok.report c.in-Ok.ensures.report c.in-Ok.ensures.few c.print_report.result (g.K.Sink.written c.args.out.now) (g.K.Sink.written c.print_report.new.out) (c.print_report.ensures.ends a)

pub returns-in-Ok-clause-front : goal.returns-in-Ok-clause-front
returns-in-Ok-clause-front g c told takes e =
    let fine = not_memory c.scan_once.result c.in-Ok.report c.in-Ok.is in
    let readings = (let r = c.args.rules.now.reader in readings_of (g.R.TreeReader.spells r) (g.R.TreeReader.knows r) (g.R.CommentReader.comments r) (g.R.PatternReader.writes r) c.args.job.now.trace) in
    let texts = gained (g.P.Patterns.refusals c.args.patterns.now) (g.P.Patterns.refusals c.scan_once.new.patterns) in
    front_scanned (setting readings told c.args.job.now.most texts) (task_of c.args.job.now) (record { files = c.args.files.now; rules = c.args.rules.now.files }) takes
    c.scan_once.new.decided.refused (refused_since c.new-decided.result c.scan_once.new.decided c.new-decided.ensures texts (c.scan_once.ensures.refused fine))
    c.in-Ok.report c.in-Ok.ensures.report c.in-Ok.ensures.few (g.K.Sink.written c.args.out.now) (g.K.Sink.written c.print_report.new.out) (c.print_report.ensures.front_written e)

pub returns-in-Ok-clause-cause : goal.returns-in-Ok-clause-cause
returns-in-Ok-clause-cause g c = of_report c.print_report.result c.print_report.ensures.cause

pub returns-clause-so : goal.returns-clause-so
returns-clause-so g c told takes a =
    let fine = many_not_memory _ _ _ c.in-Err-TooMany.is c.in-Err-TooMany.field-0-is in
    let many = c.scan_once.ensures.too_many _ (c.in-Err-TooMany.is ∙ ap (λ f. Err f) c.in-Err-TooMany.field-0-is) in
    let readings = (let r = c.args.rules.now.reader in readings_of (g.R.TreeReader.spells r) (g.R.TreeReader.knows r) (g.R.CommentReader.comments r) (g.R.PatternReader.writes r) c.args.job.now.trace) in
    let texts = gained (g.P.Patterns.refusals c.args.patterns.now) (g.P.Patterns.refusals c.scan_once.new.patterns) in
    rw c.in-Err-TooMany.field-0-is (many_scanned (setting readings told c.args.job.now.most texts) (task_of c.args.job.now) (record { files = c.args.files.now; rules = c.args.rules.now.files }) takes
    c.scan_once.new.decided.refused (refused_since c.new-decided.result c.scan_once.new.decided c.new-decided.ensures texts (c.scan_once.ensures.refused fine))
    (g.P.Patterns.asked c.args.patterns.now) (g.P.Patterns.asked c.scan_once.new.patterns) (asks_texts c.new-decided.result c.scan_once.new.decided c.new-decided.ensures readings c.args.rules.now.files _ _ (c.scan_once.ensures.settled fine))
    c.args.steps.now c.scan_once.new.steps (c.scan_once.ensures.work fine)
    _ many.0 many.1 (g.K.Sink.written c.args.out.now))
