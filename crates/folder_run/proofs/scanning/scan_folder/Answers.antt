use Rattle.wire_words.specs.Commands.{task_of}
use Rattle.decided_texts.specs.Refused.{gained}
use Rattle.stream_run.specs.Reports.{readings_of}
use Rattle.stream_run.specs.Still.{setting}
use Rattle.folder_run.proofs.Scans.{asking, none_scanned}
use Rattle.folder_run.proofs.Once.{one_taken, only_scan, none_scanned_only}
use Rattle.folder_run.proofs.scanning.scan_folder.Goals as goal

pub take_folder-requires : goal.take_folder-requires
take_folder-requires g c = record { rules = c.new-rules.ensures.files; files = c.new-files.ensures }

pub returns-in-Ok-clause-ends : goal.returns-in-Ok-clause-ends
returns-in-Ok-clause-ends g c a =
    ((rw c.new-rules.ensures.reader at (rw c.in-Ok.ensures.same_reader at c.scan_and_print.ensures.so)) (g.T.Tree.files c.args.tree.now) (rw c.new-rules.ensures.reader at c.in-Ok.ensures.takes) a).takes.prints

pub returns-in-Ok-clause-work : goal.returns-in-Ok-clause-work
returns-in-Ok-clause-work g c a =
    ((rw c.new-rules.ensures.reader at (rw c.in-Ok.ensures.same_reader at c.scan_and_print.ensures.so)) (g.T.Tree.files c.args.tree.now) (rw c.new-rules.ensures.reader at c.in-Ok.ensures.takes) a).takes

pub returns-in-Ok-clause-asked : goal.returns-in-Ok-clause-asked
returns-in-Ok-clause-asked g c a =
    asking (setting (readings_of (g.R.TreeReader.spells c.args.reader.now) (g.R.TreeReader.knows c.args.reader.now) (g.R.CommentReader.comments c.args.reader.now) (g.R.PatternReader.writes c.args.reader.now) c.args.job.now.trace) (g.T.Tree.files c.args.tree.now) c.args.job.now.most (gained (g.P.Patterns.refusals c.args.patterns.now) (g.P.Patterns.refusals c.scan_and_print.new.patterns))) (task_of c.args.job.now) _ _ _ _ _ _ _ ((rw c.new-rules.ensures.reader at (rw c.in-Ok.ensures.same_reader at c.scan_and_print.ensures.so)) (g.T.Tree.files c.args.tree.now) (rw c.new-rules.ensures.reader at c.in-Ok.ensures.takes) a)

pub returns-in-Ok-clause-only : goal.returns-in-Ok-clause-only
returns-in-Ok-clause-only g c a told =
    only_scan (setting (readings_of (g.R.TreeReader.spells c.args.reader.now) (g.R.TreeReader.knows c.args.reader.now) (g.R.CommentReader.comments c.args.reader.now) (g.R.PatternReader.writes c.args.reader.now) c.args.job.now.trace) (g.T.Tree.files c.args.tree.now) c.args.job.now.most (gained (g.P.Patterns.refusals c.args.patterns.now) (g.P.Patterns.refusals c.scan_and_print.new.patterns))) told (task_of c.args.job.now) (rw c.new-rules.ensures.reader at (c.in-Ok.ensures.once told tt)) (one_taken (setting (readings_of (g.R.TreeReader.spells c.args.reader.now) (g.R.TreeReader.knows c.args.reader.now) (g.R.CommentReader.comments c.args.reader.now) (g.R.PatternReader.writes c.args.reader.now) c.args.job.now.trace) (g.T.Tree.files c.args.tree.now) c.args.job.now.most (gained (g.P.Patterns.refusals c.args.patterns.now) (g.P.Patterns.refusals c.scan_and_print.new.patterns))) told (task_of c.args.job.now) (rw c.new-rules.ensures.reader at (c.in-Ok.ensures.once told tt)) (record { files = c.take_folder.new.files; rules = c.take_folder.new.rules.files }) (rw c.new-rules.ensures.reader at c.in-Ok.ensures.takes) (rw c.new-rules.ensures.reader at (rw c.in-Ok.ensures.same_reader at c.scan_and_print.ensures.one))) _ _ _ (returns-in-Ok-clause-ends g c a)

pub returns-in-Ok-clause-front_written : goal.returns-in-Ok-clause-front_written
returns-in-Ok-clause-front_written g c e =
    (rw c.new-rules.ensures.reader at (rw c.in-Ok.ensures.same_reader at c.scan_and_print.ensures.front)) (g.T.Tree.files c.args.tree.now) (rw c.new-rules.ensures.reader at c.in-Ok.ensures.takes) e

pub returns-clause-ends : goal.returns-clause-ends
returns-clause-ends g c a =
    (none_scanned (setting (readings_of (g.R.TreeReader.spells c.args.reader.now) (g.R.TreeReader.knows c.args.reader.now) (g.R.CommentReader.comments c.args.reader.now) (g.R.PatternReader.writes c.args.reader.now) c.args.job.now.trace) (g.T.Tree.files c.args.tree.now) c.args.job.now.most (gained (g.P.Patterns.refusals c.args.patterns.now) (g.P.Patterns.refusals c.args.patterns.now))) (task_of c.args.job.now) c.in-Err.status (rw c.new-rules.ensures.reader at (c.in-Err.ensures.none a)) (g.K.Sink.written c.args.out.now) c.args.steps.now (g.P.Patterns.asked c.args.patterns.now)).takes.prints

pub returns-clause-work : goal.returns-clause-work
returns-clause-work g c a =
    (none_scanned (setting (readings_of (g.R.TreeReader.spells c.args.reader.now) (g.R.TreeReader.knows c.args.reader.now) (g.R.CommentReader.comments c.args.reader.now) (g.R.PatternReader.writes c.args.reader.now) c.args.job.now.trace) (g.T.Tree.files c.args.tree.now) c.args.job.now.most (gained (g.P.Patterns.refusals c.args.patterns.now) (g.P.Patterns.refusals c.args.patterns.now))) (task_of c.args.job.now) c.in-Err.status (rw c.new-rules.ensures.reader at (c.in-Err.ensures.none a)) (g.K.Sink.written c.args.out.now) c.args.steps.now (g.P.Patterns.asked c.args.patterns.now)).takes

pub returns-clause-asked : goal.returns-clause-asked
returns-clause-asked g c a =
    asking (setting (readings_of (g.R.TreeReader.spells c.args.reader.now) (g.R.TreeReader.knows c.args.reader.now) (g.R.CommentReader.comments c.args.reader.now) (g.R.PatternReader.writes c.args.reader.now) c.args.job.now.trace) (g.T.Tree.files c.args.tree.now) c.args.job.now.most (gained (g.P.Patterns.refusals c.args.patterns.now) (g.P.Patterns.refusals c.args.patterns.now))) (task_of c.args.job.now) _ _ _ _ _ _ _ (none_scanned (setting (readings_of (g.R.TreeReader.spells c.args.reader.now) (g.R.TreeReader.knows c.args.reader.now) (g.R.CommentReader.comments c.args.reader.now) (g.R.PatternReader.writes c.args.reader.now) c.args.job.now.trace) (g.T.Tree.files c.args.tree.now) c.args.job.now.most (gained (g.P.Patterns.refusals c.args.patterns.now) (g.P.Patterns.refusals c.args.patterns.now))) (task_of c.args.job.now) c.in-Err.status (rw c.new-rules.ensures.reader at (c.in-Err.ensures.none a)) (g.K.Sink.written c.args.out.now) c.args.steps.now (g.P.Patterns.asked c.args.patterns.now))

pub returns-clause-only : goal.returns-clause-only
returns-clause-only g c a told =
    none_scanned_only (setting (readings_of (g.R.TreeReader.spells c.args.reader.now) (g.R.TreeReader.knows c.args.reader.now) (g.R.CommentReader.comments c.args.reader.now) (g.R.PatternReader.writes c.args.reader.now) c.args.job.now.trace) (g.T.Tree.files c.args.tree.now) c.args.job.now.most (gained (g.P.Patterns.refusals c.args.patterns.now) (g.P.Patterns.refusals c.args.patterns.now))) told (task_of c.args.job.now) (rw c.new-rules.ensures.reader at (c.in-Err.ensures.once told a)) (g.K.Sink.written c.args.out.now) c.in-Err.status (rw c.new-rules.ensures.reader at (c.in-Err.ensures.none a))
