use Rattle.std.proofs.Common.{◌∙◌, ap, Err, refl}
use Rattle.wire_words.specs.Commands.{task_of}
use Rattle.decided_texts.specs.Refused.{gained}
use Rattle.folder_run.proofs.Fixes.{asking, scans_once, texts_once, none_after, none_wrote, many_after, many_wrote, over_after, over_wrote, done_left, done_after, done_wrote, done_front, not_memory, many_not_memory, over_not_memory}
use Rattle.stream_run.specs.Reports.{readings_of}
use Rattle.stream_run.specs.Still.{setting}
use Rattle.folder_run.proofs.Once.{one_taken, only_fix, only_none}
use Rattle.folder_run.proofs.fixing.fix_taken.Goals as goal

pub returns-in-Err-clause-ends : goal.returns-in-Err-clause-ends
returns-in-Err-clause-ends g c a =
    (none_after (setting (let r = c.args.rules.now.reader in readings_of (g.R.TreeReader.spells r) (g.R.TreeReader.knows r) (g.R.CommentReader.comments r) (g.R.PatternReader.writes r) c.args.job.now.trace) (g.T.Tree.files c.args.tree.now) c.args.job.now.most _) (task_of c.args.job.now) c.in-Err.status (c.in-Err.ensures.none a) (g.K.Sink.written c.args.out.now) c.args.steps.now (g.P.Patterns.asked c.args.patterns.now)).takes.prints

pub returns-in-Err-clause-work : goal.returns-in-Err-clause-work
returns-in-Err-clause-work g c a =
    (none_after (setting (let r = c.args.rules.now.reader in readings_of (g.R.TreeReader.spells r) (g.R.TreeReader.knows r) (g.R.CommentReader.comments r) (g.R.PatternReader.writes r) c.args.job.now.trace) (g.T.Tree.files c.args.tree.now) c.args.job.now.most _) (task_of c.args.job.now) c.in-Err.status (c.in-Err.ensures.none a) (g.K.Sink.written c.args.out.now) c.args.steps.now (g.P.Patterns.asked c.args.patterns.now)).takes

pub returns-in-Err-clause-asked : goal.returns-in-Err-clause-asked
returns-in-Err-clause-asked g c a =
    asking _ _ _ _ _ _ _ _ _ (none_after (setting (let r = c.args.rules.now.reader in readings_of (g.R.TreeReader.spells r) (g.R.TreeReader.knows r) (g.R.CommentReader.comments r) (g.R.PatternReader.writes r) c.args.job.now.trace) (g.T.Tree.files c.args.tree.now) c.args.job.now.most _) (task_of c.args.job.now) c.in-Err.status (c.in-Err.ensures.none a) (g.K.Sink.written c.args.out.now) c.args.steps.now (g.P.Patterns.asked c.args.patterns.now))

pub returns-in-Err-clause-wrote : goal.returns-in-Err-clause-wrote
returns-in-Err-clause-wrote g c a =
    none_wrote (setting (let r = c.args.rules.now.reader in readings_of (g.R.TreeReader.spells r) (g.R.TreeReader.knows r) (g.R.CommentReader.comments r) (g.R.PatternReader.writes r) c.args.job.now.trace) (g.T.Tree.files c.args.tree.now) c.args.job.now.most _) (task_of c.args.job.now) c.in-Err.status (c.in-Err.ensures.none a) (g.T.Tree.files c.take_folder.new.tree) c.in-Err.ensures.kept

pub returns-in-Ok-fix_once-clause-ends : goal.returns-in-Ok-fix_once-clause-ends
returns-in-Ok-fix_once-clause-ends g c a =
    (done_after (λ r. readings_of (g.R.TreeReader.spells r) (g.R.TreeReader.knows r) (g.R.CommentReader.comments r) (g.R.PatternReader.writes r) c.args.job.now.trace) c.args.rules.now.reader c.take_folder.new.rules.reader c.in-Ok.ensures.same_reader (g.T.Tree.files c.args.tree.now) (g.T.Tree.files c.take_folder.new.tree) c.in-Ok.ensures.kept (task_of c.args.job.now) (record { files = c.args.files.now; rules = c.args.rules.now.files; decided = c.args.decided.now; most = c.args.job.now.most }) (record { files = c.take_folder.new.files; rules = c.take_folder.new.rules.files; decided = c.args.decided.now; most = c.args.job.now.most }) (record { files = c.requires.files; rules = c.requires.rules; refused = ap (λ d. d.refused) c.requires.decided; built = ap (λ d. d.built) c.requires.decided }) c.in-Ok.ensures.takes refl refl c.fix_once.new.decided (gained (g.P.Patterns.refusals c.args.patterns.now) (g.P.Patterns.refusals c.fix_once.new.patterns)) (c.fix_once.ensures.refused (λ e. not_memory c.fix_once.result _ c.in-Ok-fix_once.is e)) c.in-Ok-fix_once.fixed c.in-Ok-fix_once.ensures.report c.in-Ok-fix_once.ensures.few c.in-Ok-fix_once.ensures.within c.write_and_print.result (g.K.Sink.written c.args.out.now) (g.K.Sink.written c.write_and_print.new.out) c.args.steps.now c.fix_once.new.steps (g.P.Patterns.asked c.args.patterns.now) (g.P.Patterns.asked c.fix_once.new.patterns)
    (scans_once (λ r. readings_of (g.R.TreeReader.spells r) (g.R.TreeReader.knows r) (g.R.CommentReader.comments r) (g.R.PatternReader.writes r) c.args.job.now.trace) c.args.rules.now.reader c.take_folder.new.rules.reader c.in-Ok.ensures.same_reader (g.T.Tree.files c.args.tree.now) (g.T.Tree.files c.take_folder.new.tree) c.in-Ok.ensures.kept (task_of c.args.job.now) (record { files = c.args.files.now; rules = c.args.rules.now.files; decided = c.args.decided.now; most = c.args.job.now.most }) (record { files = c.take_folder.new.files; rules = c.take_folder.new.rules.files; decided = c.args.decided.now; most = c.args.job.now.most }) (record { files = c.requires.files; rules = c.requires.rules; refused = ap (λ d. d.refused) c.requires.decided; built = ap (λ d. d.built) c.requires.decided }) c.in-Ok.ensures.takes refl refl c.fix_once.new.decided (gained (g.P.Patterns.refusals c.args.patterns.now) (g.P.Patterns.refusals c.fix_once.new.patterns)) (c.fix_once.ensures.refused (λ e. not_memory c.fix_once.result _ c.in-Ok-fix_once.is e)) c.args.steps.now c.fix_once.new.steps (c.fix_once.ensures.work (λ e. not_memory c.fix_once.result _ c.in-Ok-fix_once.is e)))
    (texts_once (λ r. readings_of (g.R.TreeReader.spells r) (g.R.TreeReader.knows r) (g.R.CommentReader.comments r) (g.R.PatternReader.writes r) c.args.job.now.trace) c.args.rules.now.reader c.take_folder.new.rules.reader c.in-Ok.ensures.same_reader (g.T.Tree.files c.args.tree.now) (g.T.Tree.files c.take_folder.new.tree) c.in-Ok.ensures.kept (task_of c.args.job.now) (record { files = c.args.files.now; rules = c.args.rules.now.files; decided = c.args.decided.now; most = c.args.job.now.most }) (record { files = c.take_folder.new.files; rules = c.take_folder.new.rules.files; decided = c.args.decided.now; most = c.args.job.now.most }) (record { files = c.requires.files; rules = c.requires.rules; refused = ap (λ d. d.refused) c.requires.decided; built = ap (λ d. d.built) c.requires.decided }) c.in-Ok.ensures.takes refl refl c.fix_once.new.decided (gained (g.P.Patterns.refusals c.args.patterns.now) (g.P.Patterns.refusals c.fix_once.new.patterns)) (c.fix_once.ensures.refused (λ e. not_memory c.fix_once.result _ c.in-Ok-fix_once.is e)) (g.P.Patterns.asked c.args.patterns.now) (g.P.Patterns.asked c.fix_once.new.patterns) (c.fix_once.ensures.settled (λ e. not_memory c.fix_once.result _ c.in-Ok-fix_once.is e)))
    (c.write_and_print.ensures.ends a)).takes.prints

pub returns-in-Ok-fix_once-clause-work : goal.returns-in-Ok-fix_once-clause-work
returns-in-Ok-fix_once-clause-work g c a =
    (done_after (λ r. readings_of (g.R.TreeReader.spells r) (g.R.TreeReader.knows r) (g.R.CommentReader.comments r) (g.R.PatternReader.writes r) c.args.job.now.trace) c.args.rules.now.reader c.take_folder.new.rules.reader c.in-Ok.ensures.same_reader (g.T.Tree.files c.args.tree.now) (g.T.Tree.files c.take_folder.new.tree) c.in-Ok.ensures.kept (task_of c.args.job.now) (record { files = c.args.files.now; rules = c.args.rules.now.files; decided = c.args.decided.now; most = c.args.job.now.most }) (record { files = c.take_folder.new.files; rules = c.take_folder.new.rules.files; decided = c.args.decided.now; most = c.args.job.now.most }) (record { files = c.requires.files; rules = c.requires.rules; refused = ap (λ d. d.refused) c.requires.decided; built = ap (λ d. d.built) c.requires.decided }) c.in-Ok.ensures.takes refl refl c.fix_once.new.decided (gained (g.P.Patterns.refusals c.args.patterns.now) (g.P.Patterns.refusals c.fix_once.new.patterns)) (c.fix_once.ensures.refused (λ e. not_memory c.fix_once.result _ c.in-Ok-fix_once.is e)) c.in-Ok-fix_once.fixed c.in-Ok-fix_once.ensures.report c.in-Ok-fix_once.ensures.few c.in-Ok-fix_once.ensures.within c.write_and_print.result (g.K.Sink.written c.args.out.now) (g.K.Sink.written c.write_and_print.new.out) c.args.steps.now c.fix_once.new.steps (g.P.Patterns.asked c.args.patterns.now) (g.P.Patterns.asked c.fix_once.new.patterns)
    (scans_once (λ r. readings_of (g.R.TreeReader.spells r) (g.R.TreeReader.knows r) (g.R.CommentReader.comments r) (g.R.PatternReader.writes r) c.args.job.now.trace) c.args.rules.now.reader c.take_folder.new.rules.reader c.in-Ok.ensures.same_reader (g.T.Tree.files c.args.tree.now) (g.T.Tree.files c.take_folder.new.tree) c.in-Ok.ensures.kept (task_of c.args.job.now) (record { files = c.args.files.now; rules = c.args.rules.now.files; decided = c.args.decided.now; most = c.args.job.now.most }) (record { files = c.take_folder.new.files; rules = c.take_folder.new.rules.files; decided = c.args.decided.now; most = c.args.job.now.most }) (record { files = c.requires.files; rules = c.requires.rules; refused = ap (λ d. d.refused) c.requires.decided; built = ap (λ d. d.built) c.requires.decided }) c.in-Ok.ensures.takes refl refl c.fix_once.new.decided (gained (g.P.Patterns.refusals c.args.patterns.now) (g.P.Patterns.refusals c.fix_once.new.patterns)) (c.fix_once.ensures.refused (λ e. not_memory c.fix_once.result _ c.in-Ok-fix_once.is e)) c.args.steps.now c.fix_once.new.steps (c.fix_once.ensures.work (λ e. not_memory c.fix_once.result _ c.in-Ok-fix_once.is e)))
    (texts_once (λ r. readings_of (g.R.TreeReader.spells r) (g.R.TreeReader.knows r) (g.R.CommentReader.comments r) (g.R.PatternReader.writes r) c.args.job.now.trace) c.args.rules.now.reader c.take_folder.new.rules.reader c.in-Ok.ensures.same_reader (g.T.Tree.files c.args.tree.now) (g.T.Tree.files c.take_folder.new.tree) c.in-Ok.ensures.kept (task_of c.args.job.now) (record { files = c.args.files.now; rules = c.args.rules.now.files; decided = c.args.decided.now; most = c.args.job.now.most }) (record { files = c.take_folder.new.files; rules = c.take_folder.new.rules.files; decided = c.args.decided.now; most = c.args.job.now.most }) (record { files = c.requires.files; rules = c.requires.rules; refused = ap (λ d. d.refused) c.requires.decided; built = ap (λ d. d.built) c.requires.decided }) c.in-Ok.ensures.takes refl refl c.fix_once.new.decided (gained (g.P.Patterns.refusals c.args.patterns.now) (g.P.Patterns.refusals c.fix_once.new.patterns)) (c.fix_once.ensures.refused (λ e. not_memory c.fix_once.result _ c.in-Ok-fix_once.is e)) (g.P.Patterns.asked c.args.patterns.now) (g.P.Patterns.asked c.fix_once.new.patterns) (c.fix_once.ensures.settled (λ e. not_memory c.fix_once.result _ c.in-Ok-fix_once.is e)))
    (c.write_and_print.ensures.ends a)).takes

pub returns-in-Ok-fix_once-clause-asked : goal.returns-in-Ok-fix_once-clause-asked
returns-in-Ok-fix_once-clause-asked g c a =
    asking _ _ _ _ _ _ _ _ _ (done_after (λ r. readings_of (g.R.TreeReader.spells r) (g.R.TreeReader.knows r) (g.R.CommentReader.comments r) (g.R.PatternReader.writes r) c.args.job.now.trace) c.args.rules.now.reader c.take_folder.new.rules.reader c.in-Ok.ensures.same_reader (g.T.Tree.files c.args.tree.now) (g.T.Tree.files c.take_folder.new.tree) c.in-Ok.ensures.kept (task_of c.args.job.now) (record { files = c.args.files.now; rules = c.args.rules.now.files; decided = c.args.decided.now; most = c.args.job.now.most }) (record { files = c.take_folder.new.files; rules = c.take_folder.new.rules.files; decided = c.args.decided.now; most = c.args.job.now.most }) (record { files = c.requires.files; rules = c.requires.rules; refused = ap (λ d. d.refused) c.requires.decided; built = ap (λ d. d.built) c.requires.decided }) c.in-Ok.ensures.takes refl refl c.fix_once.new.decided (gained (g.P.Patterns.refusals c.args.patterns.now) (g.P.Patterns.refusals c.fix_once.new.patterns)) (c.fix_once.ensures.refused (λ e. not_memory c.fix_once.result _ c.in-Ok-fix_once.is e)) c.in-Ok-fix_once.fixed c.in-Ok-fix_once.ensures.report c.in-Ok-fix_once.ensures.few c.in-Ok-fix_once.ensures.within c.write_and_print.result (g.K.Sink.written c.args.out.now) (g.K.Sink.written c.write_and_print.new.out) c.args.steps.now c.fix_once.new.steps (g.P.Patterns.asked c.args.patterns.now) (g.P.Patterns.asked c.fix_once.new.patterns)
    (scans_once (λ r. readings_of (g.R.TreeReader.spells r) (g.R.TreeReader.knows r) (g.R.CommentReader.comments r) (g.R.PatternReader.writes r) c.args.job.now.trace) c.args.rules.now.reader c.take_folder.new.rules.reader c.in-Ok.ensures.same_reader (g.T.Tree.files c.args.tree.now) (g.T.Tree.files c.take_folder.new.tree) c.in-Ok.ensures.kept (task_of c.args.job.now) (record { files = c.args.files.now; rules = c.args.rules.now.files; decided = c.args.decided.now; most = c.args.job.now.most }) (record { files = c.take_folder.new.files; rules = c.take_folder.new.rules.files; decided = c.args.decided.now; most = c.args.job.now.most }) (record { files = c.requires.files; rules = c.requires.rules; refused = ap (λ d. d.refused) c.requires.decided; built = ap (λ d. d.built) c.requires.decided }) c.in-Ok.ensures.takes refl refl c.fix_once.new.decided (gained (g.P.Patterns.refusals c.args.patterns.now) (g.P.Patterns.refusals c.fix_once.new.patterns)) (c.fix_once.ensures.refused (λ e. not_memory c.fix_once.result _ c.in-Ok-fix_once.is e)) c.args.steps.now c.fix_once.new.steps (c.fix_once.ensures.work (λ e. not_memory c.fix_once.result _ c.in-Ok-fix_once.is e)))
    (texts_once (λ r. readings_of (g.R.TreeReader.spells r) (g.R.TreeReader.knows r) (g.R.CommentReader.comments r) (g.R.PatternReader.writes r) c.args.job.now.trace) c.args.rules.now.reader c.take_folder.new.rules.reader c.in-Ok.ensures.same_reader (g.T.Tree.files c.args.tree.now) (g.T.Tree.files c.take_folder.new.tree) c.in-Ok.ensures.kept (task_of c.args.job.now) (record { files = c.args.files.now; rules = c.args.rules.now.files; decided = c.args.decided.now; most = c.args.job.now.most }) (record { files = c.take_folder.new.files; rules = c.take_folder.new.rules.files; decided = c.args.decided.now; most = c.args.job.now.most }) (record { files = c.requires.files; rules = c.requires.rules; refused = ap (λ d. d.refused) c.requires.decided; built = ap (λ d. d.built) c.requires.decided }) c.in-Ok.ensures.takes refl refl c.fix_once.new.decided (gained (g.P.Patterns.refusals c.args.patterns.now) (g.P.Patterns.refusals c.fix_once.new.patterns)) (c.fix_once.ensures.refused (λ e. not_memory c.fix_once.result _ c.in-Ok-fix_once.is e)) (g.P.Patterns.asked c.args.patterns.now) (g.P.Patterns.asked c.fix_once.new.patterns) (c.fix_once.ensures.settled (λ e. not_memory c.fix_once.result _ c.in-Ok-fix_once.is e)))
    (c.write_and_print.ensures.ends a))

pub returns-in-Ok-fix_once-clause-wrote : goal.returns-in-Ok-fix_once-clause-wrote
returns-in-Ok-fix_once-clause-wrote g c a =
    done_wrote (λ r. readings_of (g.R.TreeReader.spells r) (g.R.TreeReader.knows r) (g.R.CommentReader.comments r) (g.R.PatternReader.writes r) c.args.job.now.trace) c.args.rules.now.reader c.take_folder.new.rules.reader c.in-Ok.ensures.same_reader (g.T.Tree.files c.args.tree.now) (g.T.Tree.files c.take_folder.new.tree) c.in-Ok.ensures.kept (task_of c.args.job.now) (record { files = c.args.files.now; rules = c.args.rules.now.files; decided = c.args.decided.now; most = c.args.job.now.most }) (record { files = c.take_folder.new.files; rules = c.take_folder.new.rules.files; decided = c.args.decided.now; most = c.args.job.now.most }) (record { files = c.requires.files; rules = c.requires.rules; refused = ap (λ d. d.refused) c.requires.decided; built = ap (λ d. d.built) c.requires.decided }) c.in-Ok.ensures.takes refl refl c.fix_once.new.decided (gained (g.P.Patterns.refusals c.args.patterns.now) (g.P.Patterns.refusals c.fix_once.new.patterns)) (c.fix_once.ensures.refused (λ e. not_memory c.fix_once.result _ c.in-Ok-fix_once.is e)) c.in-Ok-fix_once.fixed c.in-Ok-fix_once.ensures.report c.in-Ok-fix_once.ensures.few c.in-Ok-fix_once.ensures.within c.write_and_print.result (g.T.Tree.files c.write_and_print.new.tree) (c.write_and_print.ensures.ends a).ends.0 (c.write_and_print.ensures.wrote a)

pub returns-in-Ok-fix_once-clause-left : goal.returns-in-Ok-fix_once-clause-left
returns-in-Ok-fix_once-clause-left g c =
    done_left (λ r. readings_of (g.R.TreeReader.spells r) (g.R.TreeReader.knows r) (g.R.CommentReader.comments r) (g.R.PatternReader.writes r) c.args.job.now.trace) c.args.rules.now.reader c.take_folder.new.rules.reader c.in-Ok.ensures.same_reader (g.T.Tree.files c.args.tree.now) (g.T.Tree.files c.take_folder.new.tree) c.in-Ok.ensures.kept (task_of c.args.job.now) (record { files = c.args.files.now; rules = c.args.rules.now.files; decided = c.args.decided.now; most = c.args.job.now.most }) (record { files = c.take_folder.new.files; rules = c.take_folder.new.rules.files; decided = c.args.decided.now; most = c.args.job.now.most }) (record { files = c.requires.files; rules = c.requires.rules; refused = ap (λ d. d.refused) c.requires.decided; built = ap (λ d. d.built) c.requires.decided }) c.in-Ok.ensures.takes refl refl c.fix_once.new.decided (gained (g.P.Patterns.refusals c.args.patterns.now) (g.P.Patterns.refusals c.fix_once.new.patterns)) (c.fix_once.ensures.refused (λ e. not_memory c.fix_once.result _ c.in-Ok-fix_once.is e)) c.in-Ok-fix_once.fixed c.in-Ok-fix_once.ensures.report c.in-Ok-fix_once.ensures.few c.in-Ok-fix_once.ensures.within (g.T.Tree.files c.write_and_print.new.tree) c.write_and_print.ensures.left

pub returns-in-Ok-fix_once-clause-front_written : goal.returns-in-Ok-fix_once-clause-front_written
returns-in-Ok-fix_once-clause-front_written g c e =
    done_front (λ r. readings_of (g.R.TreeReader.spells r) (g.R.TreeReader.knows r) (g.R.CommentReader.comments r) (g.R.PatternReader.writes r) c.args.job.now.trace) c.args.rules.now.reader c.take_folder.new.rules.reader c.in-Ok.ensures.same_reader (g.T.Tree.files c.args.tree.now) (g.T.Tree.files c.take_folder.new.tree) c.in-Ok.ensures.kept (task_of c.args.job.now) (record { files = c.args.files.now; rules = c.args.rules.now.files; decided = c.args.decided.now; most = c.args.job.now.most }) (record { files = c.take_folder.new.files; rules = c.take_folder.new.rules.files; decided = c.args.decided.now; most = c.args.job.now.most }) (record { files = c.requires.files; rules = c.requires.rules; refused = ap (λ d. d.refused) c.requires.decided; built = ap (λ d. d.built) c.requires.decided }) c.in-Ok.ensures.takes refl refl c.fix_once.new.decided (gained (g.P.Patterns.refusals c.args.patterns.now) (g.P.Patterns.refusals c.fix_once.new.patterns)) (c.fix_once.ensures.refused (λ e. not_memory c.fix_once.result _ c.in-Ok-fix_once.is e)) c.in-Ok-fix_once.fixed c.in-Ok-fix_once.ensures.report c.in-Ok-fix_once.ensures.few c.in-Ok-fix_once.ensures.within (g.K.Sink.written c.args.out.now) (g.K.Sink.written c.write_and_print.new.out) (c.write_and_print.ensures.front_written e)

pub returns-in-Err-TooMany-clause-ends : goal.returns-in-Err-TooMany-clause-ends
returns-in-Err-TooMany-clause-ends g c a =
    let e = c.fix_once.ensures.too_many _ (c.in-Err-TooMany.is ∙ ap (λ f. Err f) c.in-Err-TooMany.field-0-is) in rw c.in-Err-TooMany.field-0-is ((many_after (λ r. readings_of (g.R.TreeReader.spells r) (g.R.TreeReader.knows r) (g.R.CommentReader.comments r) (g.R.PatternReader.writes r) c.args.job.now.trace) c.args.rules.now.reader c.take_folder.new.rules.reader c.in-Ok.ensures.same_reader (g.T.Tree.files c.args.tree.now) (g.T.Tree.files c.take_folder.new.tree) c.in-Ok.ensures.kept (task_of c.args.job.now) (record { files = c.args.files.now; rules = c.args.rules.now.files; decided = c.args.decided.now; most = c.args.job.now.most }) (record { files = c.take_folder.new.files; rules = c.take_folder.new.rules.files; decided = c.args.decided.now; most = c.args.job.now.most }) (record { files = c.requires.files; rules = c.requires.rules; refused = ap (λ d. d.refused) c.requires.decided; built = ap (λ d. d.built) c.requires.decided }) c.in-Ok.ensures.takes refl refl c.fix_once.new.decided (gained (g.P.Patterns.refusals c.args.patterns.now) (g.P.Patterns.refusals c.fix_once.new.patterns)) (c.fix_once.ensures.refused (λ k. many_not_memory _ _ _ c.in-Err-TooMany.is c.in-Err-TooMany.field-0-is k)) _ e.0 e.1 (g.K.Sink.written c.args.out.now) c.args.steps.now c.fix_once.new.steps (g.P.Patterns.asked c.args.patterns.now) (g.P.Patterns.asked c.fix_once.new.patterns)
    (scans_once (λ r. readings_of (g.R.TreeReader.spells r) (g.R.TreeReader.knows r) (g.R.CommentReader.comments r) (g.R.PatternReader.writes r) c.args.job.now.trace) c.args.rules.now.reader c.take_folder.new.rules.reader c.in-Ok.ensures.same_reader (g.T.Tree.files c.args.tree.now) (g.T.Tree.files c.take_folder.new.tree) c.in-Ok.ensures.kept (task_of c.args.job.now) (record { files = c.args.files.now; rules = c.args.rules.now.files; decided = c.args.decided.now; most = c.args.job.now.most }) (record { files = c.take_folder.new.files; rules = c.take_folder.new.rules.files; decided = c.args.decided.now; most = c.args.job.now.most }) (record { files = c.requires.files; rules = c.requires.rules; refused = ap (λ d. d.refused) c.requires.decided; built = ap (λ d. d.built) c.requires.decided }) c.in-Ok.ensures.takes refl refl c.fix_once.new.decided (gained (g.P.Patterns.refusals c.args.patterns.now) (g.P.Patterns.refusals c.fix_once.new.patterns)) (c.fix_once.ensures.refused (λ k. many_not_memory _ _ _ c.in-Err-TooMany.is c.in-Err-TooMany.field-0-is k)) c.args.steps.now c.fix_once.new.steps (c.fix_once.ensures.work (λ k. many_not_memory _ _ _ c.in-Err-TooMany.is c.in-Err-TooMany.field-0-is k)))
    (texts_once (λ r. readings_of (g.R.TreeReader.spells r) (g.R.TreeReader.knows r) (g.R.CommentReader.comments r) (g.R.PatternReader.writes r) c.args.job.now.trace) c.args.rules.now.reader c.take_folder.new.rules.reader c.in-Ok.ensures.same_reader (g.T.Tree.files c.args.tree.now) (g.T.Tree.files c.take_folder.new.tree) c.in-Ok.ensures.kept (task_of c.args.job.now) (record { files = c.args.files.now; rules = c.args.rules.now.files; decided = c.args.decided.now; most = c.args.job.now.most }) (record { files = c.take_folder.new.files; rules = c.take_folder.new.rules.files; decided = c.args.decided.now; most = c.args.job.now.most }) (record { files = c.requires.files; rules = c.requires.rules; refused = ap (λ d. d.refused) c.requires.decided; built = ap (λ d. d.built) c.requires.decided }) c.in-Ok.ensures.takes refl refl c.fix_once.new.decided (gained (g.P.Patterns.refusals c.args.patterns.now) (g.P.Patterns.refusals c.fix_once.new.patterns)) (c.fix_once.ensures.refused (λ k. many_not_memory _ _ _ c.in-Err-TooMany.is c.in-Err-TooMany.field-0-is k)) (g.P.Patterns.asked c.args.patterns.now) (g.P.Patterns.asked c.fix_once.new.patterns) (c.fix_once.ensures.settled (λ k. many_not_memory _ _ _ c.in-Err-TooMany.is c.in-Err-TooMany.field-0-is k)))).takes.prints)

pub returns-in-Err-TooMany-clause-work : goal.returns-in-Err-TooMany-clause-work
returns-in-Err-TooMany-clause-work g c a =
    let e = c.fix_once.ensures.too_many _ (c.in-Err-TooMany.is ∙ ap (λ f. Err f) c.in-Err-TooMany.field-0-is) in rw c.in-Err-TooMany.field-0-is ((many_after (λ r. readings_of (g.R.TreeReader.spells r) (g.R.TreeReader.knows r) (g.R.CommentReader.comments r) (g.R.PatternReader.writes r) c.args.job.now.trace) c.args.rules.now.reader c.take_folder.new.rules.reader c.in-Ok.ensures.same_reader (g.T.Tree.files c.args.tree.now) (g.T.Tree.files c.take_folder.new.tree) c.in-Ok.ensures.kept (task_of c.args.job.now) (record { files = c.args.files.now; rules = c.args.rules.now.files; decided = c.args.decided.now; most = c.args.job.now.most }) (record { files = c.take_folder.new.files; rules = c.take_folder.new.rules.files; decided = c.args.decided.now; most = c.args.job.now.most }) (record { files = c.requires.files; rules = c.requires.rules; refused = ap (λ d. d.refused) c.requires.decided; built = ap (λ d. d.built) c.requires.decided }) c.in-Ok.ensures.takes refl refl c.fix_once.new.decided (gained (g.P.Patterns.refusals c.args.patterns.now) (g.P.Patterns.refusals c.fix_once.new.patterns)) (c.fix_once.ensures.refused (λ k. many_not_memory _ _ _ c.in-Err-TooMany.is c.in-Err-TooMany.field-0-is k)) _ e.0 e.1 (g.K.Sink.written c.args.out.now) c.args.steps.now c.fix_once.new.steps (g.P.Patterns.asked c.args.patterns.now) (g.P.Patterns.asked c.fix_once.new.patterns)
    (scans_once (λ r. readings_of (g.R.TreeReader.spells r) (g.R.TreeReader.knows r) (g.R.CommentReader.comments r) (g.R.PatternReader.writes r) c.args.job.now.trace) c.args.rules.now.reader c.take_folder.new.rules.reader c.in-Ok.ensures.same_reader (g.T.Tree.files c.args.tree.now) (g.T.Tree.files c.take_folder.new.tree) c.in-Ok.ensures.kept (task_of c.args.job.now) (record { files = c.args.files.now; rules = c.args.rules.now.files; decided = c.args.decided.now; most = c.args.job.now.most }) (record { files = c.take_folder.new.files; rules = c.take_folder.new.rules.files; decided = c.args.decided.now; most = c.args.job.now.most }) (record { files = c.requires.files; rules = c.requires.rules; refused = ap (λ d. d.refused) c.requires.decided; built = ap (λ d. d.built) c.requires.decided }) c.in-Ok.ensures.takes refl refl c.fix_once.new.decided (gained (g.P.Patterns.refusals c.args.patterns.now) (g.P.Patterns.refusals c.fix_once.new.patterns)) (c.fix_once.ensures.refused (λ k. many_not_memory _ _ _ c.in-Err-TooMany.is c.in-Err-TooMany.field-0-is k)) c.args.steps.now c.fix_once.new.steps (c.fix_once.ensures.work (λ k. many_not_memory _ _ _ c.in-Err-TooMany.is c.in-Err-TooMany.field-0-is k)))
    (texts_once (λ r. readings_of (g.R.TreeReader.spells r) (g.R.TreeReader.knows r) (g.R.CommentReader.comments r) (g.R.PatternReader.writes r) c.args.job.now.trace) c.args.rules.now.reader c.take_folder.new.rules.reader c.in-Ok.ensures.same_reader (g.T.Tree.files c.args.tree.now) (g.T.Tree.files c.take_folder.new.tree) c.in-Ok.ensures.kept (task_of c.args.job.now) (record { files = c.args.files.now; rules = c.args.rules.now.files; decided = c.args.decided.now; most = c.args.job.now.most }) (record { files = c.take_folder.new.files; rules = c.take_folder.new.rules.files; decided = c.args.decided.now; most = c.args.job.now.most }) (record { files = c.requires.files; rules = c.requires.rules; refused = ap (λ d. d.refused) c.requires.decided; built = ap (λ d. d.built) c.requires.decided }) c.in-Ok.ensures.takes refl refl c.fix_once.new.decided (gained (g.P.Patterns.refusals c.args.patterns.now) (g.P.Patterns.refusals c.fix_once.new.patterns)) (c.fix_once.ensures.refused (λ k. many_not_memory _ _ _ c.in-Err-TooMany.is c.in-Err-TooMany.field-0-is k)) (g.P.Patterns.asked c.args.patterns.now) (g.P.Patterns.asked c.fix_once.new.patterns) (c.fix_once.ensures.settled (λ k. many_not_memory _ _ _ c.in-Err-TooMany.is c.in-Err-TooMany.field-0-is k)))).takes)

pub returns-in-Err-TooMany-clause-asked : goal.returns-in-Err-TooMany-clause-asked
returns-in-Err-TooMany-clause-asked g c a =
    let e = c.fix_once.ensures.too_many _ (c.in-Err-TooMany.is ∙ ap (λ f. Err f) c.in-Err-TooMany.field-0-is) in rw c.in-Err-TooMany.field-0-is (asking _ _ _ _ _ _ _ _ _ (many_after (λ r. readings_of (g.R.TreeReader.spells r) (g.R.TreeReader.knows r) (g.R.CommentReader.comments r) (g.R.PatternReader.writes r) c.args.job.now.trace) c.args.rules.now.reader c.take_folder.new.rules.reader c.in-Ok.ensures.same_reader (g.T.Tree.files c.args.tree.now) (g.T.Tree.files c.take_folder.new.tree) c.in-Ok.ensures.kept (task_of c.args.job.now) (record { files = c.args.files.now; rules = c.args.rules.now.files; decided = c.args.decided.now; most = c.args.job.now.most }) (record { files = c.take_folder.new.files; rules = c.take_folder.new.rules.files; decided = c.args.decided.now; most = c.args.job.now.most }) (record { files = c.requires.files; rules = c.requires.rules; refused = ap (λ d. d.refused) c.requires.decided; built = ap (λ d. d.built) c.requires.decided }) c.in-Ok.ensures.takes refl refl c.fix_once.new.decided (gained (g.P.Patterns.refusals c.args.patterns.now) (g.P.Patterns.refusals c.fix_once.new.patterns)) (c.fix_once.ensures.refused (λ k. many_not_memory _ _ _ c.in-Err-TooMany.is c.in-Err-TooMany.field-0-is k)) _ e.0 e.1 (g.K.Sink.written c.args.out.now) c.args.steps.now c.fix_once.new.steps (g.P.Patterns.asked c.args.patterns.now) (g.P.Patterns.asked c.fix_once.new.patterns)
    (scans_once (λ r. readings_of (g.R.TreeReader.spells r) (g.R.TreeReader.knows r) (g.R.CommentReader.comments r) (g.R.PatternReader.writes r) c.args.job.now.trace) c.args.rules.now.reader c.take_folder.new.rules.reader c.in-Ok.ensures.same_reader (g.T.Tree.files c.args.tree.now) (g.T.Tree.files c.take_folder.new.tree) c.in-Ok.ensures.kept (task_of c.args.job.now) (record { files = c.args.files.now; rules = c.args.rules.now.files; decided = c.args.decided.now; most = c.args.job.now.most }) (record { files = c.take_folder.new.files; rules = c.take_folder.new.rules.files; decided = c.args.decided.now; most = c.args.job.now.most }) (record { files = c.requires.files; rules = c.requires.rules; refused = ap (λ d. d.refused) c.requires.decided; built = ap (λ d. d.built) c.requires.decided }) c.in-Ok.ensures.takes refl refl c.fix_once.new.decided (gained (g.P.Patterns.refusals c.args.patterns.now) (g.P.Patterns.refusals c.fix_once.new.patterns)) (c.fix_once.ensures.refused (λ k. many_not_memory _ _ _ c.in-Err-TooMany.is c.in-Err-TooMany.field-0-is k)) c.args.steps.now c.fix_once.new.steps (c.fix_once.ensures.work (λ k. many_not_memory _ _ _ c.in-Err-TooMany.is c.in-Err-TooMany.field-0-is k)))
    (texts_once (λ r. readings_of (g.R.TreeReader.spells r) (g.R.TreeReader.knows r) (g.R.CommentReader.comments r) (g.R.PatternReader.writes r) c.args.job.now.trace) c.args.rules.now.reader c.take_folder.new.rules.reader c.in-Ok.ensures.same_reader (g.T.Tree.files c.args.tree.now) (g.T.Tree.files c.take_folder.new.tree) c.in-Ok.ensures.kept (task_of c.args.job.now) (record { files = c.args.files.now; rules = c.args.rules.now.files; decided = c.args.decided.now; most = c.args.job.now.most }) (record { files = c.take_folder.new.files; rules = c.take_folder.new.rules.files; decided = c.args.decided.now; most = c.args.job.now.most }) (record { files = c.requires.files; rules = c.requires.rules; refused = ap (λ d. d.refused) c.requires.decided; built = ap (λ d. d.built) c.requires.decided }) c.in-Ok.ensures.takes refl refl c.fix_once.new.decided (gained (g.P.Patterns.refusals c.args.patterns.now) (g.P.Patterns.refusals c.fix_once.new.patterns)) (c.fix_once.ensures.refused (λ k. many_not_memory _ _ _ c.in-Err-TooMany.is c.in-Err-TooMany.field-0-is k)) (g.P.Patterns.asked c.args.patterns.now) (g.P.Patterns.asked c.fix_once.new.patterns) (c.fix_once.ensures.settled (λ k. many_not_memory _ _ _ c.in-Err-TooMany.is c.in-Err-TooMany.field-0-is k)))))

pub returns-in-Err-TooMany-clause-wrote : goal.returns-in-Err-TooMany-clause-wrote
returns-in-Err-TooMany-clause-wrote g c a =
    let e = c.fix_once.ensures.too_many _ (c.in-Err-TooMany.is ∙ ap (λ f. Err f) c.in-Err-TooMany.field-0-is) in rw c.in-Err-TooMany.field-0-is (many_wrote (λ r. readings_of (g.R.TreeReader.spells r) (g.R.TreeReader.knows r) (g.R.CommentReader.comments r) (g.R.PatternReader.writes r) c.args.job.now.trace) c.args.rules.now.reader c.take_folder.new.rules.reader c.in-Ok.ensures.same_reader (g.T.Tree.files c.args.tree.now) (g.T.Tree.files c.take_folder.new.tree) c.in-Ok.ensures.kept (task_of c.args.job.now) (record { files = c.args.files.now; rules = c.args.rules.now.files; decided = c.args.decided.now; most = c.args.job.now.most }) (record { files = c.take_folder.new.files; rules = c.take_folder.new.rules.files; decided = c.args.decided.now; most = c.args.job.now.most }) (record { files = c.requires.files; rules = c.requires.rules; refused = ap (λ d. d.refused) c.requires.decided; built = ap (λ d. d.built) c.requires.decided }) c.in-Ok.ensures.takes refl refl c.fix_once.new.decided (gained (g.P.Patterns.refusals c.args.patterns.now) (g.P.Patterns.refusals c.fix_once.new.patterns)) (c.fix_once.ensures.refused (λ k. many_not_memory _ _ _ c.in-Err-TooMany.is c.in-Err-TooMany.field-0-is k)) _ e.0 e.1)

pub returns-in-Err-OverLimit-clause-ends : goal.returns-in-Err-OverLimit-clause-ends
returns-in-Err-OverLimit-clause-ends g c a =
    let e = c.fix_once.ensures.over _ _ (c.in-Err-OverLimit.is ∙ ap (λ f. Err f) c.in-Err-OverLimit.field-0-is) in rw c.in-Err-OverLimit.field-0-is ((over_after (λ r. readings_of (g.R.TreeReader.spells r) (g.R.TreeReader.knows r) (g.R.CommentReader.comments r) (g.R.PatternReader.writes r) c.args.job.now.trace) c.args.rules.now.reader c.take_folder.new.rules.reader c.in-Ok.ensures.same_reader (g.T.Tree.files c.args.tree.now) (g.T.Tree.files c.take_folder.new.tree) c.in-Ok.ensures.kept (task_of c.args.job.now) (record { files = c.args.files.now; rules = c.args.rules.now.files; decided = c.args.decided.now; most = c.args.job.now.most }) (record { files = c.take_folder.new.files; rules = c.take_folder.new.rules.files; decided = c.args.decided.now; most = c.args.job.now.most }) (record { files = c.requires.files; rules = c.requires.rules; refused = ap (λ d. d.refused) c.requires.decided; built = ap (λ d. d.built) c.requires.decided }) c.in-Ok.ensures.takes refl refl c.fix_once.new.decided (gained (g.P.Patterns.refusals c.args.patterns.now) (g.P.Patterns.refusals c.fix_once.new.patterns)) (c.fix_once.ensures.refused (λ k. over_not_memory _ _ _ _ c.in-Err-OverLimit.is c.in-Err-OverLimit.field-0-is k)) _ _ e (g.K.Sink.written c.args.out.now) c.args.steps.now c.fix_once.new.steps (g.P.Patterns.asked c.args.patterns.now) (g.P.Patterns.asked c.fix_once.new.patterns)
    (scans_once (λ r. readings_of (g.R.TreeReader.spells r) (g.R.TreeReader.knows r) (g.R.CommentReader.comments r) (g.R.PatternReader.writes r) c.args.job.now.trace) c.args.rules.now.reader c.take_folder.new.rules.reader c.in-Ok.ensures.same_reader (g.T.Tree.files c.args.tree.now) (g.T.Tree.files c.take_folder.new.tree) c.in-Ok.ensures.kept (task_of c.args.job.now) (record { files = c.args.files.now; rules = c.args.rules.now.files; decided = c.args.decided.now; most = c.args.job.now.most }) (record { files = c.take_folder.new.files; rules = c.take_folder.new.rules.files; decided = c.args.decided.now; most = c.args.job.now.most }) (record { files = c.requires.files; rules = c.requires.rules; refused = ap (λ d. d.refused) c.requires.decided; built = ap (λ d. d.built) c.requires.decided }) c.in-Ok.ensures.takes refl refl c.fix_once.new.decided (gained (g.P.Patterns.refusals c.args.patterns.now) (g.P.Patterns.refusals c.fix_once.new.patterns)) (c.fix_once.ensures.refused (λ k. over_not_memory _ _ _ _ c.in-Err-OverLimit.is c.in-Err-OverLimit.field-0-is k)) c.args.steps.now c.fix_once.new.steps (c.fix_once.ensures.work (λ k. over_not_memory _ _ _ _ c.in-Err-OverLimit.is c.in-Err-OverLimit.field-0-is k)))
    (texts_once (λ r. readings_of (g.R.TreeReader.spells r) (g.R.TreeReader.knows r) (g.R.CommentReader.comments r) (g.R.PatternReader.writes r) c.args.job.now.trace) c.args.rules.now.reader c.take_folder.new.rules.reader c.in-Ok.ensures.same_reader (g.T.Tree.files c.args.tree.now) (g.T.Tree.files c.take_folder.new.tree) c.in-Ok.ensures.kept (task_of c.args.job.now) (record { files = c.args.files.now; rules = c.args.rules.now.files; decided = c.args.decided.now; most = c.args.job.now.most }) (record { files = c.take_folder.new.files; rules = c.take_folder.new.rules.files; decided = c.args.decided.now; most = c.args.job.now.most }) (record { files = c.requires.files; rules = c.requires.rules; refused = ap (λ d. d.refused) c.requires.decided; built = ap (λ d. d.built) c.requires.decided }) c.in-Ok.ensures.takes refl refl c.fix_once.new.decided (gained (g.P.Patterns.refusals c.args.patterns.now) (g.P.Patterns.refusals c.fix_once.new.patterns)) (c.fix_once.ensures.refused (λ k. over_not_memory _ _ _ _ c.in-Err-OverLimit.is c.in-Err-OverLimit.field-0-is k)) (g.P.Patterns.asked c.args.patterns.now) (g.P.Patterns.asked c.fix_once.new.patterns) (c.fix_once.ensures.settled (λ k. over_not_memory _ _ _ _ c.in-Err-OverLimit.is c.in-Err-OverLimit.field-0-is k)))).takes.prints)

pub returns-in-Err-OverLimit-clause-work : goal.returns-in-Err-OverLimit-clause-work
returns-in-Err-OverLimit-clause-work g c a =
    let e = c.fix_once.ensures.over _ _ (c.in-Err-OverLimit.is ∙ ap (λ f. Err f) c.in-Err-OverLimit.field-0-is) in rw c.in-Err-OverLimit.field-0-is ((over_after (λ r. readings_of (g.R.TreeReader.spells r) (g.R.TreeReader.knows r) (g.R.CommentReader.comments r) (g.R.PatternReader.writes r) c.args.job.now.trace) c.args.rules.now.reader c.take_folder.new.rules.reader c.in-Ok.ensures.same_reader (g.T.Tree.files c.args.tree.now) (g.T.Tree.files c.take_folder.new.tree) c.in-Ok.ensures.kept (task_of c.args.job.now) (record { files = c.args.files.now; rules = c.args.rules.now.files; decided = c.args.decided.now; most = c.args.job.now.most }) (record { files = c.take_folder.new.files; rules = c.take_folder.new.rules.files; decided = c.args.decided.now; most = c.args.job.now.most }) (record { files = c.requires.files; rules = c.requires.rules; refused = ap (λ d. d.refused) c.requires.decided; built = ap (λ d. d.built) c.requires.decided }) c.in-Ok.ensures.takes refl refl c.fix_once.new.decided (gained (g.P.Patterns.refusals c.args.patterns.now) (g.P.Patterns.refusals c.fix_once.new.patterns)) (c.fix_once.ensures.refused (λ k. over_not_memory _ _ _ _ c.in-Err-OverLimit.is c.in-Err-OverLimit.field-0-is k)) _ _ e (g.K.Sink.written c.args.out.now) c.args.steps.now c.fix_once.new.steps (g.P.Patterns.asked c.args.patterns.now) (g.P.Patterns.asked c.fix_once.new.patterns)
    (scans_once (λ r. readings_of (g.R.TreeReader.spells r) (g.R.TreeReader.knows r) (g.R.CommentReader.comments r) (g.R.PatternReader.writes r) c.args.job.now.trace) c.args.rules.now.reader c.take_folder.new.rules.reader c.in-Ok.ensures.same_reader (g.T.Tree.files c.args.tree.now) (g.T.Tree.files c.take_folder.new.tree) c.in-Ok.ensures.kept (task_of c.args.job.now) (record { files = c.args.files.now; rules = c.args.rules.now.files; decided = c.args.decided.now; most = c.args.job.now.most }) (record { files = c.take_folder.new.files; rules = c.take_folder.new.rules.files; decided = c.args.decided.now; most = c.args.job.now.most }) (record { files = c.requires.files; rules = c.requires.rules; refused = ap (λ d. d.refused) c.requires.decided; built = ap (λ d. d.built) c.requires.decided }) c.in-Ok.ensures.takes refl refl c.fix_once.new.decided (gained (g.P.Patterns.refusals c.args.patterns.now) (g.P.Patterns.refusals c.fix_once.new.patterns)) (c.fix_once.ensures.refused (λ k. over_not_memory _ _ _ _ c.in-Err-OverLimit.is c.in-Err-OverLimit.field-0-is k)) c.args.steps.now c.fix_once.new.steps (c.fix_once.ensures.work (λ k. over_not_memory _ _ _ _ c.in-Err-OverLimit.is c.in-Err-OverLimit.field-0-is k)))
    (texts_once (λ r. readings_of (g.R.TreeReader.spells r) (g.R.TreeReader.knows r) (g.R.CommentReader.comments r) (g.R.PatternReader.writes r) c.args.job.now.trace) c.args.rules.now.reader c.take_folder.new.rules.reader c.in-Ok.ensures.same_reader (g.T.Tree.files c.args.tree.now) (g.T.Tree.files c.take_folder.new.tree) c.in-Ok.ensures.kept (task_of c.args.job.now) (record { files = c.args.files.now; rules = c.args.rules.now.files; decided = c.args.decided.now; most = c.args.job.now.most }) (record { files = c.take_folder.new.files; rules = c.take_folder.new.rules.files; decided = c.args.decided.now; most = c.args.job.now.most }) (record { files = c.requires.files; rules = c.requires.rules; refused = ap (λ d. d.refused) c.requires.decided; built = ap (λ d. d.built) c.requires.decided }) c.in-Ok.ensures.takes refl refl c.fix_once.new.decided (gained (g.P.Patterns.refusals c.args.patterns.now) (g.P.Patterns.refusals c.fix_once.new.patterns)) (c.fix_once.ensures.refused (λ k. over_not_memory _ _ _ _ c.in-Err-OverLimit.is c.in-Err-OverLimit.field-0-is k)) (g.P.Patterns.asked c.args.patterns.now) (g.P.Patterns.asked c.fix_once.new.patterns) (c.fix_once.ensures.settled (λ k. over_not_memory _ _ _ _ c.in-Err-OverLimit.is c.in-Err-OverLimit.field-0-is k)))).takes)

pub returns-in-Err-OverLimit-clause-asked : goal.returns-in-Err-OverLimit-clause-asked
returns-in-Err-OverLimit-clause-asked g c a =
    let e = c.fix_once.ensures.over _ _ (c.in-Err-OverLimit.is ∙ ap (λ f. Err f) c.in-Err-OverLimit.field-0-is) in rw c.in-Err-OverLimit.field-0-is (asking _ _ _ _ _ _ _ _ _ (over_after (λ r. readings_of (g.R.TreeReader.spells r) (g.R.TreeReader.knows r) (g.R.CommentReader.comments r) (g.R.PatternReader.writes r) c.args.job.now.trace) c.args.rules.now.reader c.take_folder.new.rules.reader c.in-Ok.ensures.same_reader (g.T.Tree.files c.args.tree.now) (g.T.Tree.files c.take_folder.new.tree) c.in-Ok.ensures.kept (task_of c.args.job.now) (record { files = c.args.files.now; rules = c.args.rules.now.files; decided = c.args.decided.now; most = c.args.job.now.most }) (record { files = c.take_folder.new.files; rules = c.take_folder.new.rules.files; decided = c.args.decided.now; most = c.args.job.now.most }) (record { files = c.requires.files; rules = c.requires.rules; refused = ap (λ d. d.refused) c.requires.decided; built = ap (λ d. d.built) c.requires.decided }) c.in-Ok.ensures.takes refl refl c.fix_once.new.decided (gained (g.P.Patterns.refusals c.args.patterns.now) (g.P.Patterns.refusals c.fix_once.new.patterns)) (c.fix_once.ensures.refused (λ k. over_not_memory _ _ _ _ c.in-Err-OverLimit.is c.in-Err-OverLimit.field-0-is k)) _ _ e (g.K.Sink.written c.args.out.now) c.args.steps.now c.fix_once.new.steps (g.P.Patterns.asked c.args.patterns.now) (g.P.Patterns.asked c.fix_once.new.patterns)
    (scans_once (λ r. readings_of (g.R.TreeReader.spells r) (g.R.TreeReader.knows r) (g.R.CommentReader.comments r) (g.R.PatternReader.writes r) c.args.job.now.trace) c.args.rules.now.reader c.take_folder.new.rules.reader c.in-Ok.ensures.same_reader (g.T.Tree.files c.args.tree.now) (g.T.Tree.files c.take_folder.new.tree) c.in-Ok.ensures.kept (task_of c.args.job.now) (record { files = c.args.files.now; rules = c.args.rules.now.files; decided = c.args.decided.now; most = c.args.job.now.most }) (record { files = c.take_folder.new.files; rules = c.take_folder.new.rules.files; decided = c.args.decided.now; most = c.args.job.now.most }) (record { files = c.requires.files; rules = c.requires.rules; refused = ap (λ d. d.refused) c.requires.decided; built = ap (λ d. d.built) c.requires.decided }) c.in-Ok.ensures.takes refl refl c.fix_once.new.decided (gained (g.P.Patterns.refusals c.args.patterns.now) (g.P.Patterns.refusals c.fix_once.new.patterns)) (c.fix_once.ensures.refused (λ k. over_not_memory _ _ _ _ c.in-Err-OverLimit.is c.in-Err-OverLimit.field-0-is k)) c.args.steps.now c.fix_once.new.steps (c.fix_once.ensures.work (λ k. over_not_memory _ _ _ _ c.in-Err-OverLimit.is c.in-Err-OverLimit.field-0-is k)))
    (texts_once (λ r. readings_of (g.R.TreeReader.spells r) (g.R.TreeReader.knows r) (g.R.CommentReader.comments r) (g.R.PatternReader.writes r) c.args.job.now.trace) c.args.rules.now.reader c.take_folder.new.rules.reader c.in-Ok.ensures.same_reader (g.T.Tree.files c.args.tree.now) (g.T.Tree.files c.take_folder.new.tree) c.in-Ok.ensures.kept (task_of c.args.job.now) (record { files = c.args.files.now; rules = c.args.rules.now.files; decided = c.args.decided.now; most = c.args.job.now.most }) (record { files = c.take_folder.new.files; rules = c.take_folder.new.rules.files; decided = c.args.decided.now; most = c.args.job.now.most }) (record { files = c.requires.files; rules = c.requires.rules; refused = ap (λ d. d.refused) c.requires.decided; built = ap (λ d. d.built) c.requires.decided }) c.in-Ok.ensures.takes refl refl c.fix_once.new.decided (gained (g.P.Patterns.refusals c.args.patterns.now) (g.P.Patterns.refusals c.fix_once.new.patterns)) (c.fix_once.ensures.refused (λ k. over_not_memory _ _ _ _ c.in-Err-OverLimit.is c.in-Err-OverLimit.field-0-is k)) (g.P.Patterns.asked c.args.patterns.now) (g.P.Patterns.asked c.fix_once.new.patterns) (c.fix_once.ensures.settled (λ k. over_not_memory _ _ _ _ c.in-Err-OverLimit.is c.in-Err-OverLimit.field-0-is k)))))

pub returns-in-Err-OverLimit-clause-wrote : goal.returns-in-Err-OverLimit-clause-wrote
returns-in-Err-OverLimit-clause-wrote g c a =
    let e = c.fix_once.ensures.over _ _ (c.in-Err-OverLimit.is ∙ ap (λ f. Err f) c.in-Err-OverLimit.field-0-is) in rw c.in-Err-OverLimit.field-0-is (over_wrote (λ r. readings_of (g.R.TreeReader.spells r) (g.R.TreeReader.knows r) (g.R.CommentReader.comments r) (g.R.PatternReader.writes r) c.args.job.now.trace) c.args.rules.now.reader c.take_folder.new.rules.reader c.in-Ok.ensures.same_reader (g.T.Tree.files c.args.tree.now) (g.T.Tree.files c.take_folder.new.tree) c.in-Ok.ensures.kept (task_of c.args.job.now) (record { files = c.args.files.now; rules = c.args.rules.now.files; decided = c.args.decided.now; most = c.args.job.now.most }) (record { files = c.take_folder.new.files; rules = c.take_folder.new.rules.files; decided = c.args.decided.now; most = c.args.job.now.most }) (record { files = c.requires.files; rules = c.requires.rules; refused = ap (λ d. d.refused) c.requires.decided; built = ap (λ d. d.built) c.requires.decided }) c.in-Ok.ensures.takes refl refl c.fix_once.new.decided (gained (g.P.Patterns.refusals c.args.patterns.now) (g.P.Patterns.refusals c.fix_once.new.patterns)) (c.fix_once.ensures.refused (λ k. over_not_memory _ _ _ _ c.in-Err-OverLimit.is c.in-Err-OverLimit.field-0-is k)) _ _ e)

pub returns-in-Err-clause-only : goal.returns-in-Err-clause-only
returns-in-Err-clause-only g c a told =
    only_none (setting (let r = c.args.rules.now.reader in readings_of (g.R.TreeReader.spells r) (g.R.TreeReader.knows r) (g.R.CommentReader.comments r) (g.R.PatternReader.writes r) c.args.job.now.trace) (g.T.Tree.files c.args.tree.now) c.args.job.now.most _) told (task_of c.args.job.now) (c.in-Err.ensures.once told a) (g.K.Sink.written c.args.out.now) c.in-Err.status (c.in-Err.ensures.none a)

pub returns-in-Ok-fix_once-clause-only : goal.returns-in-Ok-fix_once-clause-only
returns-in-Ok-fix_once-clause-only g c a told =
    let rules = c.in-Ok.ensures.once told tt in
    only_fix (setting (let r = c.args.rules.now.reader in readings_of (g.R.TreeReader.spells r) (g.R.TreeReader.knows r) (g.R.CommentReader.comments r) (g.R.PatternReader.writes r) c.args.job.now.trace) (g.T.Tree.files c.args.tree.now) c.args.job.now.most (gained (g.P.Patterns.refusals c.args.patterns.now) (g.P.Patterns.refusals c.fix_once.new.patterns))) told (task_of c.args.job.now) rules (one_taken (setting (let r = c.args.rules.now.reader in readings_of (g.R.TreeReader.spells r) (g.R.TreeReader.knows r) (g.R.CommentReader.comments r) (g.R.PatternReader.writes r) c.args.job.now.trace) (g.T.Tree.files c.args.tree.now) c.args.job.now.most (gained (g.P.Patterns.refusals c.args.patterns.now) (g.P.Patterns.refusals c.fix_once.new.patterns))) told (task_of c.args.job.now) rules (record { files = c.take_folder.new.files; rules = c.take_folder.new.rules.files }) c.in-Ok.ensures.takes (rw c.in-Ok.ensures.same_reader at c.fix_once.ensures.one)) _ _ _
    (returns-in-Ok-fix_once-clause-ends g c a)

pub returns-in-Err-TooMany-clause-only : goal.returns-in-Err-TooMany-clause-only
returns-in-Err-TooMany-clause-only g c a told =
    let rules = c.in-Ok.ensures.once told tt in
    only_fix (setting (let r = c.args.rules.now.reader in readings_of (g.R.TreeReader.spells r) (g.R.TreeReader.knows r) (g.R.CommentReader.comments r) (g.R.PatternReader.writes r) c.args.job.now.trace) (g.T.Tree.files c.args.tree.now) c.args.job.now.most (gained (g.P.Patterns.refusals c.args.patterns.now) (g.P.Patterns.refusals c.fix_once.new.patterns))) told (task_of c.args.job.now) rules (one_taken (setting (let r = c.args.rules.now.reader in readings_of (g.R.TreeReader.spells r) (g.R.TreeReader.knows r) (g.R.CommentReader.comments r) (g.R.PatternReader.writes r) c.args.job.now.trace) (g.T.Tree.files c.args.tree.now) c.args.job.now.most (gained (g.P.Patterns.refusals c.args.patterns.now) (g.P.Patterns.refusals c.fix_once.new.patterns))) told (task_of c.args.job.now) rules (record { files = c.take_folder.new.files; rules = c.take_folder.new.rules.files }) c.in-Ok.ensures.takes (rw c.in-Ok.ensures.same_reader at c.fix_once.ensures.one)) _ _ _
    (returns-in-Err-TooMany-clause-ends g c a)

pub returns-in-Err-OverLimit-clause-only : goal.returns-in-Err-OverLimit-clause-only
returns-in-Err-OverLimit-clause-only g c a told =
    let rules = c.in-Ok.ensures.once told tt in
    only_fix (setting (let r = c.args.rules.now.reader in readings_of (g.R.TreeReader.spells r) (g.R.TreeReader.knows r) (g.R.CommentReader.comments r) (g.R.PatternReader.writes r) c.args.job.now.trace) (g.T.Tree.files c.args.tree.now) c.args.job.now.most (gained (g.P.Patterns.refusals c.args.patterns.now) (g.P.Patterns.refusals c.fix_once.new.patterns))) told (task_of c.args.job.now) rules (one_taken (setting (let r = c.args.rules.now.reader in readings_of (g.R.TreeReader.spells r) (g.R.TreeReader.knows r) (g.R.CommentReader.comments r) (g.R.PatternReader.writes r) c.args.job.now.trace) (g.T.Tree.files c.args.tree.now) c.args.job.now.most (gained (g.P.Patterns.refusals c.args.patterns.now) (g.P.Patterns.refusals c.fix_once.new.patterns))) told (task_of c.args.job.now) rules (record { files = c.take_folder.new.files; rules = c.take_folder.new.rules.files }) c.in-Ok.ensures.takes (rw c.in-Ok.ensures.same_reader at c.fix_once.ensures.one)) _ _ _
    (returns-in-Err-OverLimit-clause-ends g c a)
