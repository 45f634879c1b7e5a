use Rattle.std.specs.Prelude.{None, Some}
use Rattle.stream_run.proofs.Settled.{told_once}
use Rattle.stream_run.specs.Reports.{readings_of}
use Rattle.folder_run.proofs.Taken.{none_read, no_rules, config_once, over_rules, over_files, taken}
use Rattle.folder_run.proofs.taking.take_folder.Goals as goal

pub returns-in-Err-clause-none : goal.returns-in-Err-clause-none
returns-in-Err-clause-none g c a = none_read (let r = c.args.rules.now.reader in readings_of (g.R.TreeReader.spells r) (g.R.TreeReader.knows r) (g.R.CommentReader.comments r) (g.R.PatternReader.writes r) c.args.job.now.trace) (g.T.Tree.files c.args.tree.now) c.args.job.now.config.now c.args.job.now.prefix.now c.in-Err.status (c.in-Err.ensures.absent a)

pub returns-in-Err-OverLimit-clause-none : goal.returns-in-Err-OverLimit-clause-none
returns-in-Err-OverLimit-clause-none g c a =
    over_rules (let r = c.args.rules.now.reader in readings_of (g.R.TreeReader.spells r) (g.R.TreeReader.knows r) (g.R.CommentReader.comments r) (g.R.PatternReader.writes r) c.args.job.now.trace) (g.T.Tree.files c.args.tree.now) c.args.job.now.config.now c.args.job.now.prefix.now c.args.rules.now.files c.requires.rules _ c.in-Ok.bytes c.as_slice.ensures c.in-Ok.ensures.read c.in-Err-OverLimit.field-0 c.in-Err-OverLimit.kind c.in-Err-OverLimit.count c.in-Err-OverLimit.field-0-is c.in-Err-OverLimit.ensures.ends

pub returns-in-Ok-sync-clause-takes : goal.returns-in-Ok-sync-clause-takes
returns-in-Ok-sync-clause-takes g c =
    taken (let r = c.args.rules.now.reader in readings_of (g.R.TreeReader.spells r) (g.R.TreeReader.knows r) (g.R.CommentReader.comments r) (g.R.PatternReader.writes r) c.args.job.now.trace) (g.T.Tree.files c.args.tree.now) c.args.job.now.config.now c.args.job.now.prefix.now c.args.rules.now.files c.requires.rules _ c.in-Ok.bytes c.as_slice.ensures c.in-Ok.ensures.read c.in-Ok-put.ensures.ends c.args.files.now c.requires.files (g.T.Tree.files c.read_config.new.tree) c.in-Ok.ensures.kept
    c.put.new.self.files c.sync.new.self c.in-Ok-put.ensures.put c.in-Ok-sync.ensures.synced c.in-Ok-sync.ensures.within

pub returns-clause-none : goal.returns-clause-none
returns-clause-none g c a =
    over_files (let r = c.args.rules.now.reader in readings_of (g.R.TreeReader.spells r) (g.R.TreeReader.knows r) (g.R.CommentReader.comments r) (g.R.PatternReader.writes r) c.args.job.now.trace) (g.T.Tree.files c.args.tree.now) c.args.job.now.config.now c.args.job.now.prefix.now c.args.rules.now.files c.requires.rules _ c.in-Ok.bytes c.as_slice.ensures c.in-Ok.ensures.read c.in-Ok-put.ensures.ends c.args.files.now c.requires.files (g.T.Tree.files c.read_config.new.tree) c.in-Ok.ensures.kept
    c.in-Err-OverLimit-sync.field-0 c.in-Err-OverLimit-sync.kind c.in-Err-OverLimit-sync.count c.in-Err-OverLimit-sync.field-0-is c.in-Err-OverLimit-sync.ensures.over

pub returns-in-Err-clause-once : goal.returns-in-Err-clause-once
returns-in-Err-clause-once g c some a = no_rules (let r = c.args.rules.now.reader in readings_of (g.R.TreeReader.spells r) (g.R.TreeReader.knows r) (g.R.CommentReader.comments r) (g.R.PatternReader.writes r) c.args.job.now.trace) (g.T.Tree.files c.args.tree.now) c.args.job.now.config.now c.args.job.now.prefix.now (c.in-Err.ensures.absent a).1 some

pub returns-in-Err-OverLimit-clause-once : goal.returns-in-Err-OverLimit-clause-once
returns-in-Err-OverLimit-clause-once g c some a =
    config_once (let r = c.args.rules.now.reader in readings_of (g.R.TreeReader.spells r) (g.R.TreeReader.knows r) (g.R.CommentReader.comments r) (g.R.PatternReader.writes r) c.args.job.now.trace) (g.T.Tree.files c.args.tree.now) c.args.job.now.config.now c.args.job.now.prefix.now c.args.rules.now.files c.requires.rules _ c.in-Ok.bytes c.as_slice.ensures c.in-Ok.ensures.read (told_once (let r = c.args.rules.now.reader in readings_of (g.R.TreeReader.spells r) (g.R.TreeReader.knows r) (g.R.CommentReader.comments r) (g.R.PatternReader.writes r) c.args.job.now.trace) c.args.rules.now.files (c.args.job.now.config.now, c.as_slice.result.now) (Some (c.in-Err-OverLimit.kind, c.in-Err-OverLimit.count)) (rw c.in-Err-OverLimit.field-0-is at c.in-Err-OverLimit.ensures.only)) some

pub returns-in-Ok-sync-clause-once : goal.returns-in-Ok-sync-clause-once
returns-in-Ok-sync-clause-once g c some a = config_once (let r = c.args.rules.now.reader in readings_of (g.R.TreeReader.spells r) (g.R.TreeReader.knows r) (g.R.CommentReader.comments r) (g.R.PatternReader.writes r) c.args.job.now.trace) (g.T.Tree.files c.args.tree.now) c.args.job.now.config.now c.args.job.now.prefix.now c.args.rules.now.files c.requires.rules _ c.in-Ok.bytes c.as_slice.ensures c.in-Ok.ensures.read (told_once (let r = c.args.rules.now.reader in readings_of (g.R.TreeReader.spells r) (g.R.TreeReader.knows r) (g.R.CommentReader.comments r) (g.R.PatternReader.writes r) c.args.job.now.trace) c.args.rules.now.files (c.args.job.now.config.now, c.as_slice.result.now) None c.in-Ok-put.ensures.only) some

pub returns-clause-once : goal.returns-clause-once
returns-clause-once g c some a = config_once (let r = c.args.rules.now.reader in readings_of (g.R.TreeReader.spells r) (g.R.TreeReader.knows r) (g.R.CommentReader.comments r) (g.R.PatternReader.writes r) c.args.job.now.trace) (g.T.Tree.files c.args.tree.now) c.args.job.now.config.now c.args.job.now.prefix.now c.args.rules.now.files c.requires.rules _ c.in-Ok.bytes c.as_slice.ensures c.in-Ok.ensures.read (told_once (let r = c.args.rules.now.reader in readings_of (g.R.TreeReader.spells r) (g.R.TreeReader.knows r) (g.R.CommentReader.comments r) (g.R.PatternReader.writes r) c.args.job.now.trace) c.args.rules.now.files (c.args.job.now.config.now, c.as_slice.result.now) None c.in-Ok-put.ensures.only) some
