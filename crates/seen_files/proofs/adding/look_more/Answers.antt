use Rattle.kept_leaves.specs.Kept.{map_of}
use Rattle.seen_files.proofs.Added.{if_more_seen, if_more_meets}
use Rattle.seen_files.proofs.adding.look_more.Goals as goal

pub returns-clause-seen : goal.returns-clause-seen
returns-clause-seen g c before running more apart seen =
    if_more_seen (g.R.TreeReader.spells c.args.reader.now) (g.R.TreeReader.knows c.args.reader.now) (g.R.CommentReader.comments c.args.reader.now) c.args.traced before running c.args.added.now more apart
    c.args.was seen c.args.view.now c.requires.view c.requires.names c.args.path.now c.requires.path c.in_ok-results.results (c.in_ok-results.ensures.results (more.alone apart))
    c.new-notices.result.items c.look.new.notices.items c.new-notices.ensures.items c.in_ok-results.ensures.notices
    c.with_found.result c.with_found.ensures.file c.with_found.ensures.opened c.with_found.ensures.results c.with_found.ensures.notices

pub returns-clause-kept : goal.returns-clause-kept
returns-clause-kept g c before running more needed =
    if_more_meets before running c.args.added.now more c.args.was c.args.view.now c.requires.view c.args.path.now c.requires.path c.with_found.result c.with_found.ensures.file c.with_found.ensures.opened
    (map_of c.args.kept.now) (map_of c.keep_path.new.self) (map_of c.look.new.kept) c.args.steps.now c.look.new.steps needed c.keep_path.ensures c.in_ok-results.ensures.kept
