use Rattle.semscan.proofs.Paths.{put_under}
use Rattle.semscan.proofs.folder.add_path.Goals as goal

pub returns-clause-under : goal.returns-clause-under
returns-clause-under c = put_under c.args.paths.now c.push.new.self c.args.path.now c.in_ok-from_str.field-0 c.in_ok-from_str.ensures c.in_ok-push.ensures.ok c.args.prefix.now c.requires.under (c.is_under.ensures.0 c.if-not-is_under.false)
