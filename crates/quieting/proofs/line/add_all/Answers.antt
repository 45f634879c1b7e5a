use Rattle.quieting.proofs.Keys.{none_added, all_of}
use Rattle.quieting.proofs.line.add_all.Goals as goal

pub returns : goal.returns
returns c = all_of c.args.quiet.now.line c.args.quiet.now.all c.args.lines.now c.insert.new.self c.if-not-quiet.false c.in_ok-insert.ensures.updates.0
