use Rattle.rule_entries.proofs.Finding.{written, unwritten}
use Rattle.rule_entries.proofs.found.leaf.Goals as goal

pub returns-in-Ok : goal.returns-in-Ok
returns-in-Ok g c =
    written (g.R.PatternReader.writes c.args.reader.now) c.args.setting c.args.text.now c.args.found.now c.in-Ok.pattern c.in-Ok.ensures.pattern c.in-Ok.ensures.only c.next_leaf.result c.next_leaf.new.found c.next_leaf.ensures

pub returns-in-Err : goal.returns-in-Err
returns-in-Err g c =
    unwritten (g.R.PatternReader.writes c.args.reader.now) c.args.setting c.args.text.now c.args.found.now c.in-Err.fault c.no_pattern.result _ c.in-Err.ensures.only c.no_pattern.ensures
