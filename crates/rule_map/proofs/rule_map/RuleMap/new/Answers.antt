use Rattle.rule_map.proofs.Keeping.{none_kept}
use Rattle.rule_map.proofs.rule_map.RuleMap.new.Goals as goal

pub invariant_of-result : goal.invariant_of-result
invariant_of-result g c = none_kept (g.R.PatternReader.writes c.args.reader.now) c.new.result.items c.new-2.result.items c.new.ensures.items c.new-2.ensures.items
