use Rattle.rule_map.specs.RuleMap.{PutRuleEnds}
use Rattle.session.proofs.Reports.{within, over}
use Rattle.session.proofs.session.SessionWorkspace.put_rules.Goals as goal

pub returns-clause-within : goal.returns-clause-within
returns-clause-within g c = within (PutRuleEnds (g.R.PatternReader.writes c.args.self.now.scans.rules.reader) c.args.self.now.scans.rules.files (c.args.name.now, c.args.bytes.now)) c.put_rules.result c.put_rules.ensures.ends

pub returns-clause-over : goal.returns-clause-over
returns-clause-over g c = over (PutRuleEnds (g.R.PatternReader.writes c.args.self.now.scans.rules.reader) c.args.self.now.scans.rules.files (c.args.name.now, c.args.bytes.now)) c.put_rules.result c.put_rules.ensures.ends
