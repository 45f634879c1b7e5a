use Rattle.std.proofs.Common.{sym}
use Rattle.taint_judge.proofs.Gathering.{no_finding, found_finding}
use Rattle.taint_judge.proofs.following.add_finding.Goals as goal

pub returns-in_default : goal.returns-in_default
returns-in_default c = no_finding c.args.sinks.now c.args.hit.now c.get.result c.args.findings.now c.get.ensures c.in_default.not-Some

pub returns : goal.returns
returns c = found_finding c.args.sinks.now c.args.hit.now c.in-Some.member.now (sym c.in-Some.ensures) c.in_ok-copy.field-0 c.in_ok-copy.ensures c.args.findings.now c.push.new.self c.push.result c.push.ensures.ok
