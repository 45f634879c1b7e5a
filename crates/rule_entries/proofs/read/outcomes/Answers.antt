use Rattle.std.proofs.Common.{◌+◌, List, drop, sym, subst}
use Rattle.rule_entries.specs.declared.outcome.RuleOutcome.{RuleOutcome}
use Rattle.rule_entries.proofs.Outcomes.{SoFar, goes, found, only_found}
use Rattle.rule_entries.proofs.read.outcomes.Goals as goal

pub loop-place-preserved : goal.loop-place-preserved
loop-place-preserved g c =
    let writes = g.R.PatternReader.writes c.args.reader.now in
    let far = c.loop-place.invariant in
    let turn = goes writes c.args.items.now c.loop-place.taken c.loop-place.all c.loop-place.place far c.index-items-place.result c.loop-place-test.true c.index-items-place.is c.in_ok-outcome.outcome c.outcome.new.taken (c.in_ok-outcome.ensures far.ids far.tells) in
    subst (λ (os : List RuleOutcome). SoFar writes c.args.items.now c.outcome.new.taken os (c.loop-place.place + 1) (drop (c.loop-place.place + 1) c.args.items.now)) (sym c.in_ok-push.ensures.ok) turn

pub returns-clause-found : goal.returns-clause-found
returns-clause-found g c =
    let writes = g.R.PatternReader.writes c.args.reader.now in
    found writes c.args.items.now c.loop-place.taken c.loop-place.all c.loop-place.place c.loop-place.invariant c.loop-place-test.false

pub returns-clause-only : goal.returns-clause-only
returns-clause-only g c =
    let writes = g.R.PatternReader.writes c.args.reader.now in
    λ os are. only_found writes c.args.items.now c.loop-place.taken c.loop-place.all c.loop-place.place c.loop-place.invariant c.loop-place-test.false os are
