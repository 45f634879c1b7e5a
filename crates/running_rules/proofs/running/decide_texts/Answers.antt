use Rattle.std.proofs.Common.{List, ◌+◌, ◌++◌, ap, map, take}
use Rattle.std.proofs.lemmas.List.{take_all}
use Rattle.node_match.proofs.Sets.{among_at}
use Rattle.decided_texts.proofs.Asking.{settles_none, settles_as, settles_then}
use Rattle.decided_texts.proofs.Growing.{goes_on, far_none, far_on, far_as}
use Rattle.running_rules.specs.declared.running.Entry.{Entry}
use Rattle.running_rules.specs.Running.{texts_of}
use Rattle.running_rules.specs.Taking.{said}
use Rattle.running_rules.proofs.Deciding.{rules_on, rule_within}
use Rattle.running_rules.proofs.running.decide_texts.Goals as goal

pub loop-entry-init : goal.loop-entry-init
loop-entry-init g c = (far_none (texts_of (map said c.args.entries.now)) c.args.decided.now (g.P.Patterns.refusals c.args.patterns.now), settles_none c.args.decided.now (g.P.Patterns.asked c.args.patterns.now))

pub loop-entry-preserved : goal.loop-entry-preserved
loop-entry-preserved g c =
    let i = c.loop-entry.entry-index in
    let es = c.args.entries.now in
    let e = c.entry-item.result in
    let all = texts_of (map said es) in
    let some = c.as_slice.result.now in
    let start = g.P.Patterns.refusals c.args.patterns.now in
    let before = g.P.Patterns.refusals c.loop-entry.patterns in
    let after = g.P.Patterns.refusals c.decide_all.new.patterns in
    let new = c.decide_all.new.self in
    let texts = texts_of (map said (take i es)) in
    let asked = g.P.Patterns.asked c.args.patterns.now in
    let asked_then = g.P.Patterns.asked c.decide_all.new.patterns in
    let on = rules_on es i e some c.loop-entry-test.true c.entry-item.is c.as_slice.ensures in (
      far_as all _ _ c.args.decided.now new start after on
          (far_on all texts some c.args.decided.now c.loop-entry.decided new start before after c.loop-entry.invariant.0 c.decide_all.ensures.begun c.in_ok-decide_all.ensures.refused c.in_ok-decide_all.ensures.decided
          (rule_within es e some c.as_slice.ensures (among_at es i e c.loop-entry-test.true c.entry-item.is))),
      settles_as (texts ++ some) (texts_of (map said (take (i + 1) es))) c.args.decided.now new asked asked_then on
          (settles_then texts some c.args.decided.now c.loop-entry.decided new asked (g.P.Patterns.asked c.loop-entry.patterns) asked_then c.loop-entry.invariant.1 c.in_ok-decide_all.ensures.settled),
    )

pub returns-in_err-decide_all-clause-begun : goal.returns-in_err-decide_all-clause-begun
returns-in_err-decide_all-clause-begun g c =
    let i = c.loop-entry.entry-index in
    let es = c.args.entries.now in
    let e = c.entry-item.result in
    let some = c.as_slice.result.now in
    goes_on (texts_of (map said es)) c.args.decided.now c.loop-entry.decided c.decide_all.new.self (g.P.Patterns.refusals c.args.patterns.now) (g.P.Patterns.refusals c.loop-entry.patterns) (g.P.Patterns.refusals c.decide_all.new.patterns)
    c.loop-entry.invariant.0.begun c.loop-entry.invariant.0.takes some c.decide_all.ensures.begun
    (rule_within es e some c.as_slice.ensures (among_at es i e c.loop-entry-test.true c.entry-item.is))

pub returns-clause-decided : goal.returns-clause-decided
returns-clause-decided g c =
    let i = c.loop-entry.entry-index in
    let es = c.args.entries.now in
    (far_as (texts_of (map said es)) _ _ c.args.decided.now c.loop-entry.decided (g.P.Patterns.refusals c.args.patterns.now) (g.P.Patterns.refusals c.loop-entry.patterns)
    (ap (λ (l : List Entry). texts_of (map said l)) (take_all i es c.loop-entry-test.false)) c.loop-entry.invariant.0).decided

pub returns-clause-settled : goal.returns-clause-settled
returns-clause-settled g c =
    let i = c.loop-entry.entry-index in
    let es = c.args.entries.now in
    settles_as (texts_of (map said (take i es))) (texts_of (map said es)) c.args.decided.now c.loop-entry.decided (g.P.Patterns.asked c.args.patterns.now) (g.P.Patterns.asked c.loop-entry.patterns)
    (ap (λ (l : List Entry). texts_of (map said l)) (take_all i es c.loop-entry-test.false)) c.loop-entry.invariant.1
