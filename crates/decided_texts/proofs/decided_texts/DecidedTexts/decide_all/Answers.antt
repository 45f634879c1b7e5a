use Rattle.std.proofs.Common.{take, ◌+◌, ◌++◌, ◌∷◌, []}
use Rattle.node_match.proofs.Sets.{among_at}
use Rattle.decided_texts.proofs.Growing.{one_decides, goes_on, far_none, far_on, far_as, one_within, one_decided, text_on}
use Rattle.decided_texts.proofs.Asking.{settles_none, settles_as, settles_then}
use Rattle.decided_texts.proofs.decided_texts.DecidedTexts.decide_all.Goals as goal

pub loop-text-preserved : goal.loop-text-preserved
loop-text-preserved g c =
    let i = c.loop-text.text-index in
    let ts = c.args.texts.now in
    let t = c.text-item.result in
    let s = c.as_str.result.now in
    let old = c.loop-text.self in
    let new = c.decide.new.self in
    let before = g.P.Patterns.refusals c.loop-text.patterns in
    let after = g.P.Patterns.refusals c.decide.new.patterns in
    let asked = g.P.Patterns.asked c.args.patterns.now in
    let on = text_on ts i s t c.loop-text-test.true c.text-item.is c.as_str.ensures in (
      far_as ts _ _ c.args.self.now new (g.P.Patterns.refusals c.args.patterns.now) after on
          (far_on ts (take i ts) (s ∷ []) c.args.self.now old new (g.P.Patterns.refusals c.args.patterns.now) before after c.loop-text.invariant.0
          (one_decides s old new before after c.decide.ensures.grows c.decide.result c.decide.ensures.refused c.decide.ensures.built c.decide.ensures.same)
          c.in_ok-decide.ensures.refused (one_decided new s c.in_ok-decide.ensures.decided) (one_within ts s t c.as_str.ensures (among_at ts i t c.loop-text-test.true c.text-item.is))),
      settles_as (take i ts ++ s ∷ []) (take (i + 1) ts) c.args.self.now new asked (g.P.Patterns.asked c.decide.new.patterns) on
          (settles_then (take i ts) (s ∷ []) c.args.self.now old new asked (g.P.Patterns.asked c.loop-text.patterns) (g.P.Patterns.asked c.decide.new.patterns) c.loop-text.invariant.1 c.in_ok-decide.ensures.settled),
    )

pub returns-in_err-decide-clause-begun : goal.returns-in_err-decide-clause-begun
returns-in_err-decide-clause-begun g c =
    let i = c.loop-text.text-index in
    let ts = c.args.texts.now in
    let t = c.text-item.result in
    let s = c.as_str.result.now in
    let old = c.loop-text.self in
    let new = c.decide.new.self in
    let before = g.P.Patterns.refusals c.loop-text.patterns in
    let after = g.P.Patterns.refusals c.decide.new.patterns in
    goes_on ts c.args.self.now old new (g.P.Patterns.refusals c.args.patterns.now) before after c.loop-text.invariant.0.begun c.loop-text.invariant.0.takes (s ∷ [])
    (one_decides s old new before after c.decide.ensures.grows c.decide.result c.decide.ensures.refused c.decide.ensures.built c.decide.ensures.same)
    (one_within ts s t c.as_str.ensures (among_at ts i t c.loop-text-test.true c.text-item.is))

pub loop-text-init : goal.loop-text-init
loop-text-init g c = (far_none c.args.texts.now c.args.self.now (g.P.Patterns.refusals c.args.patterns.now), settles_none c.args.self.now (g.P.Patterns.asked c.args.patterns.now))
