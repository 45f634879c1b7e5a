use Rattle.std.proofs.Common.{take}
use Rattle.decided_texts.specs.Asking.{Settles}
use Rattle.decided_texts.proofs.Growing.{Far}
use Rattle.decided_texts.proofs.decided_texts.DecidedTexts.decide_all.Given as goal

abbrev pub invariant-loop-text : goal.invariant-loop-text
invariant-loop-text g l =
    let texts = take l.text-index l.texts in
    Far l.texts texts l.fn.self l.self (g.P.Patterns.refusals l.fn.patterns) (g.P.Patterns.refusals l.patterns) × Settles texts l.fn.self l.self (g.P.Patterns.asked l.fn.patterns) (g.P.Patterns.asked l.patterns)
