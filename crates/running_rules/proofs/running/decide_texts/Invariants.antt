use Rattle.std.proofs.Common.{map, take}
use Rattle.decided_texts.specs.Asking.{Settles}
use Rattle.decided_texts.proofs.Growing.{Far}
use Rattle.running_rules.specs.Running.{texts_of}
use Rattle.running_rules.specs.Taking.{said}
use Rattle.running_rules.proofs.running.decide_texts.Given as goal

abbrev pub invariant-loop-entry : goal.invariant-loop-entry
invariant-loop-entry g l =
    let texts = texts_of (map said (take l.entry-index l.entries)) in
    Far (texts_of (map said l.entries)) texts l.fn.decided l.decided (g.P.Patterns.refusals l.fn.patterns) (g.P.Patterns.refusals l.patterns)
    × Settles texts l.fn.decided l.decided (g.P.Patterns.asked l.fn.patterns) (g.P.Patterns.asked l.patterns)
