use Rattle.std.proofs.Common.{◌≡◌, take, drop}
use Rattle.std.specs.List.{list_any}
use Rattle.decided_texts.specs.Decided.{is_refused, AreDecided}
use Rattle.decided_texts.proofs.decided_texts.DecidedTexts.expressions.Given as goal

abbrev pub invariant-loop-text : goal.invariant-loop-text
invariant-loop-text l =
    AreDecided l.self l.texts
    → (list_any (is_refused l.self.refused) l.texts ≡ list_any (is_refused l.self.refused) (drop l.text-index l.texts)) × (l.expressions ≡ take l.text-index l.texts)
