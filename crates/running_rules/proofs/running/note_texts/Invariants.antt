use Rattle.std.proofs.Common.{◌≡◌, ◌++◌, drop}
use Rattle.std.specs.List.{flat_map}
use Rattle.decided_texts.specs.Decided.{AreDecided}
use Rattle.running_rules.specs.Running.{refused_notices}
use Rattle.running_rules.proofs.running.note_texts.Given as goal

abbrev pub invariant-loop-text : goal.invariant-loop-text
invariant-loop-text l =
    AreDecided l.decided l.texts
    → l.notices.items ++ flat_map (refused_notices l.decided.refused l.file l.id) (drop l.text-index l.texts) ≡ l.fn.notices.items ++ flat_map (refused_notices l.decided.refused l.file l.id) l.texts
