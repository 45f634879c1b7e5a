use Rattle.std.proofs.Common.{length, map, string_bytes}
use Rattle.wire_words.proofs.Choices.{Looking}
use Rattle.wire_words.proofs.options.given.Given as goal

abbrev pub invariant-options : goal.invariant-options
invariant-options l = Looking l.command l.wanted (map string_bytes l.words) (map string_bytes l.left)

abbrev pub decreases-options : goal.decreases-options
decreases-options l = length l.left
