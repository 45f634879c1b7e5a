use Rattle.std.proofs.Common.{◌↔◌, length, map, string_bytes}
use Rattle.wire_words.specs.Options.{AreOptions}
use Rattle.wire_words.proofs.options.are_options.Given as goal

abbrev pub invariant-options : goal.invariant-options
invariant-options l = AreOptions l.command (map string_bytes l.words) ↔ AreOptions l.command (map string_bytes l.left)

abbrev pub decreases-options : goal.decreases-options
decreases-options l = length l.left
