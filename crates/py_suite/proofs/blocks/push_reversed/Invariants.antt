use Rattle.std.proofs.Common.{◌≡◌, ◌++◌, length}
use Rattle.std.specs.Prelude.{reverse}
use Rattle.py_suite.proofs.blocks.push_reversed.Given as goal

abbrev pub invariant-kids : goal.invariant-kids
invariant-kids l = l.front ++ reverse l.back ≡ l.initial.front ++ reverse l.initial.back

abbrev pub decreases-kids : goal.decreases-kids
decreases-kids l = length l.back
