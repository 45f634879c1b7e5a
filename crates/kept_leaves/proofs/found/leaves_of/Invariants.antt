use Rattle.std.proofs.Common.{map, take}
use Rattle.file_parts.specs.Leaves.{AreLeavesOf}
use Rattle.kept_leaves.specs.Found.{seen_found}
use Rattle.kept_leaves.proofs.found.leaves_of.Given as goal

abbrev pub invariant-loop-one : goal.invariant-loop-one
invariant-loop-one l = AreLeavesOf l.pattern (map seen_found (take l.one-index l.found)) l.all
