use Rattle.std.proofs.Common.{take, Some}
use Rattle.scan_world.specs.Trees.{IsListing}
use Rattle.scan_world.proofs.memory_tree.paths_under.Given as goal

abbrev pub invariant-loop-name : goal.invariant-loop-name
invariant-loop-name l = IsListing l.prefix (Some (take l.name-index l.files)) l.paths
