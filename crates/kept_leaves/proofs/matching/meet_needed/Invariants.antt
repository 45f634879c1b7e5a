use Rattle.std.proofs.Common.{◌≡◌, take}
use Rattle.file_parts.specs.Parts.{needed_of}
use Rattle.kept_leaves.specs.Found.{AreFound}
use Rattle.kept_leaves.specs.Growth.{Meets}
use Rattle.kept_leaves.specs.Opened.{open_map, pieces_in, StaysOpen, IsOpenLeaves}
use Rattle.kept_leaves.specs.Pairs.{IsOneOf}
use Rattle.kept_leaves.specs.Ready.{pairs_of}
use Rattle.kept_leaves.proofs.matching.meet_needed.Given as goal

abbrev pub invariant-loop-i : goal.invariant-loop-i
invariant-loop-i g l =
    IsOpenLeaves l.leaves
    × StaysOpen l.initial.leaves l.leaves
    × (l.parts ≡ l.initial.parts)
    × (l.pattern ≡ l.initial.pattern)
    × Meets (IsOneOf (pairs_of l.initial.leaves.store.path l.initial.pattern (take l.i l.initial.parts))) (open_map l.initial.leaves) l.initial.steps (open_map l.leaves) l.steps
    × AreFound l.initial.pattern (pieces_in l.initial.leaves) (needed_of l.initial.pattern (take l.i l.initial.parts)) l.found
