use Rattle.std.proofs.Common.{◌⊎◌, ◌↔◌, ℕ, drop}
use Rattle.node_match.specs.Free.{parts_of}
use Rattle.node_match.specs.Sets.{Among}
use Rattle.file_match.specs.Words.{PartNeeds, PlaceIn}
use Rattle.file_match.proofs.Gathered.{Need}
use Rattle.file_match.proofs.words.+wanted.Given as goal

abbrev pub invariant-add_parts-loop-at : goal.invariant-add_parts-loop-at
invariant-add_parts-loop-at l = (i : ℕ) → (Among l.places i ⊎ PlaceIn (Need l.fixed (drop l.at (parts_of l.pattern))) i) ↔ (Among l.initial.places i ⊎ PlaceIn (PartNeeds l.fixed l.pattern) i)
