use Rattle.std.proofs.Common.{length, ◌↔◌}
use Rattle.std.specs.Prelude.{Any}
use Rattle.path_glob.specs.Segments.{segments, segments_left}
use Rattle.path_glob.specs.Path.{IsHidden}
use Rattle.path_glob.proofs.path.has_hidden.Given as goal

abbrev pub invariant-segments : goal.invariant-segments
invariant-segments l = Any IsHidden (segments l.path) ↔ Any IsHidden (segments_left l.left)

abbrev pub decreases-segments : goal.decreases-segments
decreases-segments l = length (segments_left l.left)
