use Rattle.std.proofs.Common.{length, ◌↔◌}
use Rattle.std.specs.Prelude.{All}
use Rattle.path_glob.specs.Segments.{segments, segments_left}
use Rattle.path_glob.specs.Path.{IsSegment}
use Rattle.path_glob.proofs.path.is_named.Given as goal

abbrev pub invariant-segments : goal.invariant-segments
invariant-segments l = All IsSegment (segments l.path) ↔ All IsSegment (segments_left l.left)

abbrev pub decreases-segments : goal.decreases-segments
decreases-segments l = length (segments_left l.left)
