use Rattle.std.proofs.Common.{length, ◌↔◌}
use Rattle.std.specs.Prelude.{Any}
use Rattle.path_glob.specs.Segments.{segments, segments_left}
use Rattle.path_glob.specs.Glob.{FitsSegment}
use Rattle.path_glob.proofs.glob.fits_some.Given as goal

abbrev pub invariant-segments : goal.invariant-segments
invariant-segments l = Any (FitsSegment l.glob) (segments l.path) ↔ Any (FitsSegment l.glob) (segments_left l.left)

abbrev pub decreases-segments : goal.decreases-segments
decreases-segments l = length (segments_left l.left)
