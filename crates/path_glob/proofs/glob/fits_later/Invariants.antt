use Rattle.std.proofs.Common.{◌+◌, length, ◌↔◌}
use Rattle.path_glob.specs.Fitting.{FitsLater}
use Rattle.path_glob.specs.Segments.{segments_left}
use Rattle.path_glob.specs.Glob.{StandsForSegments, Anything}
use Rattle.path_glob.proofs.glob.fits_later.Given as goal

abbrev pub invariant-places : goal.invariant-places
invariant-places l =
    FitsLater StandsForSegments Anything (segments_left l.initial.globs) (segments_left l.initial.left)
    ↔ FitsLater StandsForSegments Anything (segments_left l.globs) (segments_left l.left)

abbrev pub decreases-places : goal.decreases-places
decreases-places l = length (segments_left l.globs) + length (segments_left l.left)
