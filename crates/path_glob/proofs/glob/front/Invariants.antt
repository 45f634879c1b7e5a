use Rattle.std.proofs.Common.{length}
use Rattle.path_glob.specs.Segments.{segments_left}
use Rattle.path_glob.specs.Glob.{StandsForSegments, Anything}
use Rattle.path_glob.proofs.Fitting.{Remains}
use Rattle.path_glob.proofs.glob.front.Given as goal

abbrev pub invariant-globs : goal.invariant-globs
invariant-globs l =
    Remains StandsForSegments Anything (segments_left l.initial.globs) (segments_left l.initial.left) (segments_left l.globs) (segments_left l.left)

abbrev pub decreases-globs : goal.decreases-globs
decreases-globs l = length (segments_left l.globs)
