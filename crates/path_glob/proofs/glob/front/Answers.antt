use Rattle.std.proofs.Common.{rules}
use Rattle.path_glob.specs.Glob.{StandsForSegments, Anything}
use Rattle.path_glob.proofs.Fitting.{front_any, front_more}
use Rattle.path_glob.proofs.Signs.{globs_any, globs_one, segment_fits}
use Rattle.path_glob.proofs.glob.front.Goals as goal

pub returns-then-eq : goal.returns-then-eq
returns-then-eq c = front_any StandsForSegments Anything _ _ _ _ c.in-Some.glob.now _ c.in-Some.ensures (globs_any c.in-Some.glob.now (search rules)) c.globs.invariant

pub globs-preserved : goal.globs-preserved
globs-preserved c =
    front_more StandsForSegments Anything _ _ _ _ c.in-Some.glob.now _ c.in-Some-first_segment.segment.now _ c.in-Some.ensures c.in-Some-first_segment.ensures
    (globs_one c.in-Some.glob.now (search rules)) (segment_fits c.in-Some.glob.now c.in-Some-first_segment.segment.now (c.fits.ensures.0 c.if-not-fits.false)) c.globs.invariant
