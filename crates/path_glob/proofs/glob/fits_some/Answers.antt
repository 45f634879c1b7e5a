use Rattle.std.proofs.Common.{arith}
use Rattle.path_glob.specs.Glob.{FitsSegment}
use Rattle.path_glob.proofs.Some.{some_further}
use Rattle.path_glob.proofs.glob.fits_some.Goals as goal

pub segments-preserved : goal.segments-preserved
segments-preserved c = some_further (FitsSegment c.args.glob.now) _ _ c.in-Some.segment.now _ c.segments.invariant c.in-Some.ensures (λ f. absurd (grind (arith, c.fits.ensures.1 f, c.if-fits.false)))
