use Rattle.path_glob.specs.Path.{IsSegment}
use Rattle.path_glob.proofs.Some.{all_further}
use Rattle.path_glob.proofs.path.is_named.Goals as goal

pub segments-preserved : goal.segments-preserved
segments-preserved c = all_further IsSegment _ _ c.in-Some.segment.now _ c.segments.invariant c.in-Some.ensures (c.is_segment.ensures.0 c.if-not-is_segment.false)
