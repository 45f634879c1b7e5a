use Rattle.std.proofs.Common.{lit<}
use Rattle.quieting.proofs.Gaps.{mark_cuts}
use Rattle.quieting.proofs.quiet.said.Goals as goal

pub range_from-requires : goal.range_from-requires
range_from-requires c = λ h. mark_cuts c.args.rest.now c.as_bytes-bytes.result.now 0 58 c.utf8.rest c.as_bytes-bytes.ensures.value c.if-bytes-ne58.false (lit< tt) (lit< tt)
