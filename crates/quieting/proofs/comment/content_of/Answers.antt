use Rattle.std.proofs.Common.{sym, ◌∙◌, lit<}
use Rattle.quieting.proofs.Gaps.{mark_cuts, block_star}
use Rattle.quieting.proofs.comment.content_of.Goals as goal

pub range_from-requires : goal.range_from-requires
range_from-requires c = λ h. mark_cuts c.args.comment.now c.as_bytes-bytes.result.now 0 35 c.utf8.comment c.as_bytes-bytes.ensures.value (sym c.byte_at.ensures ∙ c.if-byte_at-eq35.true) (lit< tt) (lit< tt)

pub range_from-requires-then-byte_at-eq47-2 : goal.range_from-requires-then-byte_at-eq47-2
range_from-requires-then-byte_at-eq47-2 c = λ h.
    mark_cuts c.args.comment.now c.as_bytes-bytes.result.now 1 47 c.utf8.comment c.as_bytes-bytes.ensures.value (sym c.byte_at-then-byte_at-eq47.ensures ∙ c.if-byte_at-eq47-2.true) (lit< tt) (lit< tt)

pub range-requires-clause-start_boundary : goal.range-requires-clause-start_boundary
range-requires-clause-start_boundary c = λ h.
    mark_cuts c.args.comment.now c.as_bytes-bytes.result.now 1 42 c.utf8.comment c.as_bytes-bytes.ensures.value (block_star c.as_bytes-bytes.result.now (sym c.is_block.ensures ∙ c.if-is_block.true)) (lit< tt) (lit< tt)
