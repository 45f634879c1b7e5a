use Rattle.file_results.proofs.Followed.{same_finding}
use Rattle.file_results.proofs.tracing.is_same.Goals as goal

pub returns : goal.returns
returns c = same_finding c.eq.result c.order-order.result c.in_ok-of.field-0 c.in_ok-of-2.field-0 0 _ c.args.one.now c.args.other.now c.eq.ensures c.order-order.ensures c.in_ok-of.ensures c.in_ok-of-2.ensures
