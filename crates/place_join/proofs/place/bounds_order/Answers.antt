use Rattle.std.proofs.Common.{sym, ◌∙◌, arith}
use Rattle.meta_bind.specs.Bounds.{seen, place_cmp}
use Rattle.meta_bind.proofs.Places.{at_end}
use Rattle.place_join.proofs.place.bounds_order.Goals as goal

pub returns-then-a-b : goal.returns-then-a-b
returns-then-a-b c = sym (c.loop-i.invariant ∙ at_end place_cmp seen c.args.a.now c.args.b.now c.loop-i.i (omega arith) (omega arith))
