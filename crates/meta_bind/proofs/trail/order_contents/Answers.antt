use Rattle.std.proofs.Common.{sym, ◌∙◌, arith}
use Rattle.meta_bind.specs.Bounds.{seen_held, contents_cmp}
use Rattle.meta_bind.proofs.Places.{at_end}
use Rattle.meta_bind.proofs.trail.order_contents.Goals as goal

pub returns-then-a-b : goal.returns-then-a-b
returns-then-a-b c = sym (c.loop-i.invariant ∙ at_end contents_cmp seen_held c.args.a.now c.args.b.now c.loop-i.i (omega arith) (omega arith))
