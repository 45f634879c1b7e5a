use Rattle.std.proofs.Common.{◌∙◌, ap, ℕ, List, ◌++◌, arith}
use Rattle.tree_code.proofs.Numbers.{tiny_written, small_written, large_written}
use Rattle.tree_code.proofs.written.add_number.Goals as goal

pub returns-then-number-lt192 : goal.returns-then-number-lt192
returns-then-number-lt192 c =
    c.in_ok-push.ensures.items ∙ ap (λ (v : List ℕ). c.args.bytes.now.items ++ v) (tiny_written c.args.number c.to_le_bytes.result c.to_le_bytes.ensures (omega arith))

pub returns-then-number-lt16128 : goal.returns-then-number-lt16128
returns-then-number-lt16128 c =
    c.in_ok-extend_from_slice.ensures.items ∙ ap (λ (v : List ℕ). c.args.bytes.now.items ++ v) (small_written c.args.number c.to_le_bytes.result c.to_le_bytes.ensures (omega arith) (omega arith))

pub returns : goal.returns
returns c =
    c.in_ok-extend_from_slice-2.ensures.items ∙ ap (λ (v : List ℕ). c.args.bytes.now.items ++ v) (large_written c.args.number c.to_le_bytes.result c.to_le_bytes.ensures (omega arith) c.ranges.number.fits)
