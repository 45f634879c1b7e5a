use Rattle.std.proofs.Common.{◌≡◌, sym, ◌∙◌, arith}
use Rattle.range_algebra.proofs.Halving.{upper_half, lower_half}
use Rattle.range_algebra.proofs.condition.halved.Goals as goal

pub returns-then-is_before-clause-between : goal.returns-then-is_before-clause-between
returns-then-is_before-clause-between c =
    upper_half c.args.range c.args.members.now c.args.low c.args.high _ c.index-members-middle.result c.requires.ordered c.requires.between (omega arith) (let s = c.requires.some in omega arith) c.index-members-middle.is (let f = c.is_before.ensures.0 in f c.if-is_before.true)

pub returns-clause-between : goal.returns-clause-between
returns-clause-between c =
    lower_half c.args.range c.args.members.now c.args.low c.args.high _ c.index-members-middle.result c.requires.ordered c.requires.between (omega arith) (let s = c.requires.some in omega arith) c.index-members-middle.is
    (λ b. (let e = sym (c.is_before.ensures.1 b) ∙ c.if-is_before.false in cc))
