use Rattle.std.proofs.Common.{◌≡◌, arith}
use Rattle.meta_bind.specs.Bounds.{seen_held}
use Rattle.range_algebra.proofs.Gathering.{adds_bound, adds_unbound, adds_empty}
use Rattle.range_algebra.proofs.all.add_at.Goals as goal

pub returns-in_default : goal.returns-in_default
returns-in_default c = adds_unbound c.args.name.now c.args.one.now _ c.in_default.ensures

pub returns-then-held : goal.returns-then-held
returns-then-held c = adds_empty c.args.name.now c.args.one.now (seen_held c.in-Some.held) _ c.in-Some.ensures c.if-held.true

pub returns : goal.returns
returns c = adds_bound c.args.name.now c.args.one.now (seen_held c.in-Some.held) c.in_ok-copy.field-0 _ _ c.in-Some.ensures (omega (arith, c.if-held.false)) c.in_ok-copy.ensures c.in_ok-push.ensures.items
