use Rattle.std.proofs.Common.{ap, ℕ}
use Rattle.node_tree.specs.Numbers.{Numbered}
use Rattle.node_pool.proofs.Placing.{numbered_below, stands_within}
use Rattle.node_pool.proofs.spot.Spot.below.Goals as goal

pub spot_at-requires : goal.spot_at-requires
spot_at-requires c = stands_within _ _ _ _ c.args.self.stands c.requires

pub returns : goal.returns
returns c =
    let s = c.args.self in
    let r = c.spot_at.result in
    let f : ℕ → Numbered = λ k. record { at = k; node = r.node.now } in
    numbered_below s.pool.now.nodes s.at c.args.further s.node.now r.node.now _ s.stands c.requires c.spot_at.ensures.is (ap f c.spot_at.ensures.number)
