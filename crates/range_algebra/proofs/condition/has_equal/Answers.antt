use Rattle.std.proofs.Common.{◌≡◌}
use Rattle.range_algebra.proofs.Halving.{rest_from, equal_from, rest_whole}
use Rattle.node_match.proofs.Sets.{chain}
use Rattle.range_algebra.proofs.condition.has_equal.Goals as goal

pub first_from-first-requires : goal.first_from-first-requires
first_from-first-requires c = record { ordered = c.requires.ordered }

pub begins_equal-requires : goal.begins_equal-requires
begins_equal-requires c = record { from = rest_from c.args.range c.args.members.now _ c.first_from-first.result (rest_whole c.args.members.now c.first_from-first.result) c.requires.ordered c.first_from-first.ensures }

pub returns : goal.returns
returns c = chain _ _ _ c.begins_equal.ensures (equal_from c.args.range c.args.trail.now c.args.members.now _ c.first_from-first.result (rest_whole c.args.members.now c.first_from-first.result) c.first_from-first.ensures)
