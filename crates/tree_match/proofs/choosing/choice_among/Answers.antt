use Rattle.std.proofs.Common.{◌∙◌, refl, ap}
use Rattle.node_match.specs.Orders.{has_dots}
use Rattle.tree_match.proofs.choosing.choice_among.Goals as goal

pub returns : goal.returns
returns c = record { left = _; is = refl; pattern = refl; holder = refl; unnamed = refl; from = refl; among = refl; free = refl; named = refl; loose = c.has_dots.ensures ∙ ap has_dots c.as_slice.ensures }
