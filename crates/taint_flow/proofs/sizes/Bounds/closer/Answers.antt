use Rattle.std.proofs.Common.{arith}
use Rattle.taint_flow.proofs.NamesOnce.{names_once}
use Rattle.taint_flow.proofs.sizes.Bounds.closer.Goals as goal

pub returns : goal.returns
returns c = record { points = c.requires.points; names = λ unit. omega (arith, names_once c.args.root.now unit, c.in_ok-count_names.ensures) }
