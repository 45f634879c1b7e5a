use Rattle.std.proofs.Common.{reverse, length, ap, arith}
use Rattle.yaml_read.proofs.Readings.{left_over}
use Rattle.yaml_read.proofs.read.built.Goals as goal

pub returns : goal.returns
returns c = left_over (reverse c.args.cells) c.node.new.cells c.in_ok-value.value c.in_ok-value.ensures (λ e. let l = ap length e in omega arith)
