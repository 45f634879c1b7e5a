use Rattle.std.proofs.Common.{arith}
use Rattle.json_tree.proofs.Certificate.{sound_0}
use Rattle.json_tree.proofs.States.{in_ascii, beyond}
use Rattle.json_tree.proofs.state.column.Goals.{then-code-lt128, else-code-lt128}
use Rattle.json_tree.proofs.state.column.Goals as goal

pub returns-clause-value : goal.returns-clause-value
returns-clause-value c = elim c.if-code-lt128.branch [
  | then-code-lt128 w ↦ rw (w.symbol-is) (in_ascii c.args.c w.if-code-lt128.true)
  | else-code-lt128 w ↦ rw (w.symbol-is) (beyond c.args.c (omega (arith, w.if-code-lt128.false)))
]

pub returns-clause-few : goal.returns-clause-few
returns-clause-few c = sound_0.whole.columns c.if-code-lt128.symbol
