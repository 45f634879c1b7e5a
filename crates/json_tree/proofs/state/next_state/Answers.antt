use Rattle.std.proofs.Common.{ap, ◌+◌, refl, ℕ}
use Rattle.std.specs.Prelude.{slice_index}
use Rattle.json_tree.specs.declared.table.TheConstants.{ROWS}
use Rattle.json_tree.specs.States.{next_state}
use Rattle.json_tree.proofs.Certificate.{sound_0}
use Rattle.json_tree.proofs.state.next_state.Goals as goal

pub returns-clause-value : goal.returns-clause-value
unfolding next_state
returns-clause-value c = ap (λ (k : ℕ). slice_index ROWS (c.args.state + k)) c.column.ensures.value

pub returns-clause-row : goal.returns-clause-row
returns-clause-row c = sound_0.whole.rows (c.args.state + c.column.result)
