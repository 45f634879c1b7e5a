use Rattle.std.proofs.Common.{◌≡◌, length}
use Rattle.graph_form.specs.Sets.{Among}
use Rattle.flow_reach.specs.declared.moves.Move.{Move}
use Rattle.taint_flow.specs.Still.{IsStill}
use Rattle.taint_flow.proofs.still.still.Given as goal

abbrev pub invariant-loop : goal.invariant-loop
invariant-loop l = record { size : length l.rows ≡ l.counter; still : (row : Move) → Among l.rows row → IsStill row }
