use Rattle.std.proofs.Common.{◌≡◌, ◌-◌, ◌≤◌, length}
use Rattle.c_expr.specs.Build.{source}
use Rattle.c_items.specs.Settling.{curly_behind, most, defines}
use Rattle.c_items.proofs.functions.defines.Given as goal

abbrev pub invariant-loop-turn : goal.invariant-loop-turn
invariant-loop-turn l = record {
  within : l.end ≤ length l.tokens;
  turns : l.turn ≤ most;
  few : l.open ≤ l.end;
  same : defines (source l.fn.tokens).cls l.fn.at ≡ curly_behind (most - l.turn) (source l.fn.tokens).cls l.end l.open;
}
