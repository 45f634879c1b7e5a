use Rattle.std.proofs.Common.{◌≡◌}
use Rattle.c_expr.specs.Build.{nodes}
use Rattle.c_items.proofs.make.nodes_of.Given as goal

abbrev pub invariant-loop-part : goal.invariant-loop-part
invariant-loop-part l = record { kids : l.kids.items ≡ nodes l.yielded }
