use Rattle.std.proofs.Common.{◌≡◌}
use Rattle.c_expr.specs.Build.{settled_all, nodes, tallest}
use Rattle.c_expr.proofs.make.over.Given as goal

abbrev pub invariant-loop-part : goal.invariant-loop-part
invariant-loop-part l = record {
  kids : l.kids.items ≡ settled_all l.span.from (nodes l.yielded);
  depth : l.depth ≡ tallest l.yielded;
}
