use Rattle.std.proofs.Common.{ℕ, ◌<◌, get_or}
use Rattle.node_tree.specs.Span.{LiesIn}
use Rattle.meta_bind.specs.declared.bound.Bound.{Bound}
use Rattle.store_file.proofs.placed.all_lie_in.Given as goal

abbrev pub invariant-loop-bound : goal.invariant-loop-bound
invariant-loop-bound l = (k : ℕ) (d : Bound) → k < l.bound-index → LiesIn l.text (get_or l.bounds k d).span
