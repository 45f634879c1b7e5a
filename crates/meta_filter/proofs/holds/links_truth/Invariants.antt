use Rattle.std.proofs.Common.{◌≡◌, ◌∷◌, drop, Some}
use Rattle.std.specs.Prelude.{◌&&◌}
use Rattle.grammar.specs.Reader.{◌>>=◌}
use Rattle.meta_filter.specs.Values.{values_of, links_truth, pairs_hold}
use Rattle.meta_filter.proofs.holds.links_truth.Given as goal

abbrev pub invariant-loop-i : goal.invariant-loop-i
invariant-loop-i l = links_truth l.binding l.bytes l.first l.others l.ops ≡ (values_of l.binding l.bytes (drop l.i l.others) >>= λ ns. Some (l.holds && pairs_hold (l.before ∷ ns) (drop l.i l.ops)))
