use Rattle.std.proofs.Common.{ℕ, rules, tests, eqb}
use Rattle.std.proofs.lemmas.Iterator.Consumers.{map_from_collect}
use Rattle.std.proofs.lemmas.Iterator.Splits.{YieldsList-from_slice_split}
use Rattle.yaml_cells.proofs.flow.split.Goals as goal

pub returns : goal.returns
returns c =
    let made = map_from_collect c.collect.result c.collect.ensures.ran (YieldsList-from_slice_split _ (λ (b : ℕ). eqb b 10) c.args.piece.now c.split.ensures.rest c.split.ensures.done c.split.ensures.closure (λ x r q k. search (rules, tests))) in
    rw c.in_ok-lines.was at made
