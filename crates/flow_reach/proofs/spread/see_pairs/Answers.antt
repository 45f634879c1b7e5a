use Rattle.std.proofs.Common.{arith, refl, get_or, ◌+◌, ◌*◌}
use Rattle.graph_form.proofs.Amongs.{among_at, among_more}
use Rattle.flow_reach.proofs.Grow.{grows_then}
use Rattle.flow_reach.proofs.Steps.{pairs_more}
use Rattle.flow_reach.proofs.spread.see_pairs.Goals as goal

pub overflow_mul-pair : goal.overflow_mul-pair
overflow_mul-pair c =
    let pair = get_or c.args.pairs.now c.loop-pair.pair-index (0, 0) in
    let there = c.requires.room (pair.0 * c.args.stride + pair.1) (pair, among_at c.args.pairs.now c.loop-pair.pair-index (0, 0) c.loop-pair-test.true, refl) in
    omega (arith, there, c.requires.shaped.small)

pub overflow_add-pair : goal.overflow_add-pair
overflow_add-pair c =
    let pair = get_or c.args.pairs.now c.loop-pair.pair-index (0, 0) in
    let there = c.requires.room (pair.0 * c.args.stride + pair.1) (pair, among_at c.args.pairs.now c.loop-pair.pair-index (0, 0) c.loop-pair-test.true, refl) in
    omega (arith, there, c.requires.shaped.small)

pub see_one-requires-clause-room : goal.see_one-requires-clause-room
see_one-requires-clause-room c =
    let pair = get_or c.args.pairs.now c.loop-pair.pair-index (0, 0) in
    let there = c.requires.room (pair.0 * c.args.stride + pair.1) (pair, among_at c.args.pairs.now c.loop-pair.pair-index (0, 0) c.loop-pair-test.true, refl) in
    omega (arith, there, c.loop-pair.invariant.room)

pub loop-pair-preserved : goal.loop-pair-preserved
loop-pair-preserved c =
    grows_then _ _ _ _ _ _ c.loop-pair.invariant c.in_ok-see_one.ensures (λ k. pairs_more c.args.stride _ _ (get_or c.args.pairs.now c.loop-pair.pair-index (0, 0)) k (among_more c.args.pairs.now c.loop-pair.pair-index (0, 0) c.loop-pair-test.true))
