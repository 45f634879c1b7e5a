use Rattle.std.proofs.Common.{subst, sym, List, ℕ, ◌↔◌, ◌≡◌, ◌+◌, take, get_or}
use Rattle.std.proofs.lemmas.List.{take_all}
use Rattle.std.proofs.lemmas.List.Sorted.{IsNonDecreasingBy-from_sort}
use Rattle.graph_form.specs.Sets.{Among}
use Rattle.flow_reach.specs.Adds.{Coded}
use Rattle.graph_form.proofs.Amongs.{among_more, same_items}
use Rattle.flow_reach.proofs.Steps.{pair_is, both_ways, either_way}
use Rattle.flow_reach.proofs.Sorted.{coded_push, coded_same}
use Rattle.flow_reach.proofs.pairs.sorted_pairs.Goals as goal

pub loop-pair-preserved : goal.loop-pair-preserved
loop-pair-preserved c f h =
    let pair = get_or c.args.pairs.now c.loop-pair.pair-index (0, 0) in
    let P : List ℕ → Type 0 = λ xs. Coded xs f h ↔ Among (take (c.loop-pair.pair-index + 1) c.args.pairs.now) (f, h) in
    let p = pair_is pair f h in
    subst P (sym c.in_ok-push.ensures.items) (either_way _ _ _ _ _ _ (coded_push c.loop-pair.sorted.items _ pair.0 pair.1 f h c.code.ensures) (c.loop-pair.invariant f h) (p.1, p.0) (among_more c.args.pairs.now c.loop-pair.pair-index (0, 0) c.loop-pair-test.true (f, h)))

pub returns-clause-same : goal.returns-clause-same
returns-clause-same c f h =
    let whole : take c.loop-pair.pair-index c.args.pairs.now ≡ c.args.pairs.now = take_all c.loop-pair.pair-index c.args.pairs.now c.loop-pair-test.false in
    let P : List (ℕ × ℕ) → Type 0 = λ xs. Coded c.loop-pair.sorted.items f h ↔ Among xs (f, h) in
    both_ways _ _ _ (coded_same _ _ f h (same_items _ _ c.in_ok-sort.ensures.permutation)) (subst P whole (c.loop-pair.invariant f h))

pub returns-clause-ascends : goal.returns-clause-ascends
returns-clause-ascends c i j le lt = IsNonDecreasingBy-from_sort (λ x. x) c.sort.new.self.items c.in_ok-sort.ensures.sorted i j 0 le lt
