use Rattle.std.proofs.Common.{arith, refl, subst, ◌∙◌, List, ℕ, ◌≡◌, ◌↔◌, ◌+◌, ◌*◌, ◌/◌, get_or, take}
use Rattle.std.proofs.lemmas.List.{take_all}
use Rattle.graph_form.proofs.Amongs.{among_at, among_more}
use Rattle.flow_reach.specs.Bits.{Has}
use Rattle.flow_reach.specs.Spread.{AtPairs}
use Rattle.flow_reach.proofs.Steps.{pairs_more, either_way, one_number}
use Rattle.flow_reach.proofs.Words.{has_none}
use Rattle.flow_reach.proofs.Steps.{as_right}
use Rattle.flow_reach.proofs.Works.{put_set}
use Rattle.trace_path.proofs.goals.numbers.Goals as goal

pub overflow_mul-at : goal.overflow_mul-at
overflow_mul-at c =
    let pair = get_or c.args.pairs.now c.loop-pair.pair-index (0, 0) in
    omega (arith, c.requires.room (pair.0 * c.args.stride + pair.1) (pair, among_at c.args.pairs.now c.loop-pair.pair-index (0, 0) c.loop-pair-test.true, refl), c.requires.small)

pub overflow_add-at : goal.overflow_add-at
overflow_add-at c =
    let pair = get_or c.args.pairs.now c.loop-pair.pair-index (0, 0) in
    omega (arith, c.requires.room (pair.0 * c.args.stride + pair.1) (pair, among_at c.args.pairs.now c.loop-pair.pair-index (0, 0) c.loop-pair-test.true, refl), c.requires.small)

pub put-requires : goal.put-requires
put-requires c =
    let pair = get_or c.args.pairs.now c.loop-pair.pair-index (0, 0) in
    omega (arith, c.requires.room (pair.0 * c.args.stride + pair.1) (pair, among_at c.args.pairs.now c.loop-pair.pair-index (0, 0) c.loop-pair-test.true, refl), c.loop-pair.invariant.room)

pub loop-pair-init : goal.loop-pair-init
loop-pair-init c = record {
  room = c.in_ok-set.ensures.room;
  has = λ k. (λ h. absurd (has_none c.in_ok-set.set.items k (c.in_ok-set.ensures.none k) h), λ h. absurd h.1);
}

pub loop-pair-preserved : goal.loop-pair-preserved
loop-pair-preserved c =
    let i = c.loop-pair.invariant in
    let pair = get_or c.args.pairs.now c.loop-pair.pair-index (0, 0) in
    let at : ℕ = pair.0 * c.args.stride + pair.1 in
    record {
      room = c.put.ensures.room ∙ i.room;
      has = λ k.
          either_way _ _ _ _ _ _
          (as_right _ _ _ _ (put_set _ _ (at / 64) c.one.result c.put.ensures.there c.put.ensures.others k) (one_number at c.one.result k c.one.ensures))
          (i.has k)
          (λ h. h, λ h. h)
          (pairs_more c.args.stride _ _ pair k (among_more c.args.pairs.now c.loop-pair.pair-index (0, 0) c.loop-pair-test.true));
    }

pub returns-clause-has : goal.returns-clause-has
returns-clause-has c k =
    let whole : take c.loop-pair.pair-index c.args.pairs.now ≡ c.args.pairs.now = take_all c.loop-pair.pair-index c.args.pairs.now c.loop-pair-test.false in
    let P : List (ℕ × ℕ) → Type 0 = λ ps. Has c.loop-pair.set.items k ↔ AtPairs c.args.stride ps k in
    subst P whole (c.loop-pair.invariant.has k)
