use Rattle.std.proofs.Common.{refl, arith, ap, subst, inl, inr, List, ℕ, ◌≡◌, take}
use Rattle.std.proofs.lemmas.List.{take_all}
use Rattle.graph_form.proofs.Amongs.{among_at, among_more}
use Rattle.flow_reach.specs.Fitting.{ArePairsBelow}
use Rattle.flow_reach.proofs.Steps.{not_true}
use Rattle.flow_reach.proofs.fitting.pairs_below.Goals as goal

pub returns-then-pair-first : goal.returns-then-pair-first
returns-then-pair-first c = (λ t. absurd (not_true t), λ all. absurd (omega (arith, (all _ _ (among_at c.args.pairs.now c.loop-pair.pair-index (0, 0) c.loop-pair-test.true)).0, c.if-pair-first.true)))

pub returns-then-pair-second : goal.returns-then-pair-second
returns-then-pair-second c = (λ t. absurd (not_true t), λ all. absurd (omega (arith, (all _ _ (among_at c.args.pairs.now c.loop-pair.pair-index (0, 0) c.loop-pair-test.true)).1, c.if-pair-second.true)))

pub loop-pair-preserved : goal.loop-pair-preserved
loop-pair-preserved c x y among = elim ((among_more c.args.pairs.now c.loop-pair.pair-index (0, 0) c.loop-pair-test.true (x, y)).0 among) [
  | inl a ↦ c.loop-pair.invariant x y a
  | inr e ↦ (omega (arith, ap (λ p. p.0) e, c.if-pair-first.false), omega (arith, ap (λ p. p.1) e, c.if-pair-second.false))
]

pub returns : goal.returns
returns c =
    let whole : take c.loop-pair.pair-index c.args.pairs.now ≡ c.args.pairs.now = take_all c.loop-pair.pair-index c.args.pairs.now c.loop-pair-test.false in
    let P : List (ℕ × ℕ) → Type 0 = λ xs. ArePairsBelow xs c.args.first c.args.second in
    (λ t. subst P whole c.loop-pair.invariant, λ all. refl)
