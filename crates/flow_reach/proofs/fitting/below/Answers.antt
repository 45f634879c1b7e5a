use Rattle.std.proofs.Common.{refl, arith, subst, inl, inr, List, ℕ, ◌≡◌, take}
use Rattle.std.proofs.lemmas.List.{take_all}
use Rattle.graph_form.proofs.Amongs.{among_at, among_more}
use Rattle.flow_reach.specs.Fitting.{AreBelow}
use Rattle.flow_reach.proofs.Steps.{not_true}
use Rattle.flow_reach.proofs.fitting.below.Goals as goal

pub returns-then-number-most : goal.returns-then-number-most
returns-then-number-most c = (λ t. absurd (not_true t), λ all. absurd (omega (arith, all _ (among_at c.args.numbers.now c.loop-number.number-index 0 c.loop-number-test.true), c.if-number-most.true)))

pub loop-number-preserved : goal.loop-number-preserved
loop-number-preserved c x among = elim ((among_more c.args.numbers.now c.loop-number.number-index 0 c.loop-number-test.true x).0 among) [
  | inl a ↦ c.loop-number.invariant x a
  | inr e ↦ omega (arith, e, c.if-number-most.false)
]

pub returns : goal.returns
returns c =
    let whole : take c.loop-number.number-index c.args.numbers.now ≡ c.args.numbers.now = take_all c.loop-number.number-index c.args.numbers.now c.loop-number-test.false in
    let P : List ℕ → Type 0 = λ xs. AreBelow xs c.args.most in
    (λ t. subst P whole c.loop-number.invariant, λ all. refl)
