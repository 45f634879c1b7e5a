use Rattle.std.proofs.Common.{subst, sym, List, ℕ}
use Rattle.flow_reach.specs.Fitting.{AreBelow, ArePairsBelow}
use Rattle.flow_reach.proofs.Steps.{not_true}
use Rattle.flow_reach.proofs.fitting.speaks_of.Goals as goal

pub returns-then-not-below : goal.returns-then-not-below
returns-then-not-below c = (
  λ t. absurd (not_true t),
  λ speaks.
      let P : List ℕ → Type 0 = λ xs. AreBelow xs c.args.facts in
      let t = c.below.ensures.1 (subst P (sym c.as_slice.ensures) speaks.drops) in
      let f = c.if-not-below.true in
      absurd cc,
)

pub returns : goal.returns
returns c =
    let P : List ℕ → Type 0 = λ xs. AreBelow xs c.args.facts in
    let Q : List (ℕ × ℕ) → Type 0 = λ xs. ArePairsBelow xs c.args.facts c.args.facts in (
      λ t. record {
        drops = subst P c.as_slice.ensures (c.below.ensures.0 c.if-not-below.false);
        adds = subst Q c.as_slice-2.ensures (c.pairs_below.ensures.0 t);
      },
      λ speaks. c.pairs_below.ensures.1 (subst Q (sym c.as_slice-2.ensures) speaks.adds),
    )
