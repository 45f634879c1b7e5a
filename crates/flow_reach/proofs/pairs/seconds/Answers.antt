use Rattle.std.proofs.Common.{subst, sym, List, ℕ, ◌⊎◌, ◌↔◌, ◌≡◌, ◌%◌, inl, inr, arith, get_or}
use Rattle.graph_form.specs.Sets.{Among}
use Rattle.graph_form.proofs.Amongs.{among_push}
use Rattle.flow_reach.proofs.Steps.{more, as_right}
use Rattle.flow_reach.proofs.Sorted.{coded_none, coded_more, coded_all}
use Rattle.flow_reach.proofs.pairs.seconds.Goals as goal

pub loop-at-init : goal.loop-at-init
loop-at-init c = record {
  exact = λ after. (λ h. inl h, λ h. elim h [ inl a ↦ a | inr k ↦ absurd (coded_none c.args.pairs.now c.first_from-at.result c.args.first c.first_from-at.ensures.below after k) ]);
  above = c.first_from-at.ensures.above;
}

pub returns-then-pairs-at : goal.returns-then-pairs-at
returns-then-pairs-at c after = as_right _ _ _ _ (c.loop-at.invariant.exact after) (coded_all c.args.pairs.now c.loop-at.at c.args.first after c.requires.ascends c.loop-at.invariant.above (λ lt. c.if-pairs-at.true))

pub returns : goal.returns
returns c after = as_right _ _ _ _ (c.loop-at.invariant.exact after) (coded_all c.args.pairs.now c.loop-at.at c.args.first after c.requires.ascends c.loop-at.invariant.above (λ lt. absurd (omega (arith, lt, c.loop-at-test.false))))

pub loop-at-preserved : goal.loop-at-preserved
loop-at-preserved c = record {
  exact = λ after.
      let y = get_or c.args.pairs.now c.loop-at.at 0 % 4294967296 in
      let P : List ℕ → Type 0 = λ xs. Among xs after ↔ (Among c.loop-at.into.items after ⊎ (y ≡ after)) in
      more _ _ _ _ _ _ (subst P (sym c.in_ok-push.ensures.items) (among_push c.loop-at.into.items y after)) (c.loop-at.invariant.exact after) (coded_more c.args.pairs.now c.loop-at.at c.args.first after c.loop-at-test.true c.if-pairs-at.false);
  above = λ k ge lt. c.loop-at.invariant.above k (omega (arith, ge)) lt;
}
