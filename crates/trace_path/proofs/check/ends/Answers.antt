use Rattle.std.proofs.Common.{refl, subst, sym, ap, inl, inr, ℕ, get_or}
use Rattle.graph_form.specs.Sets.{Among}
use Rattle.graph_form.proofs.Amongs.{among_at, among_more}
use Rattle.trace_path.proofs.check.ends.Goals as goal
use Rattle.trace_path.proofs.check.ends.Goals.{else-goal-point-via-then-goal-point+else-among, else-goal-point-via-else-goal-point}

pub returns-then-among : goal.returns-then-among
returns-then-among c =
    let there = among_at c.args.goals.now c.loop-goal.goal-index (0, 0) c.loop-goal-test.true in
    let G : ℕ × ℕ → Type 0 = λ g. Among c.args.goals.now g in
    let fact = (get_or c.args.goals.now c.loop-goal.goal-index (0, 0)).1 in
    (λ t. (fact, subst G (λ i. (c.if-goal-point.true i, fact)) there, c.among.ensures.0 c.if-among.true), λ h. refl)

pub loop-goal-preserved : goal.loop-goal-preserved
loop-goal-preserved c (fact, among, there) =
    elim ((among_more c.args.goals.now c.loop-goal.goal-index (0, 0) c.loop-goal-test.true (c.args.point, fact)).0 among) [
      | inl a ↦ c.loop-goal.invariant (fact, a, there)
      | inr e ↦ elim c.else-goal-point.branch [
        | else-goal-point-via-then-goal-point+else-among w ↦
            let P : ℕ → Type 0 = λ f. Among c.args.facts.now f in
            let t = w.among.ensures.1 (subst P (sym (ap (λ p. p.1) e)) there) in
            let f = w.if-among.false in
            cc
        | else-goal-point-via-else-goal-point w ↦ w.if-goal-point.false (ap (λ p. p.0) e)
      ]
    ]
