use Rattle.std.proofs.Common.{◌≡◌, ◌↔◌, ◌⊎◌, inl, inr, ◌<◌, ℕ, List, subst}
use Rattle.std.proofs.lemmas.List.{take_all}
use Rattle.graph_form.specs.Sets.{Among}
use Rattle.graph_form.proofs.Amongs.{among_more}
use Rattle.flow_reach.proofs.Steps.{either_way}
use Rattle.taint_plan.specs.declared.goal.Goal.{Goal}
use Rattle.taint_flow.proofs.apart.own_goals.Goals as goal

pub loop-goal-init : goal.loop-goal-init
loop-goal-init c g = (λ h. (let P : List Goal → Type 0 = λ xs. Among xs g in absurd (subst P c.new-own.ensures.items h)), λ h. absurd h.0)

pub loop-goal-preserved : goal.loop-goal-preserved
loop-goal-preserved c g =
    let m = among_more c.args.goals.now c.loop-goal.goal-index (record { sink = 0; point = 0; fact = 0 }) c.loop-goal-test.true g in
    either_way _ _ _ _ _ _ (c.in_ok-add_own.ensures g) (c.loop-goal.invariant g) (λ h. h, λ h. h) (
      λ (among, lt). elim (m.0 among) [ inl before ↦ inl (before, lt) | inr e ↦ inr (e, lt) ],
      λ h. elim h [ inl (before, lt) ↦ (m.1 (inl before), lt) | inr (e, lt) ↦ (m.1 (inr e), lt) ],
    )

pub returns : goal.returns
returns c g =
    let P : List Goal → Type 0 = λ xs. Among c.loop-goal.own.items g ↔ (Among xs g × (g.fact < c.args.sources)) in
    subst P (take_all c.loop-goal.goal-index c.args.goals.now c.loop-goal-test.false) (c.loop-goal.invariant g)
