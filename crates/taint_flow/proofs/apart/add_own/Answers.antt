use Rattle.std.proofs.Common.{◌≡◌, ◌↔◌, ◌⊎◌, inl, inr, ◌<◌, ℕ, List, sym, subst, arith}
use Rattle.graph_form.specs.Sets.{Among}
use Rattle.graph_form.proofs.Amongs.{among_push}
use Rattle.taint_plan.specs.declared.goal.Goal.{Goal}
use Rattle.taint_flow.proofs.apart.add_own.Goals as goal

pub returns-then-goal-sources : goal.returns-then-goal-sources
returns-then-goal-sources c g = (
  λ h. inl h,
  λ h. elim h [ inl o ↦ o | inr (e, lt) ↦ absurd (let F : Goal → Type 0 = λ x. x.fact < c.args.sources in let small = subst F (sym e) lt in omega (arith, small, c.if-goal-sources.true)) ],
)

pub returns : goal.returns
returns c g =
    let old = c.args.into.now.items in
    let P : List Goal → Type 0 = λ xs. Among xs g ↔ (Among old g ⊎ (c.args.goal ≡ g)) in
    let r = subst P (sym c.in_ok-push.ensures.items) (among_push old c.args.goal g) in (
      λ h. elim (r.0 h) [
        | inl o ↦ inl o
        | inr e ↦ inr (e, (let F : Goal → Type 0 = λ x. x.fact < c.args.sources in subst F e (omega (arith, c.if-goal-sources.false))))
      ],
      λ h. elim h [ inl o ↦ r.1 (inl o) | inr (e, lt) ↦ r.1 (inr e) ],
    )
