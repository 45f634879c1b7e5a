use Rattle.std.proofs.Common.{◌≡◌, ◌↔◌, ◌⊎◌, inl, inr, ◌-◌, ◌+◌, ℕ, List, sym, subst, arith}
use Rattle.graph_form.specs.Sets.{Among}
use Rattle.graph_form.proofs.Amongs.{among_push}
use Rattle.taint_plan.specs.declared.goal.Goal.{Goal}
use Rattle.taint_flow.proofs.GoalsApart.{named_is, none_named}
use Rattle.taint_flow.proofs.apart.add_named.Goals as goal

pub returns-then-goal-sources : goal.returns-then-goal-sources
returns-then-goal-sources c g = (λ h. inl h, λ h. elim h [ inl o ↦ o | inr e ↦ absurd (none_named c.args.sources c.args.goal c.if-goal-sources.true g e) ])

pub returns : goal.returns
returns c g =
    let old = c.args.into.now.items in
    let y : Goal = record { sink = c.args.goal.sink; point = c.args.goal.point; fact = c.args.goal.fact - c.args.sources } in
    let P : List Goal → Type 0 = λ xs. Among xs g ↔ (Among old g ⊎ (y ≡ g)) in
    let r = subst P (sym c.in_ok-push.ensures.items) (among_push old y g) in
    let n = named_is c.args.sources c.args.goal (omega (arith, c.if-goal-sources.false)) g in (
      λ h. elim (r.0 h) [ inl o ↦ inl o | inr e ↦ inr (n.0 e) ],
      λ h. elim h [ inl o ↦ r.1 (inl o) | inr e ↦ r.1 (inr (n.1 e)) ],
    )
