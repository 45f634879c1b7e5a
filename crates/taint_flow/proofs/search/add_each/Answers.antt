use Rattle.std.proofs.Common.{◌≡◌, ◌↔◌, ◌⊎◌, inl, inr, ℕ, List, get_or, sym, subst}
use Rattle.std.proofs.lemmas.List.{take_all}
use Rattle.graph_form.specs.Sets.{Among}
use Rattle.graph_form.proofs.Amongs.{among_more, among_push}
use Rattle.flow_reach.proofs.Steps.{more, pair_is}
use Rattle.taint_flow.proofs.search.add_each.Goals as goal

pub loop-point-init : goal.loop-point-init
loop-point-init c to other = (λ h. inl h, λ h. elim h [ inl o ↦ o | inr none ↦ absurd none.0 ])

pub loop-point-preserved : goal.loop-point-preserved
loop-point-preserved c to other =
    let xs = c.args.points.now in
    let i = c.loop-point.point-index in
    let at : ℕ × ℕ = (get_or xs i 0, c.args.name) in
    let p = pair_is at to other in
    let m = among_more xs i 0 c.loop-point-test.true to in
    let P : List (ℕ × ℕ) → Type 0 = λ ys. Among ys (to, other) ↔ (Among c.loop-point.into.items (to, other) ⊎ (at ≡ (to, other))) in
    more _ _ _ _ _ _ (subst P (sym c.in_ok-push.ensures.items) (among_push c.loop-point.into.items at (to, other))) (c.loop-point.invariant to other) (
      λ (among, e). elim (m.0 among) [ inl before ↦ inl (before, e) | inr q ↦ inr (p.1 (q, e)) ],
      λ h. elim h [ inl (before, e) ↦ (m.1 (inl before), e) | inr q ↦ (m.1 (inr (p.0 q).0), (p.0 q).1) ],
    )

pub returns : goal.returns
returns c to other =
    let P : List ℕ → Type 0 = λ xs. Among c.loop-point.into.items (to, other) ↔ (Among c.args.into.now.items (to, other) ⊎ (Among xs to × (c.args.name ≡ other))) in
    subst P (take_all c.loop-point.point-index c.args.points.now c.loop-point-test.false) (c.loop-point.invariant to other)
