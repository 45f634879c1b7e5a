use Rattle.std.proofs.Common.{◌≡◌, ◌↔◌, ◌⊎◌, inl, inr, ℕ, ◌-◌, List, sym, subst, arith}
use Rattle.graph_form.specs.Sets.{Among}
use Rattle.graph_form.proofs.Amongs.{among_push}
use Rattle.flow_reach.proofs.Steps.{pair_is}
use Rattle.taint_flow.proofs.search.add_begin.Goals as goal

pub returns : goal.returns
returns c point name =
    let old = c.args.into.now.items in
    let y : ℕ × ℕ = (0, c.args.fact - c.args.sources) in
    let P : List (ℕ × ℕ) → Type 0 = λ xs. Among xs (point, name) ↔ (Among old (point, name) ⊎ (y ≡ (point, name))) in
    let r = subst P (sym c.in_ok-push.ensures.items) (among_push old y (point, name)) in
    let p = pair_is y point name in (
      λ h. elim (r.0 h) [ inl o ↦ inl o | inr q ↦ inr ((p.0 q).0, omega (arith, (p.0 q).1, c.if-fact-sources.false)) ],
      λ h. elim h [ inl o ↦ r.1 (inl o) | inr (e, q) ↦ r.1 (inr (p.1 (e, omega (arith, q, c.if-fact-sources.false)))) ],
    )
