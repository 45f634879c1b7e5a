use Rattle.std.proofs.Common.{◌≡◌, ◌↔◌, ◌⊎◌, inl, inr, ℕ, ◌-◌, List, sym, subst, arith}
use Rattle.graph_form.specs.Sets.{Among}
use Rattle.graph_form.proofs.Amongs.{among_push}
use Rattle.taint_flow.proofs.split.add_name.Goals as goal

pub returns : goal.returns
returns c name =
    let old = c.args.into.now in
    let y = c.args.fact - c.args.sources in
    let P : List ℕ → Type 0 = λ xs. Among xs name ↔ (Among old name ⊎ (y ≡ name)) in
    let r = subst P (sym c.in_ok-push.ensures.ok) (among_push old y name) in (
      λ h. elim (r.0 h) [ inl o ↦ inl o | inr q ↦ inr (omega (arith, q, c.if-fact-sources.false)) ],
      λ h. elim h [ inl o ↦ r.1 (inl o) | inr q ↦ r.1 (inr (omega (arith, q, c.if-fact-sources.false))) ],
    )
