use Rattle.std.proofs.Common.{◌≡◌, ◌↔◌, ◌⊎◌, inl, inr, ℕ, ◌-◌, List, sym, subst, arith}
use Rattle.graph_form.specs.Sets.{Among}
use Rattle.graph_form.proofs.Amongs.{among_push}
use Rattle.flow_reach.proofs.Steps.{pair_is}
use Rattle.taint_flow.proofs.split.add_pair.Goals as goal

pub returns : goal.returns
returns c from to =
    let old = c.args.into.now in
    let y : ℕ × ℕ = (c.args.first - c.args.sources, c.args.second - c.args.sources) in
    let P : List (ℕ × ℕ) → Type 0 = λ xs. Among xs (from, to) ↔ (Among old (from, to) ⊎ (y ≡ (from, to))) in
    let r = subst P (sym c.in_ok-push.ensures.ok) (among_push old y (from, to)) in
    let p = pair_is y from to in (
      λ h. elim (r.0 h) [ inl o ↦ inl o | inr q ↦ inr (omega (arith, (p.0 q).0, c.if-first-sources.false), omega (arith, (p.0 q).1, c.if-second-sources.false)) ],
      λ h. elim h [ inl o ↦ r.1 (inl o) | inr (a, b) ↦ r.1 (inr (p.1 (omega (arith, a, c.if-first-sources.false), omega (arith, b, c.if-second-sources.false)))) ],
    )
