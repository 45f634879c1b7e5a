use Rattle.std.proofs.Common.{sym, subst, inl, inr, List, ℕ, ◌≡◌, ◌↔◌, ◌⊎◌}
use Rattle.graph_form.specs.Sets.{Among}
use Rattle.graph_form.proofs.Amongs.{among_push}
use Rattle.flow_reach.proofs.turning.keep.Goals as goal

pub returns-then-has : goal.returns-then-has
returns-then-has c g = (λ h. inl h, λ h. elim h [ inl o ↦ o | inr left ↦ absurd (left.1 (c.has.ensures.0 c.if-has.true)) ])

pub returns : goal.returns
returns c g =
    let P : List ℕ → Type 0 = λ xs. Among xs g ↔ (Among c.args.into.now.items g ⊎ (c.args.fact ≡ g)) in
    let step = subst P (sym c.in_ok-push.ensures.items) (among_push c.args.into.now.items c.args.fact g) in (
      λ h. elim (step.0 h) [ inl o ↦ inl o | inr e ↦ inr (e, λ has. let t = c.has.ensures.1 has in let f = c.if-has.false in cc) ],
      λ h. elim h [ inl o ↦ step.1 (inl o) | inr left ↦ step.1 (inr left.0) ],
    )
