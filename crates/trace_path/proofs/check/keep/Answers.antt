use Rattle.std.proofs.Common.{sym, subst, inl, inr, List, ℕ, ◌≡◌, ◌↔◌, ◌⊎◌}
use Rattle.graph_form.specs.Sets.{Among}
use Rattle.graph_form.proofs.Amongs.{among_push}
use Rattle.trace_path.proofs.check.keep.Goals as goal

pub returns-then-among : goal.returns-then-among
returns-then-among c g = (λ h. inl h, λ h. elim h [ inl o ↦ o | inr stays ↦ absurd (stays.1 (c.among.ensures.0 c.if-among.true)) ])

pub returns : goal.returns
returns c g =
    let P : List ℕ → Type 0 = λ xs. Among xs g ↔ (Among c.args.into.now.items g ⊎ (c.args.fact ≡ g)) in
    let step = subst P (sym c.in_ok-push.ensures.items) (among_push c.args.into.now.items c.args.fact g) in (
      λ h. elim (step.0 h) [ inl o ↦ inl o | inr e ↦ inr (e, λ d. let t = c.among.ensures.1 d in let f = c.if-among.false in cc) ],
      λ h. elim h [ inl o ↦ step.1 (inl o) | inr stays ↦ step.1 (inr stays.0) ],
    )
