use Rattle.std.proofs.Common.{◌↔◌, inl, inr, ◌+◌, ℕ, List, ap, subst, arith}
use Rattle.graph_form.specs.Sets.{Among}
use Rattle.taint_flow.proofs.split.named.Goals as goal

pub returns : goal.returns
returns c from to =
    let n = c.args.sources in
    let D : List ℕ → Type 0 = λ xs. (name : ℕ) → Among c.in_ok-drops.drops name ↔ Among xs (n + name) in
    let A : List (ℕ × ℕ) → Type 0 = λ xs. (f t : ℕ) → Among c.in_ok-adds.adds (f, t) ↔ Among xs (n + f, n + t) in
    let drops = subst D c.as_slice.ensures c.in_ok-drops.ensures in
    let adds = subst A c.as_slice-2.ensures c.in_ok-adds.ensures in (
      λ h. elim h [ inl (same, stays) ↦ inl (ap (λ x. n + x) same, λ among. stays ((drops from).1 among)) | inr added ↦ inr ((adds from to).0 added) ],
      λ h. elim h [ inl (same, stays) ↦ inl (omega (arith, same), λ among. stays ((drops from).0 among)) | inr added ↦ inr ((adds from to).1 added) ],
    )
