-- Results and edits looked at one after the other.
use Rattle.std.proofs.Common.{◌≡◌, inl, inr, ℕ, suc, ◌+◌, ◌-◌, ◌<◌, ◌≤◌, false, List, ◌∷◌, length, drop, drop-cons, get_or, sym, ap, ◌∙◌, subst, arith}
use Rattle.std.specs.Ordering.{is_lt}
use Rattle.std.specs.List.Sorted.{IsSortedWithin}
use Rattle.std.proofs.lemmas.Bool.{cases_lt}
use Rattle.std.proofs.lemmas.List.{get_or_default}
use Rattle.report_form.specs.declared.edit.Edit.{Edit}
use Rattle.report_form.specs.declared.report.Reported.{Reported}
use Rattle.fix_apply.specs.Order.{place_cmp}
use Rattle.fix_apply.specs.Applied.{LieIn}

-- the first so many results are in order
abbrev pub OrderedTo : List Reported → ℕ → Type 0
OrderedTo results i = IsSortedWithin (λ r s. is_lt (place_cmp r s)) results 0 i

pub ordered_on : (results : List Reported) (i : ℕ) (a b : Reported) → 0 < i → i < length results → a ≡ get_or results i a → b ≡ get_or results (i - 1) b
    → is_lt (place_cmp a b) ≡ false → OrderedTo results i → OrderedTo results (i + 1)
ordered_on results i a b some lt a_is b_is e up k d low high = elim (cases_lt (k + 1) i) [ inl under ↦ up k d low under | inr le ↦ last (omega (arith, le)) ]
  where
    last : k + 1 ≡ i → is_lt (place_cmp (get_or results (k + 1) d) (get_or results k d)) ≡ false
    last at =
        let before : k ≡ i - 1 = omega (arith, at) in
        let first : get_or results (k + 1) d ≡ a = ap (λ n. get_or results n d) at ∙ get_or_default results i d a lt ∙ sym a_is in
        let second : get_or results k d ≡ b = ap (λ n. get_or results n d) before ∙ get_or_default results (i - 1) d b (omega arith) ∙ sym b_is in
        ap (λ r. is_lt (place_cmp r (get_or results k d))) first ∙ ap (λ s. is_lt (place_cmp a s)) second ∙ e

-- the edits from place i on lie behind that place
abbrev pub LieFrom : ℕ → ℕ → List Edit → ℕ → Type 0
LieFrom end size edits i = LieIn end size (drop i edits) → LieIn 0 size edits

pub lie_on : (end size : ℕ) (edits : List Edit) (i : ℕ) (e : Edit) → i < length edits → e ≡ get_or edits i e → end ≤ e.span.from → e.span.from ≤ e.span.to
    → LieFrom end size edits i → LieFrom e.span.to size edits (i + 1)
lie_on end size edits i e lt is le up far = λ h.
    let on : suc i ≡ i + 1 = omega arith in
    let split : drop i edits ≡ e ∷ drop (i + 1) edits = drop-cons edits i e lt ∙ ap (λ y. y ∷ drop (suc i) edits) (sym is) ∙ ap (λ k. e ∷ drop k edits) on in
    let P : List Edit → Type 0 = λ es. LieIn end size es in
    far (subst P (sym split) (le, up, h))
