-- What the answer tells.
use Rattle.std.proofs.Common.{◌≡◌, ◌≢◌, ◌↔◌, ◌+◌, ◌*◌, ℕ, Some, sym, ◌∙◌, ap}
use Rattle.std.specs.Prelude.{slice_index}
use Rattle.held_values.specs.declared.held.HeldValues.{HeldValues}
use Rattle.held_values.specs.Told.{Tells}
use Rattle.held_values.proofs.Concerns.{some_same}

module _ (held : HeldValues) (point name value : ℕ) (is : value ≡ slice_index held.values.items (name * held.points + point)) where
  pub tells_none : (value ≡ 0) → (literal : ℕ) → Tells held point name literal → ⊥
  unfolding Tells
  tells_none none literal (e, some, seen) = some (sym e ∙ sym is ∙ none)

  pub tells_unseen : (value ≡ 4294967295) → (literal : ℕ) → Tells held point name literal → ⊥
  unfolding Tells
  tells_unseen none literal (e, some, seen) = seen (sym e ∙ sym is ∙ none)

  pub tells_some : value ≢ 0 → value ≢ 4294967295 → (literal : ℕ) → (Some value ≡ Some literal) ↔ Tells held point name literal
  unfolding Tells
  tells_some some seen literal = (
    λ e. let f = some_same value literal e in (sym is ∙ f, λ z. some (f ∙ z), λ u. seen (f ∙ u)),
    λ (e, ne, nu). ap Some (is ∙ e),
  )
