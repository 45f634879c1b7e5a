-- The text of a string or a character, without its closing quote.
use Rattle.std.proofs.Common.{◌≡◌, ℕ, suc, ◌-◌, ◌==◌, List, [], ◌∷◌, ◌++◌, length, refl, ap, arith, eqb-true, Bool, true, false}
use Rattle.std.specs.Prelude.{slice_index, nat_lt}
use Rattle.std.proofs.lemmas.Bool.{and_parts}
use Rattle.std.specs.Io.BufRead.{strip_last, ends_with_byte}

one_less : (n : ℕ) → suc n - 1 ≡ n
one_less n = omega arith

last_quote : (q x : ℕ) (xs : List ℕ) → (slice_index (x ∷ xs) (length xs) == q) ≡ true → (front : List ℕ) × (x ∷ xs ≡ front ++ q ∷ [])
last_quote q x [] h = ([], ap (λ (n : ℕ). n ∷ []) (eqb-true x q h))
last_quote q x (y ∷ xs) h = let r = last_quote q y xs h in (x ∷ r.0, ap (λ (ns : List ℕ). x ∷ ns) r.1)

-- a text that no quote ends stays
pub no_quote : (q : ℕ) (text : List ℕ) → ((front : List ℕ) → text ≡ front ++ q ∷ [] → ⊥) → text ≡ strip_last q text
no_quote q [] none = refl
no_quote q (x ∷ xs) none = by_last (ends_with_byte q (x ∷ xs)) refl
  where
    by_last : (b : Bool) → ends_with_byte q (x ∷ xs) ≡ b → x ∷ xs ≡ strip_last q (x ∷ xs)
    by_last true e = let r = last_quote q x xs (rw (one_less (length xs)) at (and_parts (nat_lt 0 (suc (length xs))) _ e).1) in absurd (none r.0 r.1)
    by_last false e = rw e refl
