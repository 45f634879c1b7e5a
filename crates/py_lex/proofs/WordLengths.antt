-- A text is one of some words just where it is one of those of its length.
use Rattle.std.proofs.Common.{◌≡◌, ℕ, ◌≤◌, Bool, true, false, ◌&&◌, ◌==◌, nat_le, List, [], ◌∷◌, length, refl, sym, ap, ◌∙◌, arith, bytes_eq, eqb-true, eq-eqb, leb-true}
use Rattle.std.specs.Prelude.{if◌then◌else◌}
use Rattle.std.proofs.lemmas.Bool.{and_parts}
use Rattle.std.proofs.lemmas.Slice.Eq.{bytes_eq-Decides}
use Rattle.lexing.specs.WordList.{is_among}

-- the words of a length
abbrev pub of_len : ℕ → List (List ℕ) → List (List ℕ)
of_len n [] = []
of_len n (w ∷ ws) = if length w == n then w ∷ of_len n ws else of_len n ws

no_other : (w text : List ℕ) → (length w == length text) ≡ false → bytes_eq w text ≡ false
no_other w text ne = here (bytes_eq w text) refl
  where
    here : (b : Bool) → bytes_eq w text ≡ b → bytes_eq w text ≡ false
    here true e = let k : true ≡ false = sym (eq-eqb (length w) (length text) (ap length ((bytes_eq-Decides w text).0 e))) ∙ ne in absurd cc
    here false e = e

pub among_of_len : (ws : List (List ℕ)) (text : List ℕ) → is_among ws text ≡ is_among (of_len (length text) ws) text
among_of_len [] text = refl
among_of_len (w ∷ ws) text = here (among_of_len ws text) (length w == length text) refl
  where
    here : is_among ws text ≡ is_among (of_len (length text) ws) text → (b : Bool) → (length w == length text) ≡ b → is_among (w ∷ ws) text ≡ is_among (if b then w ∷ of_len (length text) ws else of_len (length text) ws) text
    here more true e = ap (λ (r : Bool). if bytes_eq w text then true else r) more
    here more false e = ap (λ (b : Bool). if b then true else is_among ws text) (no_other w text e) ∙ more

-- every word has from 2 to 8 bytes
abbrev pub are_short : List (List ℕ) → Bool
are_short [] = true
are_short (w ∷ ws) = (nat_le 2 (length w) && nat_le (length w) 8) && are_short ws

pub none_of_len : (ws : List (List ℕ)) (n : ℕ) → are_short ws ≡ true → (2 ≤ n → n ≤ 8 → ⊥) → of_len n ws ≡ []
none_of_len [] n short out = refl
none_of_len (w ∷ ws) n short out = here (none_of_len ws n (and_parts (nat_le 2 (length w) && nat_le (length w) 8) (are_short ws) short).1 out) (length w == n) refl
  where
    here : of_len n ws ≡ [] → (b : Bool) → (length w == n) ≡ b → (if b then w ∷ of_len n ws else of_len n ws) ≡ []
    here more true e =
        let p = and_parts (nat_le 2 (length w) && nat_le (length w) 8) (are_short ws) short in
        let q = and_parts (nat_le 2 (length w)) (nat_le (length w) 8) p.0 in
        let i = eqb-true (length w) n e in
        absurd (out (omega (arith, leb-true 2 (length w) q.0)) (omega (arith, leb-true (length w) 8 q.1)))
    here more false e = more
