-- Texts cut at dots.
use Rattle.std.proofs.Common.{◌≡◌, ℕ, Bool, true, false, eqb, List, [], ◌∷◌, length, refl, ap, ◌∙◌, arith}
use Rattle.std.specs.List.{position_or_len, onto_first}
use Rattle.std.proofs.lemmas.List.Splits.{slice_split-cons_no}
use Rattle.import_names.specs.Claims.{dotted}

one_step : (b : ℕ) (bs : List ℕ) (v : Bool) → eqb b 46 ≡ v → (position_or_len (λ b. eqb b 46) bs ≡ length bs → dotted bs ≡ bs ∷ []) → position_or_len (λ b. eqb b 46) (b ∷ bs) ≡ length (b ∷ bs) → dotted (b ∷ bs) ≡ (b ∷ bs) ∷ []
one_step b bs true e rest h = let g = rw e at h in absurd (omega arith)
one_step b bs false e rest h = let g = rw e at h in slice_split-cons_no (λ x. eqb x 46) b bs e ∙ ap (onto_first b) (rest (omega arith))

-- a text without a dot is one part
pub one_part : (bs : List ℕ) → position_or_len (λ b. eqb b 46) bs ≡ length bs → dotted bs ≡ bs ∷ []
one_part [] h = refl
one_part (b ∷ bs) h = one_step b bs (eqb b 46) refl (one_part bs) h
