-- Texts cut at commas.
use Rattle.std.proofs.Common.{◌≡◌, ℕ, Bool, true, false, eqb, List, [], ◌∷◌, length, refl, ap, ◌∙◌, arith}
use Rattle.std.specs.List.{position_or_len, onto_first}
use Rattle.std.proofs.lemmas.List.Splits.{slice_split-cons_no}
use Rattle.quieting.specs.Ids.{pieces}

one_step : (b : ℕ) (bs : List ℕ) (v : Bool) → eqb b 44 ≡ v → (position_or_len (λ b. eqb b 44) bs ≡ length bs → pieces bs ≡ bs ∷ []) → position_or_len (λ b. eqb b 44) (b ∷ bs) ≡ length (b ∷ bs) → pieces (b ∷ bs) ≡ (b ∷ bs) ∷ []
one_step b bs true e rest h = let g = rw e at h in absurd (omega arith)
one_step b bs false e rest h = let g = rw e at h in slice_split-cons_no (λ x. eqb x 44) b bs e ∙ ap (onto_first b) (rest (omega arith))

pub one_piece : (bs : List ℕ) → position_or_len (λ b. eqb b 44) bs ≡ length bs → pieces bs ≡ bs ∷ []
one_piece [] h = refl
one_piece (b ∷ bs) h = one_step b bs (eqb b 44) refl (one_piece bs) h
