-- Texts cut at slashes.
use Rattle.std.proofs.Common.{◌≡◌, ◌≢◌, ℕ, Bool, true, false, eqb, List, [], ◌∷◌, ◌++◌, Option, Some, None, length, refl, sym, ap, ◌∙◌, arith}
use Rattle.std.specs.Prelude.{unwrap_or, MatchOption}
use Rattle.std.specs.Borrow.{Bor}
use Rattle.std.specs.List.{position_or_len, onto_first}
use Rattle.std.proofs.lemmas.List.Splits.{slice_split-cons_no}
use Rattle.path_glob.specs.Segments.{segments, without_first, without_last}

one_step : (b : ℕ) (bs : List ℕ) (v : Bool) → eqb b 47 ≡ v → (position_or_len (λ b. eqb b 47) bs ≡ length bs → segments bs ≡ bs ∷ []) → position_or_len (λ b. eqb b 47) (b ∷ bs) ≡ length (b ∷ bs) → segments (b ∷ bs) ≡ (b ∷ bs) ∷ []
one_step b bs true e rest h = let g = rw e at h in absurd (omega arith)
one_step b bs false e rest h = let g = rw e at h in slice_split-cons_no (λ x. eqb x 47) b bs e ∙ ap (onto_first b) (rest (omega arith))

pub one_segment : (bs : List ℕ) → position_or_len (λ b. eqb b 47) bs ≡ length bs → segments bs ≡ bs ∷ []
one_segment [] h = refl
one_segment (b ∷ bs) h = one_step b bs (eqb b 47) refl (one_segment bs) h

no_slash : (b : ℕ) (bs : List ℕ) (v : Bool) → eqb b 47 ≡ v → (b ≢ 47) → without_first (b ∷ bs) ≡ b ∷ bs
no_slash b bs true e h = absurd (grind (arith, e))
no_slash b bs false e h = rw e refl

first_none : (bs : List ℕ) → ((rest : List ℕ) → bs ≢ 47 ∷ rest) → without_first bs ≡ bs
first_none [] h = refl
first_none (b ∷ bs) h = no_slash b bs (eqb b 47) refl (λ e. h bs (ap (λ (x : ℕ). x ∷ bs) e))

first_some : (bs rest : List ℕ) → bs ≡ 47 ∷ rest → without_first bs ≡ rest
first_some bs rest e = rw e refl

last_none : (bs : List ℕ) → ((front : List ℕ) → bs ≢ front ++ (47 ∷ [])) → without_last bs ≡ bs
last_none [] h = refl
last_none (b ∷ []) h = no_slash b [] (eqb b 47) refl (λ e. h [] (ap (λ (x : ℕ). x ∷ []) e))
last_none (b ∷ c ∷ bs) h = ap (λ (x : List ℕ). b ∷ x) (last_none (c ∷ bs) (λ front e. h (b ∷ front) (ap (λ (x : List ℕ). b ∷ x) e)))

last_cut : (front : List ℕ) → without_last (front ++ (47 ∷ [])) ≡ front
last_cut [] = refl
last_cut (b ∷ []) = refl
last_cut (b ∷ c ∷ front) = ap (λ (x : List ℕ). b ∷ x) (last_cut (c ∷ front))

-- what is left of a text after `strip_prefix` or `strip_suffix`, where nothing stripped leaves it as it is
pub after_first : (text : Bor (List ℕ)) (r : Option (Bor (List ℕ))) → MatchOption r ((rest : List ℕ) → text.now ≢ 47 ∷ rest) (λ x. text.now ≡ 47 ∷ x.now) → (unwrap_or r text).now ≡ without_first text.now
after_first text None h = sym (first_none text.now h)
after_first text (Some x) h = sym (first_some text.now x.now h)

pub before_last : (text : Bor (List ℕ)) (r : Option (Bor (List ℕ))) → MatchOption r ((front : List ℕ) → text.now ≢ front ++ (47 ∷ [])) (λ x. text.now ≡ x.now ++ (47 ∷ [])) → (unwrap_or r text).now ≡ without_last text.now
before_last text None h = sym (last_none text.now h)
before_last text (Some x) h = sym (ap without_last h ∙ last_cut x.now)
