-- What the signs of globs stand for.
use Rattle.std.proofs.Common.{◌≡◌, ◌≢◌, ℕ, List, [], ◌∷◌, length, refl, sym, ap, ◌∙◌, subst, arith, true, false, eqb, ◌⊎◌, inl, inr}
use Rattle.std.specs.Prelude.{encode_utf8_all}
use Rattle.std.specs.Str.{chars, IsUtf8}
use Rattle.std.proofs.lemmas.Str.{chars-nil, encodes-chars}
use Rattle.path_glob.specs.Glob.{StandsForChars, StandsForSegments, FitsSegment}
use Rattle.path_glob.proofs.Fitting.{StandsForAny, StandsForOne}

pub star_any : (sign : ℕ) → sign ≡ 42 → StandsForAny StandsForChars sign
star_any sign e = record { any = λ run. inl e }

single : (run : List ℕ) → length run ≡ 1 → (x : ℕ) × (run ≡ x ∷ [])
single [] e = absurd (omega (arith, e))
single (x ∷ []) e = (x, refl)
single (x ∷ y ∷ xs) e = absurd (omega (arith, e))

pub other_one : (sign : ℕ) → sign ≢ 42 → StandsForOne StandsForChars sign
other_one sign other = record { one = λ run s. elim s [ inl star ↦ absurd (other star) | inr t ↦ elim t [ inl mark ↦ single run mark.1 | inr own ↦ (sign, own) ] ] }

pub stands_for : (sign c : ℕ) → ((sign ≡ 63) ⊎ (sign ≡ c)) → StandsForChars sign (c ∷ [])
stands_for sign c (inl mark) = inr (inl (mark, refl))
stands_for sign c (inr own) = inr (inr (ap (λ (x : ℕ). x ∷ []) (own_back own)))
  where
    own_back : sign ≡ c → c ≡ sign
    own_back e = cc

pub stands_not : (sign c : ℕ) → sign ≢ 42 → (((sign ≡ 63) ⊎ (sign ≡ c)) → ⊥) → StandsForChars sign (c ∷ []) → ⊥
stands_not sign c other differs (inl star) = other star
stands_not sign c other differs (inr (inl mark)) = differs (inl mark.0)
stands_not sign c other differs (inr (inr own)) = let same : sign ≡ c = cc in differs (inr same)

pub globs_any : (glob : List ℕ) → glob ≡ 42 ∷ 42 ∷ [] → StandsForAny StandsForSegments glob
globs_any glob e = record { any = λ run. inl e }

pub globs_one : (glob : List ℕ) → glob ≢ 42 ∷ 42 ∷ [] → StandsForOne StandsForSegments glob
globs_one glob other = record { one = λ run s. elim s [ inl stars ↦ absurd (other stars) | inr t ↦ (t.0, t.1) ] }

pub segment_fits : (glob segment : List ℕ) → FitsSegment glob segment → StandsForSegments glob (segment ∷ [])
segment_fits glob segment f = inr (segment, refl, f)

pub segment_not : (glob segment : List ℕ) → glob ≢ 42 ∷ 42 ∷ [] → (FitsSegment glob segment → ⊥) → StandsForSegments glob (segment ∷ []) → ⊥
segment_not glob segment other differs (inl stars) = other stars
segment_not glob segment other differs (inr (own, e, f)) =
    let same : own ≡ segment = cc in
    let F : List ℕ → Type 0 = λ z. FitsSegment glob z in
    differs (subst F same f)

pub nothing_left : (text : List ℕ) → true ≡ eqb (length text) 0 → chars text ≡ []
nothing_left [] e = chars-nil
nothing_left (b ∷ bs) e = absurd (grind (arith, e))

pub something_left : (text : List ℕ) → IsUtf8 text → false ≡ eqb (length text) 0 → chars text ≡ [] → ⊥
something_left [] u e none = absurd cc
something_left (b ∷ bs) u e none = let same : b ∷ bs ≡ [] = sym (encodes-chars (b ∷ bs) u) ∙ ap encode_utf8_all none in absurd cc
