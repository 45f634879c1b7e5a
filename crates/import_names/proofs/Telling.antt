-- What names stand for by the claims that tell it.
use Rattle.std.proofs.Common.{◌≡◌, ◌∙◌, ℕ, ◌≤◌, Bool, true, false, not, List, [], ◌∷◌, length, take, refl, sym, ap}
use Rattle.std.specs.Prelude.{filter, ◌&&◌, ◌==◌}
use Rattle.std.specs.Str.{bytes_eq}
use Rattle.std.proofs.lemmas.List.{take_all}
use Rattle.std.proofs.lemmas.List.Kept.{IsSortedBy-filter}
use Rattle.std.proofs.Math.Dec.{eqb-suc-zero}
use Rattle.std.proofs.lemmas.Slice.Eq.{bytes_eq-Decides}
use Rattle.import_names.specs.declared.claim.Claim.{Claim}
use Rattle.import_names.specs.Claims.{said_of, by_only, meaning}
use Rattle.import_names.specs.Ordered.{AreInOrder}
use Rattle.import_names.specs.Telling.{tells}
use Rattle.import_names.proofs.Ordering.{lower, lower_weak, filter_yes, filter_no}

pub still_in_order : (claims : List Claim) (test : Claim → Bool) → AreInOrder claims → AreInOrder (filter test claims)
still_in_order claims test up = IsSortedBy-filter lower lower_weak test claims up

no_and : (b : Bool) → (b && false) ≡ false
no_and true = refl
no_and false = refl

and_yes : (b : Bool) → b ≡ true → (b && true) ≡ true
and_yes b e = ap (λ c. c && true) e

module _ (claims : List Claim) (name : List ℕ) where
  abbrev is_of : Claim → Bool
  is_of c = bytes_eq c.name name

  -- the test, where the name stands for these parts
  abbrev by_parts : List (List ℕ) → Claim → Bool
  by_parts parts c = not (length c.parts == 0) && not (length parts == 0)

  alike : (c : Claim) → is_of c ≡ true → tells claims c ≡ by_parts (meaning claims name) c
  alike c e = ap (λ n. by_parts (meaning claims n) c) ((bytes_eq-Decides c.name name).0 e)

  abbrev test : Claim → Bool
  test = by_parts (meaning claims name)

  abbrev Swaps : List Claim → Type 0
  Swaps xs = filter is_of (filter (tells claims) xs) ≡ filter test (filter is_of xs)

  step : (x : Claim) (xs : List Claim) (a b : Bool) → is_of x ≡ a → tells claims x ≡ b → Swaps xs → Swaps (x ∷ xs)
  step x xs false false ea eb rest = ap (filter is_of) (filter_no (tells claims) x xs eb) ∙ rest ∙ sym (ap (filter test) (filter_no is_of x xs ea))
  step x xs false true ea eb rest =
      ap (filter is_of) (filter_yes (tells claims) x xs eb) ∙ filter_no is_of x (filter (tells claims) xs) ea ∙ rest ∙ sym (ap (filter test) (filter_no is_of x xs ea))
  step x xs true false ea eb rest =
      ap (filter is_of) (filter_no (tells claims) x xs eb) ∙ rest
      ∙ sym (ap (filter test) (filter_yes is_of x xs ea) ∙ filter_no test x (filter is_of xs) (sym (alike x ea) ∙ eb))
  step x xs true true ea eb rest =
      ap (filter is_of) (filter_yes (tells claims) x xs eb) ∙ filter_yes is_of x (filter (tells claims) xs) ea ∙ ap (λ ys. x ∷ ys) rest
      ∙ sym (ap (filter test) (filter_yes is_of x xs ea) ∙ filter_yes test x (filter is_of xs) (sym (alike x ea) ∙ eb))

  swaps : (xs : List Claim) → Swaps xs
  swaps [] = refl
  swaps (x ∷ xs) = step x xs (is_of x) (tells claims x) refl refl (swaps xs)

  none_pass : (xs : List Claim) → filter (by_parts []) xs ≡ []
  none_pass [] = refl
  none_pass (x ∷ xs) = filter_no (by_parts []) x xs (no_and (not (length x.parts == 0))) ∙ none_pass xs

  some_part : (parts : List (List ℕ)) (p : List ℕ) (ps : List (List ℕ)) → parts ≡ p ∷ ps → not (length parts == 0) ≡ true
  some_part parts p ps e = ap (λ qs. not (length qs == 0)) e ∙ ap not (eqb-suc-zero (length ps))

  only : (said : List Claim) (parts : List (List ℕ)) → by_only said ≡ parts → by_only (filter (by_parts parts) said) ≡ parts
  only said [] e = ap by_only (none_pass said)
  only [] (p ∷ ps) e = absurd cc
  only (c ∷ []) (p ∷ ps) e =
      let any : not (length (p ∷ ps) == 0) ≡ true = some_part (p ∷ ps) p ps refl in
      let passes : by_parts (p ∷ ps) c ≡ true = ap (λ b. not (length c.parts == 0) && b) any ∙ and_yes (not (length c.parts == 0)) (some_part c.parts p ps e) in
      ap by_only (filter_yes (by_parts (p ∷ ps)) c [] passes) ∙ e
  only (c ∷ d ∷ cs) (p ∷ ps) e = absurd cc

  -- the claims that tell say the same of a name
  pub same_of : meaning (filter (tells claims) claims) name ≡ meaning claims name
  same_of = ap by_only (swaps claims) ∙ only (said_of name claims) (meaning claims name) refl

pub same_told : (claims : List Claim) → meaning (filter (tells claims) claims) ≡ meaning claims
same_told claims i name = same_of claims name i

-- ---- the loop

pub all_told : (claims : List Claim) (i : ℕ) (few : List Claim) → length claims ≤ i → few ≡ filter (tells claims) (take i claims) → few ≡ filter (tells claims) claims
all_told claims i few le e = e ∙ ap (filter (tells claims)) (take_all i claims le)
