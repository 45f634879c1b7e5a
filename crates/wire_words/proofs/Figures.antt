-- Numbers as words write them.
use Rattle.std.proofs.Common.{◌≡◌, ◌⊎◌, inl, inr, ℕ, zero, suc, ◌+◌, ◌/◌, ◌%◌, ◌<◌, ◌≤◌, ◌^◌, List, [], ◌∷◌, ◌++◌, length, get_or, sym, ap, ◌∙◌, arith, None, Some, Result, Ok, Err, refl}
use Rattle.std.specs.Result.{result_ok}
use Rattle.std.specs.Fmt.{decimal}
use Rattle.std.specs.Str.Parse.{AllDigits, digits_value, ParsesUnsigned}
use Rattle.std.proofs.lemmas.Fmt.{decimal_by_steps, parse-decimal, decimal-digits_value}
use Rattle.std.proofs.lemmas.Str.Parse.{IsNumeralModel, numerals_by_value, tells_digits, parse_plain}

-- how a number begins: with a digit, which isn't 0 where the number isn't, and stands alone in a small number
record Begins (n : ℕ) (ds : List ℕ) : Type 0 where
  first : ℕ
  rest : List ℕ
  is : ds ≡ first ∷ rest
  low : 48 ≤ first
  nonzero : 0 < n → 49 ≤ first
  alone : n < 10 → rest ≡ []

begins : (n : ℕ) → n < 2 ^ 64 → Begins n (decimal n)
begins n small = decimal_by_steps Begins one more n small
  where
    one : (n : ℕ) → n < 10 → Begins n ((48 + n) ∷ [])
    one n lt = record { first = 48 + n; rest = []; is = refl; low = omega arith; nonzero = λ h. omega arith; alone = λ h. refl }

    more : (n : ℕ) (ds : List ℕ) → 10 ≤ n → Begins (n / 10) ds → Begins n (ds ++ ((48 + n % 10) ∷ []))
    more n ds ge b = record {
      first = b.first;
      rest = b.rest ++ ((48 + n % 10) ∷ []);
      is = ap (λ (l : List ℕ). l ++ ((48 + n % 10) ∷ [])) b.is;
      low = b.low;
      nonzero = λ h. b.nonzero (omega arith);
      alone = λ h. absurd (omega arith);
    }

-- the word begins with a sign, or with a zero before other digits
abbrev pub IsPadding : List ℕ → Type 0
IsPadding word = ((0 < length word) × (get_or word 0 0 ≡ 43)) ⊎ ((1 < length word) × (get_or word 0 0 ≡ 48))

-- no number is written so
pub not_padded : (n : ℕ) (word : List ℕ) → n < 2 ^ 64 → word ≡ decimal n → IsPadding word → ⊥
not_padded n word small e p = apart n word (begins n small) e p
  where
    first_is : (word rest : List ℕ) (d : ℕ) → word ≡ d ∷ rest → get_or word 0 0 ≡ d
    first_is word rest d e = ap (λ (l : List ℕ). get_or l 0 0) e

    length_is : (word rest : List ℕ) (d : ℕ) → word ≡ d ∷ rest → rest ≡ [] → length word ≡ 1
    length_is word rest d e f = ap length e ∙ ap (λ (l : List ℕ). length (d ∷ l)) f

    apart : (n : ℕ) (word : List ℕ) → Begins n (decimal n) → word ≡ decimal n → IsPadding word → ⊥
    apart n word b e (inl (some, plus)) = let f = first_is word b.rest b.first (e ∙ b.is) in let low = b.low in omega arith
    apart zero word b e (inr (two, zeros)) = let f = length_is word b.rest b.first (e ∙ b.is) (b.alone (omega arith)) in omega arith
    apart (suc n) word b e (inr (two, zeros)) = let f = first_is word b.rest b.first (e ∙ b.is) in let high = b.nonzero (omega arith) in omega arith

pub read_back : {E : Type 0} (r : Result ℕ E) (word : List ℕ) (n : ℕ) → ParsesUnsigned 64 10 word r → n < 2 ^ 64 → word ≡ decimal n → r ≡ Ok n
read_back r word n parses small e = parse-decimal 64 n word r small small e parses

-- what isn't read is no number
pub refused : {E : Type 0} (r : Result ℕ E) (word : List ℕ) → ParsesUnsigned 64 10 word r → None ≡ result_ok r → (n : ℕ) → n < 2 ^ 64 → word ≡ decimal n → ⊥
refused r word parses none n small e = let f : result_ok r ≡ Some n = ap result_ok (read_back r word n parses small e) in absurd cc

-- what is read is the number
pub same_number : {E : Type 0} (r : Result ℕ E) (word : List ℕ) (m : ℕ) → ParsesUnsigned 64 10 word r → Some m ≡ result_ok r → (n : ℕ) → n < 2 ^ 64 → word ≡ decimal n → m ≡ n
same_number r word m parses some n small e = let f : result_ok r ≡ Some n = ap result_ok (read_back r word n parses small e) in cc

own : IsNumeralModel (AllDigits 10) (digits_value 10)
own = numerals_by_value (AllDigits 10) tells_digits

-- the word is the number's, as it isn't padded
pub written : {E : Type 0} (r : Result ℕ E) (word : List ℕ) (n : ℕ) → ParsesUnsigned 64 10 word r → Some n ≡ result_ok r → (IsPadding word → ⊥) → word ≡ decimal n
written r [] n parses some bare = absurd (empty r n parses some)
  where
    empty : {E : Type 0} (r : Result ℕ E) (n : ℕ) → ParsesUnsigned 64 10 [] r → Some n ≡ result_ok r → ⊥
    empty (Ok m) n parses some = let h = parses.0.0.0 in omega arith
    empty (Err e) n parses some = absurd cc
written r (d ∷ ds) n parses some bare = numeral r n parses some
  where
    small : d ≡ 48 → length (d ∷ ds) ≡ 1
    small z = tell (length ds) (λ more. bare (inr (omega arith, z)))
      where
        tell : (k : ℕ) → (0 < k → ⊥) → suc k ≡ 1
        tell zero h = refl
        tell (suc k) h = absurd (h (omega arith))

    numeral : {E : Type 0} (r : Result ℕ E) (n : ℕ) → ParsesUnsigned 64 10 (d ∷ ds) r → Some n ≡ result_ok r → d ∷ ds ≡ decimal n
    numeral (Err e) n parses some = absurd cc
    numeral {E = E} (Ok m) n parses some =
        let same : n ≡ m = cc in
        let h = parse_plain own {E = E} 64 (d ∷ ds) (Ok m) parses (λ p. bare (inl (omega arith, p))) in
        let back = decimal-digits_value own (d ∷ ds) h.0.0 h.0.1 small h.0.2 in
        sym back ∙ ap decimal (sym h.1 ∙ sym same)
