-- Names that are known to hold a literal, in order of number.
use Rattle.std.proofs.Common.{◌≡◌, ◌⊎◌, inl, inr, ℕ, zero, suc, ◌+◌, ◌-◌, ◌<◌, ◌≤◌, List, [], ◌∷◌, length, get_or, map, refl, sym, ap, ◌∙◌, subst, arith, eq-eqb, true, false}
use Rattle.std.specs.Prelude.{None, Some, nat_eq, slice_index, if◌then◌else◌}
use Rattle.std.specs.List.Sorted.{IsStrictlyIncreasing}
use Rattle.std.proofs.lemmas.Bool.Decides.{nat_tests}
use Rattle.std.proofs.Math.Nat.{eq-or-lt_of_le}
use Rattle.std.proofs.lemmas.List.{length-map, get_or-map}
use Rattle.node_tree.specs.declared.known.Known.{Known}
use Rattle.node_tree.specs.KnownNames.{AreInOrder}
use Rattle.node_match.specs.Relation.{held_at}
use Rattle.node_match.proofs.Numbering.{held_first}

-- ---- numbers that rise

tail_rises : (x : ℕ) (xs : List ℕ) → IsStrictlyIncreasing (x ∷ xs) → IsStrictlyIncreasing xs
tail_rises x xs rises k lt =
    let e : suc k + 1 ≡ suc (k + 1) = omega arith in
    let P : ℕ → Type 0 = λ j. slice_index (x ∷ xs) (suc k) < slice_index (x ∷ xs) j in
    subst P e (rises (suc k) (omega arith))

first_below : (x : ℕ) (xs : List ℕ) (i : ℕ) → IsStrictlyIncreasing (x ∷ xs) → i < length xs → x < slice_index xs i
first_below x [] i rises lt = absurd (omega arith)
first_below x (y ∷ ys) zero rises lt = rises 0 (omega arith)
first_below x (y ∷ ys) (suc i) rises lt =
    let one : x < y = rises 0 (omega arith) in
    let rest = first_below y ys i (tail_rises x (y ∷ ys) rises) (omega arith) in
    omega (arith, one, rest)

rising : (xs : List ℕ) (i j : ℕ) → IsStrictlyIncreasing xs → i < j → j < length xs → slice_index xs i < slice_index xs j
rising [] i j rises less lt = absurd (omega arith)
rising (x ∷ xs) i zero rises less lt = absurd (omega arith)
rising (x ∷ xs) zero (suc j) rises less lt = first_below x xs j rises (omega arith)
rising (x ∷ xs) (suc i) (suc j) rises less lt = rising xs i j (tail_rises x xs rises) (omega arith) (omega arith)

abbrev numbers : List Known → List ℕ
numbers ks = map (λ (k : Known). k.at) ks

number_at : (ks : List Known) (i : ℕ) (k : Known) → i < length ks → k ≡ get_or ks i k → slice_index (numbers ks) i ≡ k.at
number_at ks i k lt is = let f : Known → ℕ = λ (x : Known). x.at in get_or-map f ks i k 0 lt ∙ ap f (sym is)

many : (ks : List Known) → length (numbers ks) ≡ length ks
many ks = length-map ks (λ (k : Known). k.at)

-- ---- what is held

pub held_found : (ks : List Known) (i : ℕ) (k : Known) (at : ℕ) → AreInOrder ks → i < length ks → k ≡ get_or ks i k → k.at ≡ at → Some k.literal ≡ held_at ks at
held_found [] i k at rises lt is e = absurd (omega arith)
held_found (x ∷ ks) zero k at rises lt is e =
    let f : k ≡ x = is in
    sym (held_first x ks at true (eq-eqb x.at at (ap (λ (y : Known). y.at) (sym f) ∙ e)) ∙ ap (λ (y : Known). Some y.literal) (sym f))
held_found (x ∷ ks) (suc i) k at rises lt is e =
    let below = first_below x.at (numbers ks) i rises (omega (arith, many ks)) in
    let here = number_at ks i k (omega arith) is in
    let other : nat_eq x.at at ≡ false = grind (arith, nat_tests, below, here, e) in
    held_found ks i k at (tail_rises x.at (numbers ks) rises) (omega arith) is e ∙ sym (held_first x ks at false other)

-- each name before a place has a smaller number, and each from a place on a greater one
abbrev pub AreBefore : List Known → ℕ → ℕ → Type 0
AreBefore ks low at = (i : ℕ) (k : Known) → i < low → k ≡ get_or ks i k → k.at < at

abbrev pub AreAfter : List Known → ℕ → ℕ → Type 0
AreAfter ks high at = (i : ℕ) (k : Known) → high ≤ i → i < length ks → k ≡ get_or ks i k → at < k.at

pub held_nowhere : (ks : List Known) (low high at : ℕ) → high ≤ low → AreBefore ks low at → AreAfter ks high at → None ≡ held_at ks at
held_nowhere [] low high at le before after = refl
held_nowhere (x ∷ ks) low high at le before after =
    let other : nat_eq x.at at ≡ false = grind (arith, nat_tests, apart) in
    held_nowhere ks (low - 1) (high - 1) at (omega arith) (λ i k lt is. before (suc i) k (omega arith) is) (λ i k ge lt is. after (suc i) k (omega arith) (omega arith) is) ∙ sym (held_first x ks at false other)
  where
    near_or_far : (a b : ℕ) → (a < b) ⊎ (b ≤ a)
    near_or_far a zero = inr (omega arith)
    near_or_far zero (suc b) = inl (omega arith)
    near_or_far (suc a) (suc b) = elim (near_or_far a b) [ inl lt ↦ inl (omega arith) | inr ge ↦ inr (omega arith) ]

    apart : (x.at ≡ at → ⊥)
    apart e = elim (near_or_far 0 low) [
      | inl lt ↦ (let less = before 0 x lt refl in absurd (omega (arith, less, e)))
      | inr ge ↦ (let more = after 0 x (omega arith) (omega arith) refl in absurd (omega (arith, more, e)))
    ]

-- the middle one splits them
pub before_middle : (ks : List Known) (middle at : ℕ) (one : Known) → AreInOrder ks → middle < length ks → one ≡ get_or ks middle one → one.at < at → AreBefore ks (middle + 1) at
before_middle ks middle at one rises lt is less i k i-lt k-is =
    elim (split i middle (omega arith)) [
      | inl below ↦ (let more = rising (numbers ks) i middle rises below (omega (arith, many ks)) in
          omega (arith, less, more, number_at ks i k (omega arith) k-is, number_at ks middle one lt is))
      | inr e ↦ (let same = ap (slice_index (numbers ks)) e in omega (arith, less, same, number_at ks i k (omega arith) k-is, number_at ks middle one lt is))
    ]
  where
    split : (a b : ℕ) → a ≤ b → (a < b) ⊎ (a ≡ b)
    split a b le = elim (eq-or-lt_of_le le) [ inl e ↦ inr e | inr more ↦ inl more ]

pub after_middle : (ks : List Known) (middle at : ℕ) (one : Known) → AreInOrder ks → middle < length ks → one ≡ get_or ks middle one → at < one.at → AreAfter ks middle at
after_middle ks middle at one rises lt is more i k ge i-lt k-is =
    elim (split middle i ge) [
      | inl above ↦ (let next = rising (numbers ks) middle i rises above (omega (arith, many ks)) in
          omega (arith, more, next, number_at ks i k i-lt k-is, number_at ks middle one lt is))
      | inr e ↦ (let same = ap (slice_index (numbers ks)) e in omega (arith, more, same, number_at ks i k i-lt k-is, number_at ks middle one lt is))
    ]
  where
    split : (a b : ℕ) → a ≤ b → (a < b) ⊎ (a ≡ b)
    split a b le = elim (eq-or-lt_of_le le) [ inl e ↦ inr e | inr more ↦ inl more ]
