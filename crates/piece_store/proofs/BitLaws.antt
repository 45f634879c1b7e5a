-- Sets of numbers, 64 in a word.
use Rattle.std.proofs.Common.{◌≡◌, ◌≢◌, ◌⊎◌, inl, inr, ℕ, ◌+◌, ◌*◌, ◌/◌, ◌%◌, ◌^◌, ◌<◌, ◌≤◌, List, length, take, ◌++◌, get_or, set, min, refl, sym, ◌∙◌, ap, subst, arith, Bool, true, false, cond, nat_eq, bit_and, bit_or, get_or-set_same, get_or-set_other, length-set}
use Rattle.std.specs.Prelude.{◌&&◌}
use Rattle.std.specs.Int.{bit_at, w64}
use Rattle.std.proofs.lemmas.Bool.{cases_eq}
use Rattle.std.proofs.lemmas.List.{get_or_past, take-append-le, take_all}
use Rattle.std.proofs.lemmas.Bool.Decides.{nat_tests}
use Rattle.std.proofs.lemmas.Nat.Bits.{bit_at_and, bit_at_set_same, bit_at_set_other, bit_at-zero, bit_at-lt}
use Rattle.piece_store.specs.declared.words.Word.{Word}
use Rattle.piece_store.specs.Bits.{no_word, word_at, has_bit, has_kept, turned_word, met_word}

equal_test : (i j : ℕ) → i ≡ j → nat_eq i j ≡ true
equal_test i j e = grind (arith, nat_tests, e)

other_test : (i j : ℕ) → i ≢ j → nat_eq i j ≡ false
other_test i j ne = grind (arith, nat_tests, ne)

-- a word is written at the place of a number; f is what is read of a word
module _ (s : List Word) (at : ℕ) (room : at / 64 < length s) (w : Word) (read : w ≡ get_or s (at / 64) no_word) (f : Word → ℕ) (v : Word) where
  here : (i : ℕ) → i / 64 ≡ at / 64 → word_at (set s (at / 64) v) i ≡ v
  here i e = let P : ℕ → Type 0 = λ k. get_or (set s (at / 64) v) k no_word ≡ v in subst P (sym e) (get_or-set_same s (at / 64) v no_word room)

  there : (i : ℕ) → i / 64 ≢ at / 64 → word_at (set s (at / 64) v) i ≡ word_at s i
  there i ne = get_or-set_other s (at / 64) (i / 64) v no_word ne

  was : (i : ℕ) → i / 64 ≡ at / 64 → w ≡ word_at s i
  was i e = read ∙ ap (λ (k : ℕ). get_or s k no_word) (sym e)

  -- with the bit of the number set
  pub bit_put : f v ≡ bit_or (f w) (1 * 2 ^ (at % 64) % 2 ^ 64) → (i : ℕ) → has_bit (f (word_at (set s (at / 64) v) i)) i ≡ cond (nat_eq at i) true (has_bit (f (word_at s i)) i)
  bit_put is i = elim (cases_eq (i / 64) (at / 64)) [
    | inl e ↦ elim (cases_eq (i % 64) (at % 64)) [
      | inl e2 ↦
          let same : at ≡ i = omega arith in
          let set_bit : bit_at (f v) (i % 64) ≡ 1 = ap (λ (x : ℕ). bit_at x (i % 64)) is ∙ ap (bit_at (bit_or (f w) (1 * 2 ^ (at % 64) % 2 ^ 64))) e2 ∙ bit_at_set_same w64 (f w) (at % 64) (omega arith) in
          ap (λ (x : Word). has_bit (f x) i) (here i e) ∙ ap (λ (b : ℕ). nat_eq b 1) set_bit ∙ sym (ap (λ (b : Bool). cond b true (has_bit (f (word_at s i)) i)) (equal_test at i same))
      | inr ne ↦
          let other : at ≢ i = λ same. ne (ap (λ (k : ℕ). k % 64) (sym same)) in
          let left : bit_at (f v) (i % 64) ≡ bit_at (f w) (i % 64) = ap (λ (x : ℕ). bit_at x (i % 64)) is ∙ bit_at_set_other w64 (f w) (at % 64) (omega arith) (i % 64) ne in
          ap (λ (x : Word). has_bit (f x) i) (here i e) ∙ ap (λ (b : ℕ). nat_eq b 1) left ∙ ap (λ (x : Word). has_bit (f x) i) (was i e) ∙ sym (ap (λ (b : Bool). cond b true (has_bit (f (word_at s i)) i)) (other_test at i other))
    ]
    | inr ne ↦
        let other : at ≢ i = λ same. ne (ap (λ (k : ℕ). k / 64) (sym same)) in
        ap (λ (x : Word). has_bit (f x) i) (there i ne) ∙ sym (ap (λ (b : Bool). cond b true (has_bit (f (word_at s i)) i)) (other_test at i other))
  ]

  -- with its bits as they were
  pub bit_same : f v ≡ f w → (i : ℕ) → has_bit (f (word_at (set s (at / 64) v) i)) i ≡ has_bit (f (word_at s i)) i
  bit_same is i = elim (cases_eq (i / 64) (at / 64)) [
    | inl e ↦ ap (λ (x : Word). has_bit (f x) i) (here i e) ∙ ap (λ (x : ℕ). has_bit x i) is ∙ ap (λ (x : Word). has_bit (f x) i) (was i e)
    | inr ne ↦ ap (λ (x : Word). has_bit (f x) i) (there i ne)
  ]

-- the bits that two words share
pub bits_shared : (a b i : ℕ) → has_bit (bit_and a b) i ≡ has_bit a i && has_bit b i
bits_shared a b i = ap (λ (x : ℕ). nat_eq x 1) (bit_at_and a b (i % 64)) ∙ least (bit_at a (i % 64)) (bit_at b (i % 64)) (bit_at-lt a (i % 64)) (bit_at-lt b (i % 64))
  where
    least : (x y : ℕ) → x < 2 → y < 2 → nat_eq (min x y) 1 ≡ nat_eq x 1 && nat_eq y 1
    least x y lx ly = elim (cases_eq x 1) [
      | inl e ↦ elim (cases_eq y 1) [
        | inl f ↦ equal_test (min x y) 1 (omega arith) ∙ sym (ap (λ (b : Bool). b && nat_eq y 1) (equal_test x 1 e) ∙ equal_test y 1 f)
        | inr f ↦ other_test (min x y) 1 (λ h. f (omega arith)) ∙ sym (ap (λ (b : Bool). b && nat_eq y 1) (equal_test x 1 e) ∙ other_test y 1 f)
      ]
      | inr e ↦ other_test (min x y) 1 (λ h. e (omega arith)) ∙ sym (ap (λ (b : Bool). b && nat_eq y 1) (other_test x 1 e))
    ]

pub no_bits : (i : ℕ) → has_bit 0 i ≡ false
no_bits i = ap (λ (x : ℕ). nat_eq x 1) (bit_at-zero (i % 64))

-- a turn, and all that is kept as met or not, word by word
pub turned_kept : (w : Word) (i : ℕ) → has_bit (turned_word w).kept i ≡ has_bit w.kept i && has_bit w.met i
turned_kept w i = bits_shared w.kept w.met i

pub met_met : (met : Bool) (w : Word) (i : ℕ) → has_bit (met_word met w).met i ≡ met && has_bit w.kept i
met_met true w i = refl
met_met false w i = no_bits i

below_or : (i n : ℕ) → (i < n) ⊎ (n ≤ i)
below_or i n = elim (cases_eq (min (i + 1) n) (i + 1)) [ inl e ↦ inl (omega arith) | inr ne ↦ inr (omega arith) ]

-- where no word keeps anything, nothing is kept
pub none_kept : (s : List Word) → ((k : ℕ) → k < length s → (get_or s k no_word).kept ≡ 0) → (i : ℕ) → has_kept s i ≡ false
none_kept s none i = elim (below_or (i / 64) (length s)) [
  | inl lt ↦ ap (λ (x : ℕ). has_bit x i) (none (i / 64) lt) ∙ no_bits i
  | inr ge ↦ ap (λ (w : Word). has_bit w.kept i) (get_or_past s (i / 64) no_word ge) ∙ no_bits i
]

-- words that were changed one by one, the first of them up to a place
pub record Changed (f : Word → Word) (done : ℕ) (old new : List Word) : Type 0 where
  pub many : length new ≡ length old
  pub below : (k : ℕ) → k < done → get_or new k no_word ≡ f (get_or old k no_word)
  pub above : (k : ℕ) → done ≤ k → get_or new k no_word ≡ get_or old k no_word

module _ (f : Word → Word) (old : List Word) where
  pub changed_none : Changed f 0 old old
  changed_none = record { many = refl; below = λ k lt. absurd (omega arith); above = λ k le. refl }

  pub changed_more : (i : ℕ) (new : List Word) (v : Word) → Changed f i old new → i < length new → v ≡ f (get_or new i no_word) → Changed f (i + 1) old (set new i v)
  changed_more i new v c lt is = record {
    many = length-set new i v ∙ c.many;
    below = λ k h. elim (cases_eq k i) [
      | inl e ↦
          let P : ℕ → Type 0 = λ k. get_or (set new i v) k no_word ≡ f (get_or old k no_word) in
          subst P (sym e) (get_or-set_same new i v no_word lt ∙ is ∙ ap f (c.above i (omega arith)))
      | inr ne ↦ get_or-set_other new i k v no_word ne ∙ c.below k (omega arith)
    ];
    above = λ k le. get_or-set_other new i k v no_word (λ e. absurd (omega arith)) ∙ c.above k (omega arith);
  }

  -- all of them were changed
  pub all_changed : f no_word ≡ no_word → (i : ℕ) (new : List Word) → Changed f i old new → length new ≤ i → (k : ℕ) → word_at new k ≡ f (word_at old k)
  all_changed blank i new c le k = elim (below_or (k / 64) i) [
    | inl lt ↦ c.below (k / 64) lt
    | inr ge ↦ get_or_past new (k / 64) no_word (omega arith) ∙ sym (ap f (get_or_past old (k / 64) no_word (omega (arith, c.many))) ∙ blank)
  ]

pub blank : (met : Bool) → met_word met no_word ≡ no_word
blank true = refl
blank false = refl

-- a vector whose items were written back
pub front_of : (ws ys : List Word) (n : ℕ) → n ≡ length ws → take n (ws ++ ys) ≡ ws
front_of ws ys n e = take-append-le n ws ys (omega arith) ∙ take_all n ws (omega arith)
