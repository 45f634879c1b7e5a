-- A pair that is kept, by the number of its pattern.
use Rattle.std.proofs.Common.{◌≡◌, ℕ, List, [], ◌∷◌, refl, sym, ap, ◌∙◌, arith, Bool, true, false, cond, nat_eq}
use Rattle.std.specs.Prelude.{Option, None, Some, ◌&&◌, unwrap_or}
use Rattle.std.specs.declared.cmp.Ordering.{Ordering}
use Rattle.std.specs.declared.cmp.Ordering.TheVariants.{Less, Equal, Greater}
use Rattle.std.specs.Ordering.{is_eq}
use Rattle.std.specs.Cmp.{IsTotalOrder}
use Rattle.std.specs.Str.{bytes_eq}
use Rattle.std.specs.Map.{lookup}
use Rattle.std.specs.BTreeMap.{BTreeMap, get, is_at}
use Rattle.std.proofs.lemmas.Bool.Decides.{nat_tests}
use Rattle.piece_store.specs.Kept.{answer_of, by_number, put_pair}
use Rattle.piece_store.specs.Slots.{marked, turned, met_as}
use Rattle.piece_store.specs.Views.{put_there}

pub is_equal : (o : Ordering) → is_eq o ≡ true → o ≡ Equal
is_equal Less e = absurd cc
is_equal Equal e = refl
is_equal Greater e = absurd cc

module _ {K X : Type 0} (S : K → K → Ordering) (total : IsTotalOrder S) where
  -- keys that compare equal find the same
  pub same_found : (p q : K) → S p q ≡ Equal → (es : List (K × X)) → lookup (is_at (S p)) es ≡ lookup (is_at (S q)) es
  same_found p q e [] = refl
  same_found p q e (x ∷ xs) =
      ap (λ (o : Ordering). cond (is_eq o) (Some x.1) (lookup (is_at (S p)) xs)) (total.congr p q x.0 e) ∙ ap (λ (r : Option X). cond (is_eq (S q x.0)) (Some x.1) r) (same_found p q e xs)

same_number : (i j : ℕ) → nat_eq i j ≡ true → i ≡ j
same_number i j e = grind (arith, nat_tests, e)

itself_number : (i : ℕ) → nat_eq i i ≡ true
itself_number i = grind (arith, nat_tests)

-- the number of one pattern tells which patterns are equal to it
module _ {Q : Type 0} (S : Q → Q → Ordering) (total : IsTotalOrder S) (m : BTreeMap Q ℕ) (apart : (q r : Q) (i : ℕ) → get S m q ≡ Some i → get S m r ≡ Some i → S q r ≡ Equal) (pattern : Q) (i : ℕ) (found : get S m pattern ≡ Some i) where
  equal_found : (q : Q) → is_eq (S pattern q) ≡ true → get S m q ≡ Some i
  equal_found q e = sym (same_found S total pattern q (is_equal (S pattern q) e) m.entries) ∙ found

  pub number_test : (q : Q) (j : ℕ) → get S m q ≡ Some j → nat_eq i j ≡ is_eq (S pattern q)
  number_test q j has = by (nat_eq i j) (is_eq (S pattern q)) refl refl
    where
      by : (b c : Bool) → nat_eq i j ≡ b → is_eq (S pattern q) ≡ c → b ≡ c
      by true true e f = refl
      by true false e f = let eq = apart pattern q i found (has ∙ ap (λ (k : ℕ). Some k) (sym (same_number i j e))) in absurd (let c : true ≡ false = sym (ap is_eq eq) ∙ f in cc)
      by false true e f =
          let one : Some i ≡ Some j = sym (equal_found q f) ∙ has in
          let same : i ≡ j = cc in
          absurd (let c : true ≡ false = sym (itself_number i) ∙ ap (nat_eq i) same ∙ e in cc)
      by false false e f = refl

  pub no_number : (q : Q) → get S m q ≡ None → is_eq (S pattern q) ≡ false
  no_number q none = by (is_eq (S pattern q)) refl
    where
      by : (b : Bool) → is_eq (S pattern q) ≡ b → b ≡ false
      by true e = absurd (let c : Some i ≡ None = sym (equal_found q e) ∙ none in cc)
      by false e = refl

  module _ {P V : Type 0} (R : P → P → Ordering) (empty : V) (path : List ℕ) (piece : P) (x : Option (Option V × Bool)) (f : List ℕ → P → ℕ → Option (Option V × Bool)) where
    -- what is put in at a number is put in at its pattern
    pub pair_put : (o : List ℕ) (p : P) (q : Q) → by_number (λ j. answer_of empty (put_there R path piece i x f o p j)) (get S m q)
        ≡ put_pair R S path piece pattern (answer_of empty x) (λ o p q. by_number (λ j. answer_of empty (f o p j)) (get S m q)) o p q
    pair_put o p q = by (get S m q) refl
      where
        at_none : (a b c : Bool) → c ≡ false → None ≡ cond (a && (b && c)) (answer_of empty x) None
        at_none true true c e = sym (ap (λ (c : Bool). cond c (answer_of empty x) None) e)
        at_none true false c e = refl
        at_none false b c e = refl

        at_some : (a b c : Bool) (y : Option (Option V × Bool)) → answer_of empty (cond (a && (b && c)) x y) ≡ cond (a && (b && c)) (answer_of empty x) (answer_of empty y)
        at_some true true true y = refl
        at_some true true false y = refl
        at_some true false c y = refl
        at_some false b c y = refl

        by : (n : Option ℕ) → get S m q ≡ n → by_number (λ j. answer_of empty (put_there R path piece i x f o p j)) n
            ≡ cond (bytes_eq path o && (is_eq (R piece p) && is_eq (S pattern q))) (answer_of empty x) (by_number (λ j. answer_of empty (f o p j)) n)
        by None e = at_none (bytes_eq path o) (is_eq (R piece p)) (is_eq (S pattern q)) (no_number q e)
        by (Some j) e =
            at_some (bytes_eq path o) (is_eq (R piece p)) (nat_eq i j) (f o p j)
            ∙ ap (λ (c : Bool). cond (bytes_eq path o && (is_eq (R piece p) && c)) (answer_of empty x) (answer_of empty (f o p j))) (number_test q j e)

-- a new number, at which nothing is kept, changes nothing
pub number_kept : {Q X : Type 0} (S : Q → Q → Ordering) (total : IsTotalOrder S) (old new : BTreeMap Q ℕ) (pattern : Q) (i : ℕ) (f : ℕ → Option X)
    → ((q : Q) → get S new q ≡ cond (is_eq (S pattern q)) (Some i) (get S old q)) → get S old pattern ≡ None → f i ≡ None → (q : Q) → by_number f (get S new q) ≡ by_number f (get S old q)
number_kept {Q} {X} S total old new pattern i f puts absent none q = ap (by_number f) (puts q) ∙ by (is_eq (S pattern q)) refl
  where
    by : (b : Bool) → is_eq (S pattern q) ≡ b → by_number f (cond b (Some i) (get S old q)) ≡ by_number f (get S old q)
    by true e = none ∙ sym (ap (by_number f) (sym (same_found S total pattern q (is_equal (S pattern q) e) old.entries) ∙ absent))
    by false e = refl

module _ {V : Type 0} (empty : V) where
  -- marking and turning, as they are seen of what is lent
  pub met_answer : (b : Bool) (k : Option (Option V × Bool)) → answer_of empty (met_as b k) ≡ met_as b (answer_of empty k)
  met_answer b None = refl
  met_answer b (Some k) = refl

  pub turned_answer : (k : Option (Option V × Bool)) → answer_of empty (turned k) ≡ turned (answer_of empty k)
  turned_answer None = refl
  turned_answer (Some k) = by k.1
    where
      by : (b : Bool) → answer_of empty (cond b (Some (k.0, false)) None) ≡ cond b (Some (unwrap_or k.0 empty, false)) None
      by true = refl
      by false = refl

  pub turned_pair : (f : ℕ → Option (Option V × Bool)) (n : Option ℕ) → by_number (λ j. answer_of empty (turned (f j))) n ≡ turned (by_number (λ j. answer_of empty (f j)) n)
  turned_pair f None = refl
  turned_pair f (Some j) = turned_answer (f j)

  pub marked_pair : (b : Bool) (f : ℕ → Option (Option V × Bool)) (n : Option ℕ)
      → by_number (λ j. answer_of empty (cond b (marked (f j)) (f j))) n ≡ cond b (marked (by_number (λ j. answer_of empty (f j)) n)) (by_number (λ j. answer_of empty (f j)) n)
  marked_pair true f None = refl
  marked_pair true f (Some j) = met_answer true (f j)
  marked_pair false f n = refl

  pub row_put : (b : Bool) (f g : ℕ → Option (Option V × Bool)) (n : Option ℕ)
      → by_number (λ j. answer_of empty (cond b (g j) (f j))) n ≡ cond b (by_number (λ j. answer_of empty (g j)) n) (by_number (λ j. answer_of empty (f j)) n)
  row_put true f g n = refl
  row_put false f g n = refl

  pub none_pair : (n : Option ℕ) → by_number (λ (j : ℕ). answer_of empty None) n ≡ None
  none_pair None = refl
  none_pair (Some j) = refl

-- what holds of what is found by each number holds of what is found by a pattern's number
pub by_numbers : {X : Type 0} (f g : ℕ → Option X) → ((j : ℕ) → f j ≡ g j) → (n : Option ℕ) → by_number f n ≡ by_number g n
by_numbers f g e None = refl
by_numbers f g e (Some j) = e j
