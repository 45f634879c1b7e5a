-- Sets of numbers that grow.
use Rattle.std.proofs.Common.{◌≡◌, ℕ, ◌+◌, ◌<◌, Bool, true, false, cond, eqb, ltb, List, [], ◌∷◌, ◌++◌, length, take, map, get_or, nat_cmp, refl, sym, ap, ◌∙◌, arith}
use Rattle.std.specs.Prelude.{◌||◌, ◌==◌}
use Rattle.std.specs.BTreeSet.{BTreeSet, contains}
use Rattle.std.specs.List.{flat_map}
use Rattle.std.specs.Ordering.{is_eq}
use Rattle.std.specs.declared.cmp.Ordering.TheVariants.{Less, Equal, Greater}
use Rattle.std.proofs.lemmas.Bool.Decides.{nat_tests}
use Rattle.std.proofs.lemmas.List.{get_or_default}
use Rattle.std.proofs.lemmas.List.Folds.{list_any-append}
use Rattle.assignments.proofs.Loops.{all_more}
use Rattle.const_prop.specs.Views.{is_in, AddsNumbers}

or_assoc : (a b c : Bool) → (a || b) || c ≡ a || (b || c)
or_assoc true b c = refl
or_assoc false b c = refl

or_none : (a : Bool) → a ≡ a || false
or_none true = refl
or_none false = refl

or_turn : (a b : Bool) → cond a true b ≡ b || (a || false)
or_turn true true = refl
or_turn true false = refl
or_turn false true = refl
or_turn false false = refl

is_eq_nat : (x y : ℕ) → is_eq (nat_cmp x y) ≡ eqb x y
is_eq_nat x y = at (ltb x y) refl (eqb x y) refl
  where
    at : (v : Bool) → ltb x y ≡ v → (w : Bool) → eqb x y ≡ w → is_eq (cond v Less (cond w Equal Greater)) ≡ w
    at true e true f = absurd (grind (arith, nat_tests, e, f))
    at true e false f = refl
    at false e true f = refl
    at false e false f = refl

-- one number is added
pub number_added : (old new : BTreeSet ℕ) (at : ℕ) → ((q : ℕ) → contains nat_cmp new q ≡ cond (is_eq (nat_cmp at q)) true (contains nat_cmp old q)) → AddsNumbers old (at ∷ []) new
number_added old new at updates q = updates q ∙ or_turn (is_eq (nat_cmp at q)) (contains nat_cmp old q) ∙ ap (λ b. contains nat_cmp old q || (b || false)) (is_eq_nat at q)

-- no number is added
pub numbers_none : (s : BTreeSet ℕ) → AddsNumbers s [] s
numbers_none s at = or_none (contains nat_cmp s at)

-- these numbers and then those
pub numbers_app : (first mid last : BTreeSet ℕ) (a b : List ℕ) → AddsNumbers first a mid → AddsNumbers mid b last → AddsNumbers first (a ++ b) last
numbers_app first mid last a b one two at =
    let old = contains nat_cmp first at in
    two at ∙ ap (λ v. v || is_in b at) (one at) ∙ or_assoc old (is_in a at) (is_in b at) ∙ ap (λ v. old || v) (sym (list_any-append (λ n. n == at) a b))

module _ {X Y : Type 0} (f : X → Y) (F : Y → List ℕ) where
  -- the numbers of one item more
  pub numbers_more : (xs : List X) (i : ℕ) (x : X) (first mid last : BTreeSet ℕ) → i < length xs → x ≡ get_or xs i x
      → AddsNumbers first (flat_map F (map f (take i xs))) mid → AddsNumbers mid (F (f x)) last → AddsNumbers first (flat_map F (map f (take (i + 1) xs))) last
  numbers_more xs i x first mid last lt is one two at =
      let all = all_more f F xs i x (flat_map F (map f (take i xs))) (flat_map F (map f (take i xs)) ++ F (f x)) lt is refl refl in
      numbers_app first mid last (flat_map F (map f (take i xs))) (F (f x)) one two at ∙ ap (λ ns. contains nat_cmp first at || is_in ns at) all

  -- the same where items are copied
  pub numbers_copied : (xs : List X) (i : ℕ) (d : X) (first mid last : BTreeSet ℕ) → i < length xs
      → AddsNumbers first (flat_map F (map f (take i xs))) mid → AddsNumbers mid (F (f (get_or xs i d))) last → AddsNumbers first (flat_map F (map f (take (i + 1) xs))) last
  numbers_copied xs i d first mid last lt one two = numbers_more xs i (get_or xs i d) first mid last lt (get_or_default xs i d (get_or xs i d) lt) one two
