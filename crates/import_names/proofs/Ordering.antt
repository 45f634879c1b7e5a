-- What is said of one name, among what is said of all in order.
use Rattle.std.proofs.Common.{◌≡◌, inl, inr, ℕ, zero, suc, ◌-◌, ◌<◌, ◌≤◌, Bool, true, false, not, cond, List, [], ◌∷◌, length, take, drop, get_or, refl, sym, ap, ◌∙◌, arith, ltb, leb}
use Rattle.std.specs.Prelude.{filter, ◌&&◌}
use Rattle.std.specs.List.{AllWithin}
use Rattle.std.specs.Str.{bytes_eq}
use Rattle.std.specs.declared.cmp.Ordering.{Ordering}
use Rattle.std.specs.declared.cmp.Ordering.TheVariants.{Less, Equal, Greater}
use Rattle.std.specs.List.Sorted.{IsNonDecreasingBy, IsPartitionedBy, IsStableBy, ties}
use Rattle.std.specs.Cmp.{IsStrictWeakOrder}
use Rattle.std.specs.Cmp.Lexicographic.{slice_cmp}
use Rattle.std.specs.Ordering.{is_lt, is_le, is_eq, ordering_index, ordering_reverse, nat_cmp}
use Rattle.std.proofs.lemmas.Bool.{cases_lt}
use Rattle.std.proofs.lemmas.Cmp.{nat_list_cmp_total}
use Rattle.std.proofs.lemmas.List.Sorted.{searchable_from_sorted, IsPartitionedBy-ltb, IsPartitionedBy-leb, ranks_by}
use Rattle.std.proofs.lemmas.Map.Text.{is_eq-slice_cmp}
use Rattle.import_names.specs.declared.claim.Claim.{Claim}
use Rattle.import_names.specs.Claims.{plain, said_of, by_only, meaning}
use Rattle.import_names.specs.Ordered.{name_cmp, AreInOrder, is_before, is_through, Parts}

-- ---- sorted

abbrev pub lower : Claim → Claim → Bool
lower a b = is_lt (name_cmp a b)

pub lower_weak : IsStrictWeakOrder lower
lower_weak = ranks_by nat_list_cmp_total (λ (c : Claim). c.name)

tied : (o p : Ordering) → p ≡ ordering_reverse o → (not (is_lt p) && not (is_lt o)) ≡ is_eq o
tied Less p e = ap (λ x. not (is_lt x) && false) e
tied Equal p e = ap (λ x. not (is_lt x) && true) e
tied Greater p e = ap (λ x. not (is_lt x) && true) e

same_name : (name : List ℕ) (c : Claim) → ties lower (plain name) c ≡ bytes_eq c.name name
same_name name c = tied (slice_cmp nat_cmp c.name name) (slice_cmp nat_cmp name c.name) (nat_list_cmp_total.antisymm name c.name) ∙ is_eq-slice_cmp c.name name

filter_as : {X : Type 0} (p q : X → Bool) (xs : List X) → ((x : X) → p x ≡ q x) → filter p xs ≡ filter q xs
filter_as p q xs h = ap (λ f. filter f xs) (λ i x. h x i)

-- the order of what is said doesn't change what names stand for
pub same_meaning : (claims sorted : List Claim) → IsStableBy lower claims sorted → meaning sorted ≡ meaning claims
same_meaning claims sorted stable i name = by_only ((filter_as _ _ sorted (λ c. sym (same_name name c)) ∙ stable (plain name) ∙ filter_as _ _ claims (same_name name)) i)

-- ---- found

rises : (name : List ℕ) (claims : List Claim) → AreInOrder claims → IsNonDecreasingBy (λ c. ordering_index (slice_cmp nat_cmp c.name name)) claims
rises name claims up = searchable_from_sorted nat_list_cmp_total (λ (c : Claim). c.name) claims name up

index_lt : (o : Ordering) → ltb (ordering_index o) 1 ≡ is_lt o
index_lt Less = refl
index_lt Equal = refl
index_lt Greater = refl

index_le : (o : Ordering) → leb (ordering_index o) 1 ≡ is_le o
index_le Less = refl
index_le Equal = refl
index_le Greater = refl

pub parts_before : (name : List ℕ) (claims : List Claim) → AreInOrder claims → IsPartitionedBy (is_before name) claims
parts_before name claims up i j d le lt e =
    sym (index_lt _) ∙ IsPartitionedBy-ltb (λ (c : Claim). ordering_index (slice_cmp nat_cmp c.name name)) claims 1 (rises name claims up) i j d le lt (index_lt _ ∙ e)

pub parts_through : (name : List ℕ) (claims : List Claim) → AreInOrder claims → IsPartitionedBy (is_through name) claims
parts_through name claims up i j d le lt e =
    sym (index_le _) ∙ IsPartitionedBy-leb (λ (c : Claim). ordering_index (slice_cmp nat_cmp c.name name)) claims 1 (rises name claims up) i j d le lt (index_le _ ∙ e)

pub filter_yes : {X : Type 0} (p : X → Bool) (x : X) (xs : List X) → p x ≡ true → filter p (x ∷ xs) ≡ x ∷ filter p xs
filter_yes p x xs e = ap (λ b. cond b (x ∷ filter p xs) (filter p xs)) e

pub filter_no : {X : Type 0} (p : X → Bool) (x : X) (xs : List X) → p x ≡ false → filter p (x ∷ xs) ≡ filter p xs
filter_no p x xs e = ap (λ b. cond b (x ∷ filter p xs) (filter p xs)) e

filter_none : {X : Type 0} (p : X → Bool) (xs : List X) → AllWithin (λ x. p x ≡ false) xs 0 (length xs) → filter p xs ≡ []
filter_none p [] none = refl
filter_none {X = X} p (x ∷ xs) none =
    filter_no p x xs (none 0 x (omega arith) (omega arith)) ∙ filter_none p xs (λ k d ge lt. none (suc k) d (omega arith) (omega arith))

between : {X : Type 0} (p : X → Bool) (xs : List X) (i j : ℕ) → i ≤ j → j ≤ length xs → AllWithin (λ x. p x ≡ false) xs 0 i → AllWithin (λ x. p x ≡ true) xs i j
    → AllWithin (λ x. p x ≡ false) xs j (length xs) → take (j - i) (drop i xs) ≡ filter p xs
between p [] zero zero le within a b c = refl
between p [] zero (suc j) le within a b c = absurd (omega arith)
between p [] (suc i) j le within a b c = absurd (omega arith)
between p (x ∷ xs) zero zero le within a b c = sym (filter_none p (x ∷ xs) c)
between p (x ∷ xs) zero (suc j) le within a b c =
    let all : suc j - 0 ≡ suc j = omega arith in
    let less : j ≡ j - 0 = omega arith in
    ap (λ n. take n (x ∷ xs)) all
    ∙ ap (λ n. x ∷ take n xs) less
    ∙ ap (λ ys. x ∷ ys) (between p xs 0 j (omega arith) (omega arith) (λ k d ge lt. absurd (omega arith)) (λ k d ge lt. b (suc k) d (omega arith) (omega arith)) (λ k d ge lt. c (suc k) d (omega arith) (omega arith)))
    ∙ sym (filter_yes p x xs (b 0 x (omega arith) (omega arith)))
between p (x ∷ xs) (suc i) zero le within a b c = absurd (omega arith)
between p (x ∷ xs) (suc i) (suc j) le within a b c =
    let less : suc j - suc i ≡ j - i = omega arith in
    ap (λ n. take n (drop i xs)) less
    ∙ between p xs i j (omega arith) (omega arith) (λ k d ge lt. a (suc k) d (omega arith) (omega arith)) (λ k d ge lt. b (suc k) d (omega arith) (omega arith)) (λ k d ge lt. c (suc k) d (omega arith) (omega arith))
    ∙ sym (filter_no p x xs (a 0 x (omega arith) (omega arith)))

lt_is : (o : Ordering) → is_lt o ≡ true → is_eq o ≡ false
lt_is Less e = refl
lt_is Equal e = absurd cc
lt_is Greater e = absurd cc

eq_is : (o : Ordering) → is_lt o ≡ false → is_le o ≡ true → is_eq o ≡ true
eq_is Less e f = absurd cc
eq_is Equal e f = refl
eq_is Greater e f = absurd cc

gt_is : (o : Ordering) → is_le o ≡ false → is_eq o ≡ false
gt_is Less e = absurd cc
gt_is Equal e = absurd cc
gt_is Greater e = refl

lt_le : (o : Ordering) → is_lt o ≡ true → is_le o ≡ false → ⊥
lt_le Less e f = absurd cc
lt_le Equal e f = absurd cc
lt_le Greater e f = absurd cc

-- what is said of a name begins no later than it ends
pub begins_first : (name : List ℕ) (claims : List Claim) (i j : ℕ) → i ≤ length claims → Parts (is_before name) claims i → j ≤ length claims → Parts (is_through name) claims j → i ≤ j
begins_first name claims i j i_in begins j_in ends = elim (cases_lt j i) [ inl lt ↦ absurd (apart claims i_in begins ends lt) | inr le ↦ le ]
  where
    apart : (cs : List Claim) → i ≤ length cs → Parts (is_before name) cs i → Parts (is_through name) cs j → j < i → ⊥
    apart [] i_in begins ends lt = omega (arith, i_in)
    apart (c ∷ cs) i_in begins ends lt = lt_le (slice_cmp nat_cmp (get_or (c ∷ cs) j c).name name) (begins.0 j c (omega arith) lt) (ends.1 j c (omega arith) (omega (arith, i_in)))

-- what stands between those places is what is said of the name
pub are_of : (name : List ℕ) (claims : List Claim) (i j : ℕ) → i ≤ length claims → Parts (is_before name) claims i → j ≤ length claims → Parts (is_through name) claims j
    → take (j - i) (drop i claims) ≡ said_of name claims
are_of name claims i j i_in begins j_in ends =
    between (λ (c : Claim). is_eq (slice_cmp nat_cmp c.name name)) claims i j (begins_first name claims i j i_in begins j_in ends) j_in
    (λ k d ge lt. lt_is (slice_cmp nat_cmp (get_or claims k d).name name) (begins.0 k d ge lt))
    (λ k d ge lt. eq_is (slice_cmp nat_cmp (get_or claims k d).name name) (begins.1 k d ge (omega (arith, j_in))) (ends.0 k d (omega arith) lt))
    (λ k d ge lt. gt_is (slice_cmp nat_cmp (get_or claims k d).name name) (ends.1 k d ge lt))
    ∙ filter_as _ _ claims (λ c. is_eq-slice_cmp c.name name)

-- ---- what is said once

pub only_one : (claims : List Claim) (c : Claim) → length claims ≡ 1 → c ≡ get_or claims 0 c → c.parts ≡ by_only claims
only_one [] c e is = absurd (omega (arith, e))
only_one (x ∷ []) c e is = ap (λ (y : Claim). y.parts) is
only_one (x ∷ y ∷ ys) c e is = absurd (omega (arith, e))

pub not_one : (claims : List Claim) → (length claims ≡ 1 → ⊥) → [] ≡ by_only claims
not_one [] other = refl
not_one (x ∷ []) other = absurd (other refl)
not_one (x ∷ y ∷ ys) other = refl
