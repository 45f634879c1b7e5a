-- The results of one path in a report.
use Rattle.std.proofs.Common.{◌≡◌, inl, inr, ℕ, zero, suc, ◌+◌, ◌-◌, ◌<◌, ◌≤◌, Bool, true, false, cond, List, [], ◌∷◌, length, take, drop, get_or, refl, sym, ap, ◌∙◌, arith, ltb, leb}
use Rattle.std.specs.Prelude.{filter, All}
use Rattle.std.specs.List.{AllWithin}
use Rattle.std.specs.declared.cmp.Ordering.{Ordering}
use Rattle.std.specs.declared.cmp.Ordering.TheVariants.{Less, Equal, Greater}
use Rattle.std.specs.List.Sorted.{IsSortedBy, IsNonDecreasingBy, IsPartitionedBy}
use Rattle.std.specs.Ordering.{is_lt, is_le, is_eq, ordering_then, ordering_index, nat_cmp}
use Rattle.std.specs.Cmp.{IsTotalOrder}
use Rattle.std.proofs.lemmas.Bool.{cases_lt}
use Rattle.std.proofs.lemmas.Cmp.{nat_list_cmp_total, nat_cmp_total, tied_itself, then_total, on_total, ranked}
use Rattle.std.proofs.lemmas.List.Kept.{IsSortedBy-filter}
use Rattle.std.proofs.lemmas.List.Elements.{filter_passes}
use Rattle.std.proofs.lemmas.List.Sorted.{searchable_from_sorted, IsPartitionedBy-ltb, IsPartitionedBy-leb, IsNonDecreasingBy-from_all_adjacent, ranks_by}
use Rattle.node_tree.specs.declared.span.Span.{Span}
use Rattle.node_tree.specs.Span.{span_cmp}
use Rattle.node_tree.proofs.Orders.{nat_order, lists_order}
use Rattle.meta_bind.specs.Bounds.{name_cmp}
use Rattle.report_form.specs.declared.report.Reported.{Reported}
use Rattle.fix_apply.specs.Order.{AreInOrder, place_cmp, is_at, is_before, is_through, Parts, results_at, begins_at}

first_orders : (a b : Ordering) → is_lt (ordering_then a b) ≡ false → is_lt a ≡ false
first_orders Less b e = e
first_orders Equal b e = refl
first_orders Greater b e = refl

by_path : (results : List Reported) → AreInOrder results → IsSortedBy (λ r s. is_lt (name_cmp r.path s.path)) results
by_path results up k d low high = first_orders _ _ (up k d low high)

path_rises : (path : List ℕ) (results : List Reported) → AreInOrder results → IsNonDecreasingBy (λ r. ordering_index (name_cmp r.path path)) results
path_rises path results up = searchable_from_sorted nat_list_cmp_total (λ (r : Reported). r.path) results path (by_path results up)

index_lt : (o : Ordering) → ltb (ordering_index o) 1 ≡ is_lt o
index_lt Less = refl
index_lt Equal = refl
index_lt Greater = refl

index_le : (o : Ordering) → leb (ordering_index o) 1 ≡ is_le o
index_le Less = refl
index_le Equal = refl
index_le Greater = refl

pub parts_before : (path : List ℕ) (results : List Reported) → AreInOrder results → IsPartitionedBy (is_before path) results
parts_before path results up i j d le lt e =
    sym (index_lt _) ∙ IsPartitionedBy-ltb (λ (r : Reported). ordering_index (name_cmp r.path path)) results 1 (path_rises path results up) i j d le lt (index_lt _ ∙ e)

pub parts_through : (path : List ℕ) (results : List Reported) → AreInOrder results → IsPartitionedBy (is_through path) results
parts_through path results up i j d le lt e =
    sym (index_le _) ∙ IsPartitionedBy-leb (λ (r : Reported). ordering_index (name_cmp r.path path)) results 1 (path_rises path results up) i j d le lt (index_le _ ∙ e)

-- ---- the results between two places are those of the path

filter_yes : {X : Type 0} (p : X → Bool) (x : X) (xs : List X) → p x ≡ true → filter p (x ∷ xs) ≡ x ∷ filter p xs
filter_yes p x xs e = ap (λ b. cond b (x ∷ filter p xs) (filter p xs)) e

filter_no : {X : Type 0} (p : X → Bool) (x : X) (xs : List X) → p x ≡ false → filter p (x ∷ xs) ≡ filter p xs
filter_no p x xs e = ap (λ b. cond b (x ∷ filter p xs) (filter p xs)) e

later_too : {X : Type 0} (P : X → Type 0) (x : X) (xs : List X) (a b : ℕ) → AllWithin P (x ∷ xs) (suc a) (suc b) → AllWithin P xs a b
later_too P x xs a b h k d ge lt = h (suc k) d (omega arith) (omega arith)

filter_none : {X : Type 0} (p : X → Bool) (xs : List X) → AllWithin (λ x. p x ≡ false) xs 0 (length xs) → filter p xs ≡ []
filter_none p [] none = refl
filter_none {X = X} p (x ∷ xs) none =
    let P : X → Type 0 = λ y. p y ≡ false in
    filter_no p x xs (none 0 x (omega arith) (omega arith)) ∙ filter_none p xs (λ k d ge lt. none (suc k) d (omega arith) (omega arith))

between : {X : Type 0} (p : X → Bool) (xs : List X) (i j : ℕ) → i ≤ j → j ≤ length xs → AllWithin (λ x. p x ≡ false) xs 0 i → AllWithin (λ x. p x ≡ true) xs i j
    → AllWithin (λ x. p x ≡ false) xs j (length xs) → take (j - i) (drop i xs) ≡ filter p xs
between p [] zero zero le within a b c = refl
between p [] zero (suc j) le within a b c = absurd (omega arith)
between p [] (suc i) j le within a b c = absurd (omega arith)
between p (x ∷ xs) zero zero le within a b c = sym (filter_none p (x ∷ xs) c)
between p (x ∷ xs) zero (suc j) le within a b c =
    let all : suc j - 0 ≡ suc j = omega arith in
    let less : j ≡ j - 0 = omega arith in
    ap (λ n. take n (x ∷ xs)) all
    ∙ ap (λ n. x ∷ take n xs) less
    ∙ ap (λ ys. x ∷ ys) (between p xs zero j (omega arith) (omega arith) (λ k d ge lt. absurd (omega arith)) (λ k d ge lt. b (suc k) d (omega arith) (omega arith)) (λ k d ge lt. c (suc k) d (omega arith) (omega arith)))
    ∙ sym (filter_yes p x xs (b 0 x (omega arith) (omega arith)))
between p (x ∷ xs) (suc i) zero le within a b c = absurd (omega arith)
between p (x ∷ xs) (suc i) (suc j) le within a b c =
    let less : suc j - suc i ≡ j - i = omega arith in
    ap (λ n. take n (drop i xs)) less
    ∙ between p xs i j (omega arith) (omega arith) (λ k d ge lt. a (suc k) d (omega arith) (omega arith)) (λ k d ge lt. b (suc k) d (omega arith) (omega arith)) (λ k d ge lt. c (suc k) d (omega arith) (omega arith))
    ∙ sym (filter_no p x xs (a 0 x (omega arith) (omega arith)))

lt_is : (o : Ordering) → is_lt o ≡ true → is_eq o ≡ false
lt_is Less e = refl
lt_is Equal e = absurd cc
lt_is Greater e = absurd cc

eq_is : (o : Ordering) → is_lt o ≡ false → is_le o ≡ true → is_eq o ≡ true
eq_is Less e f = absurd cc
eq_is Equal e f = refl
eq_is Greater e f = absurd cc

gt_is : (o : Ordering) → is_le o ≡ false → is_eq o ≡ false
gt_is Less e = absurd cc
gt_is Equal e = absurd cc
gt_is Greater e = refl

lt_le : (o : Ordering) → is_lt o ≡ true → is_le o ≡ false → ⊥
lt_le Less e f = absurd cc
lt_le Equal e f = absurd cc
lt_le Greater e f = absurd cc

-- the results of a path begin no later than they end
pub begins_first : (path : List ℕ) (results : List Reported) (i j : ℕ) → i ≤ length results → Parts (is_before path) results i → j ≤ length results → Parts (is_through path) results j → i ≤ j
begins_first path results i j i_in begins j_in ends = elim (cases_lt j i) [ inl lt ↦ absurd (apart results i_in begins ends lt) | inr le ↦ le ]
  where
    apart : (rs : List Reported) → i ≤ length rs → Parts (is_before path) rs i → Parts (is_through path) rs j → j < i → ⊥
    apart [] i_in begins ends lt = omega (arith, i_in)
    apart (r ∷ rs) i_in begins ends lt = lt_le (name_cmp (get_or (r ∷ rs) j r).path path) (begins.0 j r (omega arith) lt) (ends.1 j r (omega arith) (omega (arith, i_in)))

-- what stands between those places are the results of the path
pub are_at : (path : List ℕ) (results : List Reported) (i j : ℕ) → i ≤ length results → Parts (is_before path) results i → j ≤ length results → Parts (is_through path) results j
    → take (j - i) (drop i results) ≡ results_at path results
are_at path results i j i_in begins j_in ends =
    between (is_at path) results i j (begins_first path results i j i_in begins j_in ends) j_in
    (λ k d ge lt. lt_is (name_cmp (get_or results k d).path path) (begins.0 k d ge lt))
    (λ k d ge lt. eq_is (name_cmp (get_or results k d).path path) (begins.1 k d ge (omega (arith, j_in))) (ends.0 k d (omega arith) lt))
    (λ k d ge lt. gt_is (name_cmp (get_or results k d).path path) (ends.1 k d ge lt))

-- ---- in them the ranges begin one after the other

span_total : IsTotalOrder span_cmp
span_total = then_total (on_total (λ (s : Span). s.from) nat_cmp_total) (on_total (λ (s : Span). s.to) nat_cmp_total)

place_total : IsTotalOrder place_cmp
place_total = then_total (on_total (λ (r : Reported). r.path) nat_list_cmp_total) (on_total (λ (r : Reported). r.finding.span) span_total)

is_path : (o : Ordering) → is_eq o ≡ true → o ≡ Equal
is_path Less e = absurd cc
is_path Equal e = refl
is_path Greater e = absurd cc

same_path : (path a b : List ℕ) → is_eq (name_cmp a path) ≡ true → is_eq (name_cmp b path) ≡ true → name_cmp b a ≡ Equal
same_path path a b e f =
    let same = (lists_order nat_cmp nat_order).same in
    let a_is : a ≡ path = same a path (is_path (name_cmp a path) e) in
    let b_is : b ≡ path = same b path (is_path (name_cmp b path) f) in
    ap (λ x. name_cmp x a) b_is ∙ ap (λ x. name_cmp path x) a_is ∙ tied_itself nat_list_cmp_total path

froms_rise : (a b : Span) → is_lt (span_cmp b a) ≡ false → a.from ≤ b.from
froms_rise a b e = at (nat_cmp b.from a.from) refl e
  where
    at : (o : Ordering) → o ≡ nat_cmp b.from a.from → is_lt (ordering_then o (nat_cmp b.to a.to)) ≡ false → a.from ≤ b.from
    at Less is f = absurd cc
    at Equal is f = let h = ranked b.from a.from Equal is in omega (arith, h)
    at Greater is f = let h = ranked b.from a.from Greater is in omega (arith, h)

next_rises : (path : List ℕ) (a b : Reported) → is_at path a ≡ true → is_at path b ≡ true → is_lt (place_cmp b a) ≡ false → begins_at a ≤ begins_at b
next_rises path a b e f g =
    froms_rise a.finding.span b.finding.span (sym (ap (λ o. is_lt (ordering_then o (span_cmp b.finding.span a.finding.span))) (same_path path a.path b.path e f)) ∙ g)

pub begins_rise : (path : List ℕ) (results : List Reported) → AreInOrder results → IsNonDecreasingBy begins_at (results_at path results)
begins_rise path results up =
    let xs = results_at path results in
    let sorted = IsSortedBy-filter (λ r s. is_lt (place_cmp r s)) (ranks_by place_total (λ (r : Reported). r)) (is_at path) results up in
    let all : All (λ r. is_at path r ≡ true) xs = filter_passes (is_at path) results in
    IsNonDecreasingBy-from_all_adjacent begins_at xs
    (λ k d lt. next_rises path (get_or xs k d) (get_or xs (k + 1) d) (all k d (omega arith)) (all (k + 1) d lt) (sorted k d (omega arith) lt))
