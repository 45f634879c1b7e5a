-- Spans in order.
use Rattle.std.proofs.Common.{◌≡◌, ◌↔◌, inl, inr, ℕ, zero, suc, ◌-◌, ◌<◌, ◌≤◌, Bool, true, false, ltb, leb, List, [], ◌∷◌, length, map, take, drop, get_or, refl, sym, ap, ◌∙◌, subst, arith, add-one}
use Rattle.std.specs.declared.cmp.Ordering.{Ordering}
use Rattle.std.specs.declared.cmp.Ordering.TheVariants.{Less, Equal, Greater}
use Rattle.std.specs.Cmp.{IsTotalOrder}
use Rattle.std.specs.List.Sorted.{IsSorted, IsNonDecreasingBy, IsPartitionedBy, IsPartitionPoint}
use Rattle.std.specs.Ordering.{is_lt, is_le, ordering_index, ordering_reverse, ordering_then}
use Rattle.std.proofs.lemmas.Bool.{cases_lt}
use Rattle.std.proofs.lemmas.Cmp.{nat_cmp_total, tied_itself, then_total, on_total}
use Rattle.std.proofs.lemmas.List.Sorted.{searchable_from_sorted, IsPartitionedBy-ltb, IsPartitionedBy-leb}
use Rattle.node_tree.specs.declared.span.Span.{Span}
use Rattle.node_tree.specs.Span.{span_cmp}
use Rattle.node_tree.proofs.Orders.{span_order}
use Rattle.graph_form.specs.Sets.{Among}
use Rattle.graph_form.proofs.Amongs.{among_place}
use Rattle.meta_bind.specs.Bounds.{binding_cmp}
use Rattle.tree_match.specs.Ascending.{IsAscending}
use Rattle.tree_match.specs.Members.{Member, member_cmp}
use Rattle.member_join.specs.Choices.{range_of}
use Rattle.taint_tables.proofs.Halving.{EndsBefore, EndsThrough, before, through, in_order, part_is}
use Rattle.taint_trace.specs.declared.standing.Standing.{Standing}
use Rattle.taint_trace.specs.Standings.{AreInOrder, side_of}

span_total : IsTotalOrder span_cmp
span_total = then_total (on_total (λ (s : Span). s.from) nat_cmp_total) (on_total (λ (s : Span). s.to) nat_cmp_total)

-- ---- the ranges of members in order

not_less : (a b c : Ordering) → b ≡ ordering_reverse a → ordering_then a c ≡ Less → is_lt b ≡ false
not_less Less b c e f = ap is_lt e
not_less Equal b c e f = ap is_lt e
not_less Greater b c e f = absurd cc

ranges_rise : (ms : List Member) → IsAscending member_cmp ms → (k : ℕ) (d : Span) → suc k < length (map range_of ms) → is_lt (span_cmp (get_or (map range_of ms) (suc k) d) (get_or (map range_of ms) k d)) ≡ false
ranges_rise [] up k d lt = absurd (omega (arith, lt))
ranges_rise (x ∷ []) up k d lt = absurd (omega (arith, lt))
ranges_rise (x ∷ y ∷ ys) up zero d lt = not_less (span_cmp x.0 y.0) (span_cmp y.0 x.0) (binding_cmp x.1 y.1) (span_total.antisymm y.0 x.0) up.0
ranges_rise (x ∷ y ∷ ys) up (suc k) d lt = ranges_rise (y ∷ ys) up.1 k d (omega (arith, lt))

pub ranges_sorted : (ms : List Member) → IsAscending member_cmp ms → IsSorted span_cmp (map range_of ms)
ranges_sorted ms up k d low high =
    let Rises : ℕ → Type 0 = λ n. is_lt (span_cmp (get_or (map range_of ms) n d) (get_or (map range_of ms) k d)) ≡ false in
    subst Rises (sym (add-one k)) (ranges_rise ms up k d (omega (arith, high)))

-- what a search doesn't find isn't there
pub not_among : (xs : List Span) (x : Span) (i : ℕ) → IsSorted span_cmp xs → (IsNonDecreasingBy (λ y. ordering_index (span_cmp y x)) xs → IsPartitionPoint (λ y. span_cmp y x ≡ Less) (λ y. span_cmp y x ≡ Greater) xs i) → Among xs x → ⊥
not_among xs x i up point among =
    let parts = point (searchable_from_sorted span_total (λ (s : Span). s) xs x up) in
    let (k, lt, e) = among_place x xs x among in
    let tied : span_cmp (get_or xs k x) x ≡ Equal = ap (λ y. span_cmp y x) e ∙ tied_itself span_total x in
    elim (cases_lt k i) [
      | inl less ↦ (let before : span_cmp (get_or xs k x) x ≡ Less = parts.0 k x (omega arith) less in let never : Less ≡ Equal = sym before ∙ tied in absurd cc)
      | inr more ↦ (let behind : span_cmp (get_or xs k x) x ≡ Greater = parts.1 k x more lt in let never : Greater ≡ Equal = sym behind ∙ tied in absurd cc)
    ]

-- ---- those of one span among others

lt_is : (o : Ordering) → is_lt o ≡ ltb (ordering_index o) 1
lt_is Less = refl
lt_is Equal = refl
lt_is Greater = refl

le_is : (o : Ordering) → is_le o ≡ leb (ordering_index o) 1
le_is Less = refl
le_is Equal = refl
le_is Greater = refl

one_is : (o : Ordering) → ordering_index o ≡ 1 → o ≡ Equal
one_is Less e = absurd (omega (arith, e))
one_is Equal e = refl
one_is Greater e = absurd (omega (arith, e))

module _ (span : Span) (xs : List Standing) where
  abbrev pub comes_before : Standing → Bool
  comes_before s = is_lt (span_cmp s.span span)

  abbrev pub comes_until : Standing → Bool
  comes_until s = is_le (span_cmp s.span span)

  before_is : comes_before ≡ (λ s. ltb (side_of span s) 1)
  before_is = λ i s. lt_is (span_cmp s.span span) i

  until_is : comes_until ≡ (λ s. leb (side_of span s) 1)
  until_is = λ i s. le_is (span_cmp s.span span) i

  abbrev Parted : (Standing → Bool) → Type 0
  Parted p = IsPartitionedBy p xs

  abbrev Ends : ℕ → (Standing → Bool) → Type 0
  Ends i p = IsPartitionPoint (λ s. p s ≡ true) (λ s. p s ≡ false) xs i

  sides_rise : AreInOrder xs → IsNonDecreasingBy (side_of span) xs
  sides_rise up = searchable_from_sorted span_total (λ (s : Standing). s.span) xs span up

  pub parted_before : AreInOrder xs → IsPartitionedBy comes_before xs
  parted_before up = subst Parted (sym before_is) (IsPartitionedBy-ltb (side_of span) xs 1 (sides_rise up))

  pub parted_until : AreInOrder xs → IsPartitionedBy comes_until xs
  parted_until up = subst Parted (sym until_is) (IsPartitionedBy-leb (side_of span) xs 1 (sides_rise up))

  pub ends_before : (i : ℕ) → IsPartitionPoint (λ s. comes_before s ≡ true) (λ s. comes_before s ≡ false) xs i → EndsBefore (side_of span) xs 1 i
  ends_before i point = before (side_of span) xs 1 i (subst (Ends i) before_is point)

  pub ends_through : (i : ℕ) → IsPartitionPoint (λ s. comes_until s ≡ true) (λ s. comes_until s ≡ false) xs i → EndsThrough (side_of span) xs 1 i
  ends_through i point = through (side_of span) xs 1 i (subst (Ends i) until_is point)

  pub ends_ordered : (i j : ℕ) → i ≤ length xs → j ≤ length xs → EndsBefore (side_of span) xs 1 i → EndsThrough (side_of span) xs 1 j → i ≤ j
  ends_ordered i j i_in j_in first last = in_order (side_of span) xs 1 i j i_in j_in first last

  -- those between the two places are those of the span
  pub with_span : (i j : ℕ) → i ≤ length xs → j ≤ length xs → EndsBefore (side_of span) xs 1 i → EndsThrough (side_of span) xs 1 j → (s : Standing) → Among (take (j - i) (drop i xs)) s ↔ (Among xs s × (s.span ≡ span))
  with_span i j i_in j_in first last s =
      let part = part_is (side_of span) xs 1 i j i_in j_in first last s in (
        λ h. (let (among, one) = part.0 h in (among, span_order.same s.span span (one_is (span_cmp s.span span) one))),
        λ (among, same). part.1 (among, ap (λ (x : Span). ordering_index (span_cmp x span)) same ∙ ap ordering_index (tied_itself span_total span)),
      )
