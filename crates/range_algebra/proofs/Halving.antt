-- Members before a range, among members in order.
use Rattle.std.proofs.Common.{◌≡◌, ◌⊎◌, inl, inr, ◌↔◌, ℕ, zero, suc, ◌+◌, ◌-◌, ◌<◌, ◌≤◌, List, [], ◌∷◌, ◌++◌, length, take, drop, get_or, Bool, true, false, refl, sym, ap, ◌∙◌, subst, arith, add-one, eq-eqb, take-append-drop}
use Rattle.std.specs.Prelude.{nat_eq, ◌&&◌}
use Rattle.member_join.specs.Joins.{same_range}
use Rattle.std.specs.declared.cmp.Ordering.{Ordering}
use Rattle.std.specs.declared.cmp.Ordering.TheVariants.{Less, Equal, Greater}
use Rattle.std.specs.Ordering.{nat_cmp, ordering_then, ordering_reverse}
use Rattle.std.proofs.lemmas.Cmp.{ranked, by_ranked}
use Rattle.std.proofs.lemmas.List.{drop_all, take_all, length-drop}
use Rattle.node_tree.specs.declared.span.Span.{Span}
use Rattle.node_tree.specs.Span.{span_cmp}
use Rattle.node_tree.proofs.Orders.{span_order}
use Rattle.meta_bind.specs.declared.bound.Bound.{Bound}
use Rattle.meta_bind.specs.Bounds.{binding_cmp}
use Rattle.meta_bind.proofs.Chains.{Follows, span_chains}
use Rattle.meta_bind.proofs.Lookups.{opened}
use Rattle.node_match.specs.Sets.{Among}
use Rattle.tree_match.specs.Ascending.{IsAscending}
use Rattle.tree_match.specs.Members.{Member, member_cmp}
use Rattle.node_match.proofs.Sets.{among_at}
use Rattle.sorted_sets.specs.Orders.{member_total}
use Rattle.sorted_sets.specs.Sizes.{Any, Each}
use Rattle.range_algebra.specs.Conditions.{IsEqualTo, IsAround}
use Rattle.range_algebra.specs.Halves.{IsBefore, IsBetween, IsFrom}
use Rattle.sorted_sets.proofs.Searches.{any_joined}
use Rattle.sorted_sets.proofs.Distinct.{below_all, after_first}

-- ---- an item above one

-- what is below a member that is before the range is before it
earlier_by : (o p q r : Ordering) → ordering_then o p ≡ Less → q ≡ Less → Follows o q r → r ≡ Less
earlier_by Less p q r e f h = let P : Ordering → Type 0 = λ x. Follows Less x r in subst P f h
earlier_by Equal p q r e f h = h ∙ f
earlier_by Greater p q r e f h = absurd (cc)

earlier : (range : Span) (a b : Member) → member_cmp a b ≡ Less → IsBefore range b → IsBefore range a
earlier range a b e f = earlier_by (span_cmp a.0 b.0) (binding_cmp a.1 b.1) (span_cmp b.0 range) (span_cmp a.0 range) e f (span_chains a.0 b.0 range)

-- what is above a member that has another range and isn't before the range has another range
later_by : (o p : Ordering) → ordering_then o p ≡ Less → (o ≡ Less → ⊥) → (o ≡ Equal → ⊥) → ⊥
later_by Less p e f g = f refl
later_by Equal p e f g = g refl
later_by Greater p e f g = cc

later : (range : Span) (a b : Member) → member_cmp a b ≡ Less → (IsBefore range a → ⊥) → (a.0 ≡ range → ⊥) → b.0 ≡ range → ⊥
later range a b e above other same =
    let P : Span → Type 0 = λ s. ordering_then (span_cmp a.0 s) (binding_cmp a.1 b.1) ≡ Less in
    later_by (span_cmp a.0 range) (binding_cmp a.1 b.1) (subst P same e) above (λ f. other (span_order.same a.0 range f))

-- ---- halves

up_to : (range : Span) (xs : List Member) (k : ℕ) (x : Member) → IsAscending member_cmp xs → k < length xs → x ≡ get_or xs k x → IsBefore range x → Each (IsBefore range) (take (suc k) xs)
up_to range [] k x up lt is before m h = absurd (omega arith)
up_to range (y ∷ ys) zero x up lt is before m (inl e) = let P : Member → Type 0 = IsBefore range in subst P (is ∙ e) before
up_to range (y ∷ ys) zero x up lt is before m (inr h) = absurd h
up_to range (y ∷ ys) (suc k) x up lt is before m (inl e) = let P : Member → Type 0 = IsBefore range in subst P e (earlier range y x (below_all member_cmp member_total y ys x up (among_at ys k x (omega arith) is)) before)
up_to range (y ∷ ys) (suc k) x up lt is before m (inr h) = up_to range ys k x (after_first member_cmp member_total y ys up) (omega arith) is before m h

from_on : (range : Span) (xs : List Member) (k : ℕ) (x : Member) → IsAscending member_cmp xs → k < length xs → x ≡ get_or xs k x → (IsBefore range x → ⊥) → Each (λ (m : Member). IsBefore range m → ⊥) (drop k xs)
from_on range [] k x up lt is none m h b = absurd (omega arith)
from_on range (y ∷ ys) zero x up lt is none m (inl e) b = let P : Member → Type 0 = IsBefore range in none (subst P (sym (is ∙ e)) b)
from_on range (y ∷ ys) zero x up lt is none m (inr h) b = let P : Member → Type 0 = IsBefore range in none (subst P (sym is) (earlier range y m (below_all member_cmp member_total y ys m up h) b))
from_on range (y ∷ ys) (suc k) x up lt is none m h b = from_on range ys k x (after_first member_cmp member_total y ys up) (omega arith) is none m h b

module _ (range : Span) (xs : List Member) (low high middle : ℕ) (x : Member) (up : IsAscending member_cmp xs) (between : IsBetween range xs low high) (le : low ≤ middle) (lt : middle < high) (is : x ≡ get_or xs middle x) where
  inside : middle < length xs
  inside = let w = between.within in omega arith

  pub upper_half : IsBefore range x → IsBetween range xs (middle + 1) high
  upper_half before = record {
    ordered = omega arith;
    within = between.within;
    before = let P : ℕ → Type 0 = λ k. Each (IsBefore range) (take k xs) in subst P (sym (add-one middle)) (up_to range xs middle x up inside is before);
    after = between.after;
  }

  pub lower_half : (IsBefore range x → ⊥) → IsBetween range xs low middle
  lower_half none = record {
    ordered = le;
    within = let i = inside in omega arith;
    before = between.before;
    after = from_on range xs middle x up inside is none;
  }

pub between_start : (range : Span) (xs : List Member) (n : ℕ) → n ≡ length xs → IsBetween range xs 0 n
between_start range xs n e = record {
  ordered = omega arith;
  within = omega arith;
  before = λ m h. absurd h;
  after = λ m h. (let P : List Member → Type 0 = λ ys. Among ys m in absurd (subst P (drop_all n xs (omega arith)) h));
}

pub between_end : (range : Span) (xs : List Member) (i j : ℕ) → IsBetween range xs i j → j ≤ i → IsBetween range xs i i
between_end range xs i j b le =
    let o = b.ordered in
    let e : j ≡ i = omega arith in
    let P : ℕ → Type 0 = λ k. IsBetween range xs i k in
    subst P e b

-- ---- what is left from there

rest_up : (n : ℕ) (xs : List Member) → IsAscending member_cmp xs → IsAscending member_cmp (drop n xs)
rest_up zero xs up = up
rest_up (suc n) [] up = tt
rest_up (suc n) (x ∷ xs) up = rest_up n xs (after_first member_cmp member_total x xs up)

-- what a slice to the end has
pub rest_whole : (xs : List Member) (i : ℕ) → take (length xs - i) (drop i xs) ≡ drop i xs
rest_whole xs i = take_all (length xs - i) (drop i xs) (omega (arith, length-drop i xs))

pub rest_from : (range : Span) (xs rest : List Member) (i : ℕ) → rest ≡ drop i xs → IsAscending member_cmp xs → IsBetween range xs i i → IsFrom range rest
rest_from range xs rest i e up b = let P : List Member → Type 0 = IsFrom range in subst P (sym e) (record { ordered = rest_up i xs up; after = b.after })

-- no member before the range has it
not_before : (range : Span) (m : Member) → IsBefore range m → m.0 ≡ range → ⊥
not_before range m e same = (let f : span_cmp range range ≡ Less = (let P : Span → Type 0 = λ s. span_cmp s range ≡ Less in subst P same e) in at (span_cmp range range) (span_order.flip range range) f)
  where
    at : (o : Ordering) → o ≡ ordering_reverse o → o ≡ Less → ⊥
    at Less e f = cc
    at Equal e f = cc
    at Greater e f = cc

pub equal_from : (range : Span) (trail : List Bound) (xs rest : List Member) (i : ℕ) → rest ≡ drop i xs → IsBetween range xs i i → Any (IsEqualTo range trail) rest ↔ Any (IsEqualTo range trail) xs
equal_from range trail xs rest i e b =
    let P : List Member → Type 0 = λ ys. Any (IsEqualTo range trail) ys ↔ Any (IsEqualTo range trail) xs in
    let Q : List Member → Type 0 = Any (IsEqualTo range trail) in
    let split = any_joined (IsEqualTo range trail) (take i xs) (drop i xs) in
    subst P (sym e) (λ a. subst Q (take-append-drop i xs) (split.1 (inr a)), λ a. late (split.0 (subst Q (sym (take-append-drop i xs)) a)))
  where
    late : Any (IsEqualTo range trail) (take i xs) ⊎ Any (IsEqualTo range trail) (drop i xs) → Any (IsEqualTo range trail) (drop i xs)
    late (inl h) = absurd (not_before range h.0 (b.before h.0 h.1) h.2.0)
    late (inr h) = h

-- after a member with another range none has the range
pub none_after : (range : Span) (trail : List Bound) (xs : List Member) (i : ℕ) (x : Member) → IsFrom range xs → i < length xs → x ≡ get_or xs i x → (x.0 ≡ range → ⊥) → Any (IsEqualTo range trail) (drop i xs) → ⊥
none_after range trail xs i x from lt is other a = at (rest_up i xs from.ordered) a
  where
    at : IsAscending member_cmp (drop i xs) → Any (IsEqualTo range trail) (drop i xs) → ⊥
    at up h =
        let P : List Member → Type 0 = IsAscending member_cmp in
        let Q : List Member → Type 0 = Any (IsEqualTo range trail) in
        let e = opened xs i x lt is in
        go (subst P e up) (subst Q e h)
      where
        go : IsAscending member_cmp (x ∷ drop (i + 1) xs) → Any (IsEqualTo range trail) (x ∷ drop (i + 1) xs) → ⊥
        go up (m, inl e, (same, agree)) = other (ap (λ (y : Member). y.0) e ∙ same)
        go up (m, inr h, (same, agree)) = later range x m (below_all member_cmp member_total x (drop (i + 1) xs) m up h) (from.after x (among_at xs i x lt is)) other same

-- ranges that the test tells apart
pub other_range : (a b : Span) → same_range a b ≡ false → a ≡ b → ⊥
other_range a b e same =
    let f = eq-eqb a.from b.from (ap (λ (s : Span). s.from) same) in
    let g = eq-eqb a.to b.to (ap (λ (s : Span). s.to) same) in
    both (nat_eq a.from b.from) (nat_eq a.to b.to) f g e
  where
    both : (p q : Bool) → p ≡ true → q ≡ true → p && q ≡ false → ⊥
    both true true f g h = cc
    both true false f g h = cc
    both false q f g h = cc

-- ---- members that begin after a range

begins : (a b : Member) → member_cmp a b ≡ Less → a.0.from ≤ b.0.from
begins a b e =
    by_ranked (a.0.from < b.0.from) (a.0.from ≡ b.0.from) (b.0.from < a.0.from) (nat_cmp a.0.from b.0.from) (ranked a.0.from b.0.from (nat_cmp a.0.from b.0.from) refl) (λ o lt. omega arith) (λ o same. omega arith)
    (λ o gt. (let P : Ordering → Type 0 = λ w. ordering_then (ordering_then w (nat_cmp a.0.to b.0.to)) (binding_cmp a.1 b.1) ≡ Less in let f = subst P o e in cc))

-- after a member that begins after the range none is around it
pub none_around : (range : Span) (trail : List Bound) (xs : List Member) (i : ℕ) (x : Member) → IsAscending member_cmp xs → i < length xs → x ≡ get_or xs i x → range.from < x.0.from → Any (IsAround range trail) (drop i xs) → ⊥
none_around range trail xs i x up lt is past a =
    let P : List Member → Type 0 = IsAscending member_cmp in
    let Q : List Member → Type 0 = Any (IsAround range trail) in
    let e = opened xs i x lt is in
    go (subst P e (rest_up i xs up)) (subst Q e a)
  where
    go : IsAscending member_cmp (x ∷ drop (i + 1) xs) → Any (IsAround range trail) (x ∷ drop (i + 1) xs) → ⊥
    go above (m, inl e, (within, agree)) = (let w = within.1 in let f = ap (λ (y : Member). y.0.from) e in omega arith)
    go above (m, inr h, (within, agree)) = (let w = within.1 in let f = begins x m (below_all member_cmp member_total x (drop (i + 1) xs) m above h) in omega arith)
