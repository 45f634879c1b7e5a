-- The order of places, and a search for a place along members in order.
use Rattle.std.proofs.Common.{◌≡◌, ◌⊎◌, inl, inr, ℕ, zero, suc, ◌+◌, ◌<◌, ◌≤◌, List, [], ◌∷◌, length, drop, get_or, refl, sym, ap, ◌∙◌, subst, true, false, arith}
use Rattle.std.specs.declared.cmp.Ordering.{Ordering}
use Rattle.std.specs.declared.cmp.Ordering.TheVariants.{Less, Equal, Greater}
use Rattle.std.specs.Ordering.{ordering_then, ordering_reverse, nat_cmp, is_lt, is_eq}
use Rattle.std.specs.Cmp.Lexicographic.{slice_cmp}
use Rattle.std.specs.List.{AllWithin}
use Rattle.std.specs.List.Sorted.{IsPartitionedBy, IsPartitionPoint}
use Rattle.std.proofs.lemmas.List.{drop_all}
use Rattle.node_tree.specs.Span.{span_cmp}
use Rattle.node_tree.proofs.Orders.{nat_order, lists_order, span_order, then_flip}
use Rattle.meta_bind.specs.declared.bound.Bound.{Bound}
use Rattle.meta_bind.specs.Bounds.{name_cmp, place_cmp as bound_cmp, contents_cmp}
use Rattle.meta_bind.proofs.Chains.{Follows, Chains, then_follows, nat_chains, lists_chain, span_chains}
use Rattle.meta_bind.proofs.Lookups.{opened}
use Rattle.node_match.specs.Sets.{Among}
use Rattle.node_match.proofs.Sets.{among_at}
use Rattle.tree_match.specs.Ascending.{IsAscending}
use Rattle.tree_match.specs.Members.{Member, member_cmp}
use Rattle.sorted_sets.specs.Orders.{member_total}
use Rattle.sorted_sets.proofs.Distinct.{below_all, after_first}
use Rattle.place_join.specs.Joined.{place_cmp, SamePlace, NoneAt, IsLeastAt}

bound_flip : (b c : Bound) → bound_cmp b c ≡ ordering_reverse (bound_cmp c b)
bound_flip b c = then_flip _ _ (slice_cmp nat_cmp c.name b.name) (span_cmp c.span b.span) ((lists_order nat_cmp nat_order).flip b.name c.name) (span_order.flip b.span c.span)

bounds_flip : (bs cs : List Bound) → slice_cmp bound_cmp bs cs ≡ ordering_reverse (slice_cmp bound_cmp cs bs)
bounds_flip [] [] = refl
bounds_flip [] (c ∷ cs) = refl
bounds_flip (b ∷ bs) [] = refl
bounds_flip (b ∷ bs) (c ∷ cs) = then_flip (bound_cmp b c) (slice_cmp bound_cmp bs cs) (bound_cmp c b) (slice_cmp bound_cmp cs bs) (bound_flip b c) (bounds_flip bs cs)

place_flip : (a b : Member) → place_cmp a b ≡ ordering_reverse (place_cmp b a)
place_flip a b = then_flip _ _ (span_cmp b.0 a.0) (slice_cmp bound_cmp b.1 a.1) (span_order.flip a.0 b.0) (bounds_flip a.1 b.1)

bound_chains : Chains bound_cmp
bound_chains b c d =
    then_follows (name_cmp b.name c.name) (name_cmp c.name d.name) (name_cmp b.name d.name) (span_cmp b.span c.span) (span_cmp c.span d.span) (span_cmp b.span d.span)
    (lists_chain nat_cmp nat_chains b.name c.name d.name) (span_chains b.span c.span d.span)

place_chains : Chains place_cmp
place_chains a b c =
    then_follows (span_cmp a.0 b.0) (span_cmp b.0 c.0) (span_cmp a.0 c.0) (slice_cmp bound_cmp a.1 b.1) (slice_cmp bound_cmp b.1 c.1) (slice_cmp bound_cmp a.1 c.1)
    (span_chains a.0 b.0 c.0) (lists_chain bound_cmp bound_chains a.1 b.1 c.1)

pub same_flip : (a b : Member) → SamePlace a b → SamePlace b a
same_flip a b e = place_flip b a ∙ ap ordering_reverse e

pub same_itself : (a : Member) → SamePlace a a
same_itself a = at (place_cmp a a) (place_flip a a)
  where
    at : (o : Ordering) → o ≡ ordering_reverse o → o ≡ Equal
    at Less e = absurd cc
    at Equal e = refl
    at Greater e = absurd cc

-- members at one place compare alike
pub same_then : (a b c : Member) → SamePlace a b → place_cmp a c ≡ place_cmp b c
same_then a b c e = let P : Ordering → Type 0 = λ o. Follows o (place_cmp b c) (place_cmp a c) in subst P e (place_chains a b c)

less_then : (a b c : Member) → place_cmp a b ≡ Less → place_cmp b c ≡ Less → place_cmp a c ≡ Less
less_then a b c e f =
    let P : Ordering → Type 0 = λ o. Follows o (place_cmp b c) (place_cmp a c) in
    let Q : Ordering → Type 0 = λ o. Follows Less o (place_cmp a c) in
    subst Q f (subst P e (place_chains a b c))

less_same : (a b c : Member) → place_cmp a b ≡ Less → SamePlace b c → place_cmp a c ≡ Less
less_same a b c e f =
    let P : Ordering → Type 0 = λ o. Follows o (place_cmp b c) (place_cmp a c) in
    let Q : Ordering → Type 0 = λ o. Follows Less o (place_cmp a c) in
    subst Q f (subst P e (place_chains a b c))

-- ---- members in order stand in order of place

regrouped : (a b c : Ordering) → ordering_then a (ordering_then b c) ≡ ordering_then (ordering_then a b) c
regrouped Less b c = refl
regrouped Equal b c = refl
regrouped Greater b c = refl

first_of : (o x : Ordering) → ordering_then o x ≡ Less → (o ≡ Less) ⊎ (o ≡ Equal)
first_of Less x e = inl refl
first_of Equal x e = inr refl
first_of Greater x e = absurd cc

up_place : (a b : Member) → member_cmp a b ≡ Less → (place_cmp a b ≡ Less) ⊎ (place_cmp a b ≡ Equal)
up_place a b e = first_of (place_cmp a b) (slice_cmp contents_cmp a.1 b.1) (sym (regrouped (span_cmp a.0 b.0) (slice_cmp bound_cmp a.1 b.1) (slice_cmp contents_cmp a.1 b.1)) ∙ e)

is_less : (o : Ordering) → is_lt o ≡ true → o ≡ Less
is_less Less e = refl
is_less Equal e = absurd cc
is_less Greater e = absurd cc

is_equal : (o : Ordering) → is_eq o ≡ true → o ≡ Equal
is_equal Less e = absurd cc
is_equal Equal e = refl
is_equal Greater e = absurd cc

among_or : (xs : List Member) (j : ℕ) (d : Member) → j < length xs → Among xs (get_or xs j d)
among_or [] j d lt = absurd (omega arith)
among_or (x ∷ xs) zero d lt = inl refl
among_or (x ∷ xs) (suc j) d lt = inr (among_or xs j d (omega arith))

-- what is above a member before that place stands before it too
above : (a b one : Member) → member_cmp a b ≡ Less → is_lt (place_cmp b one) ≡ true → is_lt (place_cmp a one) ≡ true
above a b one less e = elim (up_place a b less) [
  | inl l ↦ ap is_lt (less_then a b one l (is_less _ e))
  | inr s ↦ ap is_lt (same_then a b one s) ∙ e
]

pub parted : (one : Member) (xs : List Member) → IsAscending member_cmp xs → IsPartitionedBy (λ m. is_lt (place_cmp m one)) xs
parted one [] up i j d le lt e = absurd (omega arith)
parted one (x ∷ xs) up zero zero d le lt e = e
parted one (x ∷ xs) up zero (suc j) d le lt e = above x (get_or xs j d) one (below_all member_cmp member_total x xs (get_or xs j d) up (among_or xs j d (omega arith))) e
parted one (x ∷ xs) up (suc i) zero d le lt e = absurd (omega arith)
parted one (x ∷ xs) up (suc i) (suc j) d le lt e = parted one xs (after_first member_cmp member_total x xs up) i j d (omega arith) (omega arith) e

-- ---- the first that doesn't stand before the place

find : (P : Member → Type 0) (xs : List Member) (at : ℕ) (p : Member) → Among xs p → AllWithin P xs 0 at → P p ⊎ Among (drop at xs) p
find P [] at p h a = absurd h
find P (x ∷ xs) zero p h a = inr h
find P (x ∷ xs) (suc at) p (inl e) a = inl (subst P e (a 0 x (omega arith) (omega arith)))
find P (x ∷ xs) (suc at) p (inr h) a = find P xs at p h (λ k d low high. a (suc k) d (omega arith) (omega arith))

up_drop : (xs : List Member) (i : ℕ) → IsAscending member_cmp xs → IsAscending member_cmp (drop i xs)
up_drop xs zero up = up
up_drop [] (suc i) up = tt
up_drop (x ∷ xs) (suc i) up = up_drop xs i (after_first member_cmp member_total x xs up)

not_before : (p one : Member) → SamePlace p one → is_lt (place_cmp p one) ≡ true → ⊥
not_before p one same e = let f : Equal ≡ Less = sym same ∙ is_less _ e in cc

module _ (xs : List Member) (one : Member) (up : IsAscending member_cmp xs) (at : ℕ) (parts : IsPartitionPoint (λ m. is_lt (place_cmp m one) ≡ true) (λ m. is_lt (place_cmp m one) ≡ false) xs at) where
  left : (p : Member) → Among xs p → SamePlace p one → Among (drop at xs) p
  left p h same = elim (find (λ m. is_lt (place_cmp m one) ≡ true) xs at p h parts.0) [ inl b ↦ absurd (not_before p one same b) | inr r ↦ r ]

  pub none_past : length xs ≤ at → NoneAt xs one
  none_past le p h same = let P : List Member → Type 0 = λ ys. Among ys p in subst P (drop_all at xs le) (left p h same)

  module _ (found : Member) (lt : at < length xs) (is : found ≡ get_or xs at found) where
    later : (p : Member) → Among xs p → SamePlace p one → (p ≡ found) ⊎ (member_cmp found p ≡ Less)
    later p h same =
        let P : List Member → Type 0 = λ ys. Among ys p in
        let Q : List Member → Type 0 = λ ys. IsAscending member_cmp ys in
        let rest = drop (at + 1) xs in
        let ascends : IsAscending member_cmp (found ∷ rest) = subst Q (opened xs at found lt is) (up_drop xs at up) in
        elim (subst P (opened xs at found lt is) (left p h same)) [ inl e ↦ inl (sym e) | inr r ↦ inr (below_all member_cmp member_total found rest p ascends r) ]

    not_less : place_cmp found one ≡ Less → ⊥
    not_less e =
        let P : Member → Type 0 = λ m. is_lt (place_cmp m one) ≡ false in
        let f : true ≡ false = sym (ap is_lt e) ∙ subst P (sym is) (parts.1 at found (omega arith) lt) in cc

    pub none_there : is_eq (place_cmp found one) ≡ false → NoneAt xs one
    none_there other p h same = elim (later p h same) [
      | inl e ↦ (let P : Member → Type 0 = λ m. SamePlace m one in no (subst P e same))
      | inr less ↦ elim (up_place found p less) [ inl l ↦ absurd (not_less (less_same found p one l same)) | inr s ↦ no (same_then found p one s ∙ same) ]
    ]
      where
        no : SamePlace found one → ⊥
        no e = let f : true ≡ false = sym (ap is_eq e) ∙ other in cc

    pub some_there : is_eq (place_cmp found one) ≡ true → IsLeastAt xs one found
    some_there e = record { among = among_at xs at found lt is; same = is_equal _ e; least = λ o h s. later o h s }
