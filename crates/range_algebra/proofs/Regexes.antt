-- The matches of a regular expression as members, and where they share a byte with a range.
use Rattle.std.proofs.Common.{◌≡◌, ◌⊎◌, ◌↔◌, inl, inr, ℕ, zero, suc, ◌-◌, ◌<◌, ◌≤◌, List, [], ◌∷◌, length, take, drop, map, get_or, refl, sym, ap, ◌∙◌, subst, arith, take-append-drop}
use Rattle.std.specs.Prelude.{All, Bool, true, false, IsTrue, MatchOption, Option, None, Some, slice_get}
use Rattle.std.specs.declared.cmp.Ordering.{Ordering}
use Rattle.std.specs.declared.cmp.Ordering.TheVariants.{Less}
use Rattle.std.specs.Ordering.{nat_cmp, ordering_then}
use Rattle.std.proofs.lemmas.Option.{slice_get_read, slice_get_past}
use Rattle.std.proofs.lemmas.Cmp.{ranked, by_ranked}
use Rattle.node_tree.specs.declared.span.Span.{Span}
use Rattle.node_tree.specs.Span.{LiesIn}
use Rattle.meta_bind.specs.declared.bound.Bound.{Bound}
use Rattle.meta_bind.specs.Bounds.{binding_cmp}
use Rattle.meta_filter.specs.BoundTexts.{holds_regex}
use Rattle.rx_text.specs.Searches.{all_matches, FollowFrom}
use Rattle.rx_text.proofs.Matches.{all_follow}
use Rattle.tree_match.specs.declared.leaf.Leaf.{Leaf}
use Rattle.node_match.specs.Sets.{Among}
use Rattle.tree_match.specs.Ascending.{IsAscending}
use Rattle.tree_match.specs.Members.{Member, member_cmp}
use Rattle.member_join.specs.Choices.{range_of}
use Rattle.range_algebra.specs.Conditions.{IsSharedWith, IsSharedAt}
use Rattle.range_algebra.specs.Halves.{IsBefore, IsBetween, AreApart}
use Rattle.member_join.specs.Ranges.{ShareByte}
use Rattle.range_algebra.specs.Regexes.{unbound, matches_of, matches_bound, IsMatch, AreMatches}
use Rattle.sorted_sets.specs.Sizes.{Each, Any}
use Rattle.range_algebra.specs.Trees.{regex}
use Rattle.range_algebra.specs.Parts.{IsSetOf}
use Rattle.sorted_sets.proofs.Searches.{any_joined}

-- ---- matches with nothing bound

among_unbound : (ss : List Span) (m : Member) → Among (map unbound ss) m ↔ (Among ss m.0 × (m.1 ≡ []))
among_unbound [] m = (λ h. elim h [ ], λ h. elim h.0 [ ])
among_unbound (s ∷ ss) m = (to (among_unbound ss m), from (among_unbound ss m))
  where
    to : Among (map unbound ss) m ↔ (Among ss m.0 × (m.1 ≡ [])) → (unbound s ≡ m) ⊎ Among (map unbound ss) m → ((s ≡ m.0) ⊎ Among ss m.0) × (m.1 ≡ [])
    to rest (inl e) = (inl (ap (λ (x : Member). x.0) e), sym (ap (λ (x : Member). x.1) e))
    to rest (inr h) = let r = rest.0 h in (inr r.0, r.1)

    from : Among (map unbound ss) m ↔ (Among ss m.0 × (m.1 ≡ [])) → ((s ≡ m.0) ⊎ Among ss m.0) × (m.1 ≡ []) → (unbound s ≡ m) ⊎ Among (map unbound ss) m
    from rest (inl e, none) = inl (ap unbound e ∙ ap (λ (b : List Bound). (m.0, b)) (sym none))
    from rest (inr h, none) = inr (rest.1 (h, none))

ranges_unbound : (ss : List Span) → map range_of (map unbound ss) ≡ ss
ranges_unbound [] = refl
ranges_unbound (s ∷ ss) = ap (λ (rs : List Span). s ∷ rs) (ranges_unbound ss)

module _ (texts : List (List ℕ)) (bytes : List ℕ) (k : ℕ) where
  follow : FollowFrom 0 (matches_of texts bytes k)
  follow = at (slice_get texts k)
    where
      at : (o : Option (List ℕ)) → FollowFrom 0 (elim o [ None ↦ [] | Some text ↦ all_matches text bytes ])
      at None = tt
      at (Some text) = all_follow text bytes

  abbrev Read : List Member → Option (List ℕ) → Type 0
  Read members o = members ≡ map unbound (elim o [ None ↦ [] | Some text ↦ all_matches text bytes ])

  -- what a search gives where there is no such regular expression, and where there is
  pub none_found : (members : List Member) → slice_get texts k ≡ None → members ≡ [] → AreMatches texts bytes k members
  none_found members none is = let P : Option (List ℕ) → Type 0 = Read members in subst P (sym none) is

  pub some_found : (members : List Member) (text : List ℕ) → slice_get texts k ≡ Some text → members ≡ map unbound (all_matches text bytes) → AreMatches texts bytes k members
  some_found members text some is = let P : Option (List ℕ) → Type 0 = Read members in subst P (sym some) is

  module _ (name : List ℕ) (binding : List Bound) where
    abbrev Held : Bool → Option (List ℕ) → Type 0
    Held y o = y ≡ elim o [ None ↦ false | Some text ↦ holds_regex text binding name bytes ]

    pub none_held : slice_get texts k ≡ None → false ≡ matches_bound texts bytes k name binding
    none_held none = let P : Option (List ℕ) → Type 0 = Held false in subst P (sym none) refl

    pub some_held : (text : List ℕ) (y : Bool) → slice_get texts k ≡ Some text → y ≡ holds_regex text binding name bytes → y ≡ matches_bound texts bytes k name binding
    some_held text y some is = let P : Option (List ℕ) → Type 0 = Held y in subst P (sym some) is

  module _ (members : List Member) (are : AreMatches texts bytes k members) where
    pub among_matches : (m : Member) → Among members m ↔ IsMatch texts bytes k m
    among_matches m = let P : List Member → Type 0 = λ xs. Among xs m ↔ IsMatch texts bytes k m in subst P (sym are) (among_unbound (matches_of texts bytes k) m)

    pub matches_apart : AreApart members
    matches_apart =
        let P : List Member → Type 0 = AreApart in
        let Q : List Span → Type 0 = FollowFrom 0 in
        subst P (sym are) (subst Q (sym (ranges_unbound (matches_of texts bytes k))) follow)

-- the matches of a regular expression, if there is one, cut no character of the text
abbrev pub LieAll : List ℕ → Option (List ℕ) → Type 0
LieAll bytes o = All (LiesIn bytes) (elim o [ None ↦ [] | Some text ↦ all_matches text bytes ])

-- ---- members that follow one another

-- each begins there or later, and has a byte
beyond : (at : ℕ) (ms : List Member) → FollowFrom at (map range_of ms) → (m : Member) → Among ms m → (at ≤ m.0.from) × (m.0.from < m.0.to)
beyond at [] f m h = elim h [ ]
beyond at (x ∷ xs) f m (inl e) = let P : Member → Type 0 = λ y. (at ≤ y.0.from) × (y.0.from < y.0.to) in subst P e (f.0, f.1)
beyond at (x ∷ xs) f m (inr h) = let r = beyond x.0.to xs f.2 m h in (omega (arith, f.0, f.1, r.0), r.1)

-- what begins before another is below it
below : (x y : Member) → x.0.from < y.0.from → member_cmp x y ≡ Less
below x y lt =
    by_ranked (x.0.from < y.0.from) (x.0.from ≡ y.0.from) (y.0.from < x.0.from) (nat_cmp x.0.from y.0.from) (ranked x.0.from y.0.from (nat_cmp x.0.from y.0.from) refl)
    (λ o less. let P : Ordering → Type 0 = λ w. ordering_then (ordering_then w (nat_cmp x.0.to y.0.to)) (binding_cmp x.1 y.1) ≡ Less in subst P (sym o) refl) (λ o same. absurd (omega (arith, lt, same))) (λ o gt. absurd (omega (arith, lt, gt)))

pub apart_ascend : (at : ℕ) (ms : List Member) → FollowFrom at (map range_of ms) → IsAscending member_cmp ms
apart_ascend at [] f = tt
apart_ascend at (x ∷ []) f = tt
apart_ascend at (x ∷ y ∷ ys) f = (below x y (omega (arith, f.1, f.2.0)), apart_ascend x.0.to (y ∷ ys) f.2)

-- the matches are the set of a formula that is the regular expression
pub matches_set : (leaves : List Leaf) (texts : List (List ℕ)) (bytes : List ℕ) (k : ℕ) (members : List Member) → AreMatches texts bytes k members → IsSetOf leaves texts bytes (regex k) members
matches_set leaves texts bytes k members are = record { exact = among_matches texts bytes k members are; ordered = apart_ascend 0 members (matches_apart texts bytes k members are) }

-- ---- before and behind a range

before_begins : (range : Span) (m : Member) → IsBefore range m → m.0.from ≤ range.from
before_begins range m e =
    by_ranked (m.0.from < range.from) (m.0.from ≡ range.from) (range.from < m.0.from) (nat_cmp m.0.from range.from) (ranked m.0.from range.from (nat_cmp m.0.from range.from) refl) (λ o lt. omega (arith, lt)) (λ o same. omega (arith, same))
    (λ o gt. (let P : Ordering → Type 0 = λ w. ordering_then w (nat_cmp m.0.to range.to) ≡ Less in let f = subst P o e in cc))

behind_begins : (range : Span) (m : Member) → (IsBefore range m → ⊥) → range.from ≤ m.0.from
behind_begins range m none =
    by_ranked (m.0.from < range.from) (m.0.from ≡ range.from) (range.from < m.0.from) (nat_cmp m.0.from range.from) (ranked m.0.from range.from (nat_cmp m.0.from range.from) refl)
    (λ o lt. absurd (none (let P : Ordering → Type 0 = λ w. ordering_then w (nat_cmp m.0.to range.to) ≡ Less in subst P (sym o) refl))) (λ o same. omega (arith, same)) (λ o gt. omega (arith, gt))

-- of members that aren't before the range the first shares a byte, where one does
first_shares : (range : Span) (at : ℕ) (x : Member) (xs : List Member) → FollowFrom at (map range_of (x ∷ xs)) → (IsBefore range x → ⊥) → Any (IsSharedWith range) (x ∷ xs) → ShareByte range x.0
first_shares range at x xs f none (m, inl e, shared) = let P : Member → Type 0 = IsSharedWith range in subst P (sym e) shared
first_shares range at x xs f none (m, inr h, (i, a, b, c, d)) =
    let begins = behind_begins range x none in
    let later = beyond x.0.to xs f.2 m h in
    (x.0.from, begins, omega (arith, f.1, later.0, c, b), omega arith, f.1)

-- ---- the member that shares a byte

any_at : (range : Span) (ms : List Member) (i : ℕ) → IsSharedAt range ms i → Any (IsSharedWith range) ms
any_at range [] i h = elim h [ ]
any_at range (y ∷ ys) zero h = (y, inl refl, h)
any_at range (y ∷ ys) (suc i) h = let r = any_at range ys i h in (r.0, inr r.1, r.2)

-- where some of the members that aren't before the range shares a byte, the first does
behind_shares : (range : Span) (at : ℕ) (ms : List Member) (k : ℕ) → FollowFrom at (map range_of ms) → Each (λ (m : Member). IsBefore range m → ⊥) (drop k ms) → Any (IsSharedWith range) (drop k ms) → IsSharedAt range ms k
behind_shares range at [] zero f none a = elim a.1 [ ]
behind_shares range at [] (suc k) f none a = elim a.1 [ ]
behind_shares range at (x ∷ xs) zero f none a = first_shares range at x xs f (none x (inl refl)) a
behind_shares range at (x ∷ xs) (suc k) f none a = behind_shares range x.0.to xs k f.2 none a

-- where some of the members before the range shares a byte, the last does
before_shares : (range : Span) (at : ℕ) (ms : List Member) (k : ℕ) → FollowFrom at (map range_of ms) → k < length ms → Each (IsBefore range) (take (suc k) ms) → Any (IsSharedWith range) (take (suc k) ms) → IsSharedAt range ms k
before_shares range at [] k f lt before a = absurd (omega (arith, lt))
before_shares range at (y ∷ ys) zero f lt before (m, inl e, shared) = let P : Member → Type 0 = IsSharedWith range in subst P (sym e) shared
before_shares range at (y ∷ ys) zero f lt before (m, inr h, shared) = elim h [ ]
before_shares range at (y ∷ []) (suc k) f lt before a = absurd (omega (arith, lt))
before_shares range at (y ∷ z ∷ zs) (suc k) f lt before (m, inl e, (i, a, b, c, d)) =
    let begins = before_begins range z (before z (inr (inl refl))) in
    let same = ap (λ (x : Member). x.0.to) e in
    absurd (omega (arith, f.2.0, begins, same, a, d))
before_shares range at (y ∷ z ∷ zs) (suc k) f lt before (m, inr h, shared) = before_shares range y.0.to (z ∷ zs) k f.2 (omega (arith, lt)) (λ x g. before x (inr g)) (m, h, shared)

one_shares : (range : Span) (ms : List Member) (k : ℕ) → AreApart ms → IsBetween range ms k k → Any (IsSharedWith range) ms → IsSharedAt range ms k ⊎ ((0 < k) × IsSharedAt range ms (k - 1))
one_shares range ms k apart between a =
    let Q : List Member → Type 0 = Any (IsSharedWith range) in
    at ((any_joined (IsSharedWith range) (take k ms) (drop k ms)).0 (subst Q (sym (take-append-drop k ms)) a))
  where
    last : (n : ℕ) → n ≤ length ms → Each (IsBefore range) (take n ms) → Any (IsSharedWith range) (take n ms) → (0 < n) × IsSharedAt range ms (n - 1)
    last zero le before h = elim h.1 [ ]
    last (suc j) le before h =
        let P : ℕ → Type 0 = IsSharedAt range ms in
        let e : j ≡ suc j - 1 = omega arith in
        (omega arith, subst P e (before_shares range 0 ms j apart (omega (arith, le)) before h))

    at : Any (IsSharedWith range) (take k ms) ⊎ Any (IsSharedWith range) (drop k ms) → IsSharedAt range ms k ⊎ ((0 < k) × IsSharedAt range ms (k - 1))
    at (inl h) = inr (last k between.within between.before h)
    at (inr h) = inl (behind_shares range 0 ms k apart between.after h)

module _ (range : Span) (ms : List Member) (i : ℕ) where
  pub shared_at : (x : Member) (y : Bool) → i < length ms → x ≡ get_or ms i x → IsTrue y ↔ ShareByte range x.0 → IsTrue y ↔ IsSharedAt range ms i
  shared_at x y lt is h = let P : Option Member → Type 0 = λ o. IsTrue y ↔ MatchOption o ⊥ (IsSharedWith range) in subst P (sym (slice_get_read ms (length ms) i x refl lt is)) h

  pub none_at : length ms ≤ i → IsTrue false ↔ IsSharedAt range ms i
  none_at le = let P : Option Member → Type 0 = λ o. IsTrue false ↔ MatchOption o ⊥ (IsSharedWith range) in subst P (sym (slice_get_past ms i le)) (λ e. absurd (cc), λ n. elim n [ ])

-- the answers of a search for a member that shares a byte
module _ (range : Span) (ms : List Member) (k : ℕ) (apart : AreApart ms) (between : IsBetween range ms k k) (y : Bool) (here : IsTrue y ↔ IsSharedAt range ms k) where
  pub shares_here : y ≡ true → IsTrue true ↔ Any (IsSharedWith range) ms
  shares_here is = (λ e. any_at range ms k (here.0 is), λ a. refl)

  pub shares_none : y ≡ false → k ≡ 0 → IsTrue false ↔ Any (IsSharedWith range) ms
  shares_none is zero_is = (λ e. absurd (cc), λ a. absurd (at (one_shares range ms k apart between a)))
    where
      at : IsSharedAt range ms k ⊎ ((0 < k) × IsSharedAt range ms (k - 1)) → ⊥
      at (inl h) = let e = here.1 h in cc
      at (inr h) = absurd (omega (arith, zero_is, h.0))

  pub shares_before : y ≡ false → (z : Bool) → IsTrue z ↔ IsSharedAt range ms (k - 1) → IsTrue z ↔ Any (IsSharedWith range) ms
  shares_before is z there = (λ e. any_at range ms (k - 1) (there.0 e), λ a. at (one_shares range ms k apart between a))
    where
      at : IsSharedAt range ms k ⊎ ((0 < k) × IsSharedAt range ms (k - 1)) → IsTrue z
      at (inl h) = let e = here.1 h in absurd (cc)
      at (inr h) = there.1 h.1
