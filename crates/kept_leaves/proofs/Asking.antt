-- What questions to a file, one after the other, make of what is kept; and what a turn leaves then.
use Rattle.std.proofs.Common.{◌≡◌, ◌∙◌, ℕ, List, [], ◌∷◌, ◌⊎◌, inl, inr, ◌↔◌, map, refl, sym, ap, subst, true, false, arith}
use Rattle.node_tree.specs.declared.view.Pattern.{Pattern}
use Rattle.node_match.specs.Sets.{Among}
use Rattle.file_parts.specs.Parts.{SeenPart, needed_of}
use Rattle.file_search.specs.Asked.{Asked, AsksFor}
use Rattle.kept_leaves.specs.Asking.{Search, path_of, kept_by, needed_pairs, StaysIn, AsksKept, IsNeededBy}
use Rattle.kept_leaves.specs.Growth.{Grows, Meets, Turns}
use Rattle.kept_leaves.specs.Kept.{Map, IsKept, IsMet, IsEmpty, IsNoneMet}
use Rattle.kept_leaves.specs.Pairs.{Pair, IsOneOf}
use Rattle.kept_leaves.specs.Ready.{pair_of, pairs_of}
use Rattle.kept_leaves.proofs.Growing.{meets_none, meets_as, meets_then}

-- ---- questions one after the other

-- what a file needs is at its path
at_path : (path : List ℕ) (pattern : Pattern) (ps : List SeenPart) (y : Pair) → Among (map (pair_of path pattern) ps) y → path ≡ y.path
at_path path pattern [] y a = absurd a
at_path path pattern (p ∷ ps) y (inl e) = ap (λ (z : Pair). z.path) e
at_path path pattern (p ∷ ps) y (inr a) = at_path path pattern ps y a

pub needed_path : (search : Search) (Set : Pattern → Type 0) (x : Pair) → IsNeededBy search Set x → (path_of search) ≡ x.path
needed_path search Set x (p, s, (y, a, same)) = at_path (path_of search) p (needed_of p search.parts) y a ∙ same.path

needs_none : (search : Search) (x : Pair) → ⊥ ↔ IsNeededBy search (Among []) x
needs_none search x = (λ h. absurd h, λ (p, a, o). absurd a)

needs_first : (search : Search) (p : Pattern) (ps : List Pattern) (x : Pair) → (IsOneOf (needed_pairs search p) x ⊎ IsNeededBy search (Among ps) x) → IsNeededBy search (Among (p ∷ ps)) x
needs_first search p ps x (inl o) = (p, inl refl, o)
needs_first search p ps x (inr (q, a, o)) = (q, inr a, o)

needs_which : (search : Search) (p : Pattern) (ps : List Pattern) (x : Pair) → IsNeededBy search (Among (p ∷ ps)) x → IsOneOf (needed_pairs search p) x ⊎ IsNeededBy search (Among ps) x
needs_which search p ps x (q, inl e, o) = let P : Pattern → Type 0 = λ r. IsOneOf (needed_pairs search r) x in inl (subst P (sym e) o)
needs_which search p ps x (q, inr a, o) = inr (q, a, o)

-- what a later search of the same file needs is what this one needs
needs_same : (old new : Search) (Set : Pattern → Type 0) → StaysIn old new → (x : Pair) → IsNeededBy new Set x ↔ IsNeededBy old Set x
needs_same old new Set stays x =
    let pairs : (p : Pattern) → needed_pairs new p ≡ needed_pairs old p =
    λ p. ap (λ (path : List ℕ). pairs_of path p new.parts) stays.path ∙ ap (λ (parts : List SeenPart). pairs_of (path_of old) p parts) stays.parts in (
      λ (p, s, o). let P : List Pair → Type 0 = λ ys. IsOneOf ys x in (p, s, subst P (pairs p) o),
      λ (p, s, o). let P : List Pair → Type 0 = λ ys. IsOneOf ys x in (p, s, subst P (sym (pairs p)) o),
    )

-- the file stays
pub asked_file : (ps : List Pattern) (old : Search) (before : ℕ) (new : Search) (after : ℕ) → Asked AsksKept ps old before new after → StaysIn old new
asked_file [] old before new after (e, f) = record { path = ap path_of e; view = ap (λ (s : Search). s.view) e; parts = ap (λ (s : Search). s.parts) e }
asked_file (p ∷ ps) old before new after (next, steps, (same, m), rest) =
    let later = asked_file ps next steps new after rest in
    record { path = later.path ∙ same.path; view = later.view ∙ same.view; parts = later.parts ∙ same.parts }

-- the pairs that the patterns need are met
pub asked_meets : (ps : List Pattern) (old : Search) (before : ℕ) (new : Search) (after : ℕ) → Asked AsksKept ps old before new after
    → Meets (IsNeededBy old (Among ps)) (kept_by old) before (kept_by new) after
asked_meets [] old before new after (e, f) =
    let P : Search → Type 0 = λ s. Meets (IsNeededBy old (Among [])) (kept_by old) before (kept_by s) after in
    let Q : ℕ → Type 0 = λ n. Meets (IsNeededBy old (Among [])) (kept_by old) before (kept_by old) n in
    let none = meets_as (λ x. ⊥) (IsNeededBy old (Among [])) (kept_by old) before (kept_by old) before (needs_none old) (meets_none (kept_by old) before) in
    subst P (sym e) (subst Q (sym f) none)
asked_meets (p ∷ ps) old before new after (next, steps, (same, m), rest) =
    let later = meets_as (IsNeededBy next (Among ps)) (IsNeededBy old (Among ps)) (kept_by next) steps (kept_by new) after (needs_same old next (Among ps) same) (asked_meets ps next steps new after rest) in
    let First : Pair → Type 0 = IsOneOf (needed_pairs old p) in
    let Later : Pair → Type 0 = IsNeededBy old (Among ps) in
    let both = meets_then First Later (kept_by old) before (kept_by next) steps (kept_by new) after m later in
    meets_as (λ x. First x ⊎ Later x) (IsNeededBy old (Among (p ∷ ps))) (kept_by old) before (kept_by new) after
    (λ x. (needs_first old p ps x, needs_which old p ps x)) both

module _ (Set : Pattern → Type 0) (old : Search) (before : ℕ) (new : Search) (after : ℕ) (a : AsksFor AsksKept Set old before new after) where
  -- the pairs that the set needs are met
  pub asks_for_meets : Meets (IsNeededBy old Set) (kept_by old) before (kept_by new) after
  asks_for_meets =
      meets_as (IsNeededBy old (Among a.patterns)) (IsNeededBy old Set) (kept_by old) before (kept_by new) after
      (λ x. (λ (p, b, o). (p, (a.all p).0 b, o), λ (p, s, o). (p, (a.all p).1 s, o))) (asked_meets a.patterns old before new after a.asked)

-- ---- what a turn leaves

-- what takes no new pair takes no step
pub meets_old_ones : (Needed : Pair → Type 0) (old new : Map) (before : ℕ) → Grows old new Needed [] → Meets Needed old before new before
meets_old_ones Needed old new before g = ([], g, omega arith)

pub empty_unmet : (map : Map) → IsEmpty map → IsNoneMet map
empty_unmet map none x (leaf, k) = none x (leaf, true, k)

pub turned_unmet : (mid new : Map) → Turns mid new → IsNoneMet new
turned_unmet mid new t x (leaf, k) = let e : true ≡ false = (t.only x leaf true k).0 in cc

-- what is met after a turn is kept, and nothing else
pub turned_kept : (mid new : Map) → Turns mid new → (x : Pair) → IsKept new x ↔ IsMet mid x
turned_kept mid new t x = (λ (leaf, met, k). (leaf, (t.only x leaf met k).1), λ (leaf, k). (leaf, false, t.stays x leaf k))

module _ (old mid : Map) (Needed : Pair → Type 0) (news : List Pair) (g : Grows old mid Needed news) where
  -- the new pairs are those needed that weren't kept
  pub new_pairs : (x : Pair) → IsOneOf news x ↔ (Needed x × (IsKept old x → ⊥))
  new_pairs x = (
    λ o. (elim (g.only_met x (g.gained x o)) [ inl (leaf, k) ↦ absurd (g.fresh x o (leaf, true, k)) | inr n ↦ n ], g.fresh x o),
    λ (n, out). let (leaf, k) = g.met x n in elim (g.only_kept x (leaf, true, k)) [ inl j ↦ absurd (out j) | inr o ↦ o ],
  )

  module _ (none : IsNoneMet old) where
    -- just the needed pairs are met; so pairs that count as one with a needed one are needed
    pub just_needed : (x : Pair) → IsMet mid x ↔ Needed x
    just_needed x = (λ k. elim (g.only_met x k) [ inl j ↦ absurd (none x j) | inr n ↦ n ], g.met x)

    -- and a turn leaves just these
    pub needed_left : (new : Map) → Turns mid new → (x : Pair) → IsKept new x ↔ Needed x
    needed_left new t x = (λ k. (just_needed x).0 ((turned_kept mid new t x).0 k), λ n. (turned_kept mid new t x).1 ((just_needed x).1 n))
