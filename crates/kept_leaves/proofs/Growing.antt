-- What is kept grows by the needed pairs, and each new one takes one step: by no call, by a call, by two one after the other.
use Rattle.std.proofs.Common.{◌≡◌, ℕ, ◌+◌, List, [], ◌∷◌, ◌++◌, ◌⊎◌, inl, inr, ◌↔◌, length, refl, arith}
use Rattle.kept_leaves.specs.Growth.{Meets}
use Rattle.kept_leaves.specs.Kept.{PieceRef, PatternRef, Map}
use Rattle.kept_leaves.specs.Pairs.{Pair}
use Rattle.kept_leaves.proofs.Laws.{grows_none, grows_as, grows_then}

length_both : (ns ms : List Pair) → length (ns ++ ms) ≡ length ns + length ms
length_both [] ms = omega arith
length_both (n ∷ ns) ms = let e = length_both ns ms in omega (arith, e)

pub meets_none : (map : Map) (before : ℕ) → Meets (λ x. ⊥) map before map before
meets_none map before = ([], grows_none map map (λ path a b. refl), omega arith)

pub meets_as : (N M : Pair → Type 0) (old : Map) (before : ℕ) (new : Map) (after : ℕ) → ((x : Pair) → N x ↔ M x) → Meets N old before new after → Meets M old before new after
meets_as N M old before new after same (ns, g, e) = (ns, grows_as old new ns N M same g, e)

pub meets_then : (N M : Pair → Type 0) (old : Map) (before : ℕ) (mid : Map) (between : ℕ) (new : Map) (after : ℕ)
    → Meets N old before mid between → Meets M mid between new after → Meets (λ x. N x ⊎ M x) old before new after
meets_then N M old before mid between new after (ns, g, e) (ms, h, f) =
    let both = length_both ns ms in
    let steps : after ≡ before + length (ns ++ ms) = omega (arith, e, f, both) in
    (ns ++ ms, grows_then old mid new N M ns ms g h, steps)

-- maps that are the same for all keys
pub meets_between : (N : Pair → Type 0) (first old new last : Map) (before after : ℕ)
    → ((path : List ℕ) (a : PieceRef) (b : PatternRef) → old path a b ≡ first path a b) → ((path : List ℕ) (a : PieceRef) (b : PatternRef) → last path a b ≡ new path a b)
    → Meets N old before new after → Meets N first before last after
meets_between N first old new last before after into out met =
    let begun = meets_then (λ x. ⊥) N first before old before new after ([], grows_none first old into, omega arith) met in
    let ended = meets_then (λ x. ⊥ ⊎ N x) (λ x. ⊥) first before new after last after begun ([], grows_none new last out, omega arith) in
    meets_as (λ x. (⊥ ⊎ N x) ⊎ ⊥) N first before last after
    (λ x. (λ h. elim h [ inl b ↦ (elim b [ inl n ↦ absurd n | inr y ↦ y ]) | inr n ↦ absurd n ], λ y. inl (inr y))) ended
