-- What a call adds to what is kept.
use Rattle.std.specs.Prelude.{◌≡◌, ◌+◌, ℕ, List, length, Bool, true, false, ◌⊎◌}
use Rattle.tree_match.specs.declared.leaf.Leaf.{Leaf}
use Rattle.kept_leaves.specs.Pairs.{Pair, IsOneOf, AreApart}
use Rattle.kept_leaves.specs.Kept.{Map, Keeps, IsKept, IsMet}

-- what was kept is kept, with its leaf, and what was met is met
abbrev pub Stays : Map → Map → Type 0
Stays old new = (x : Pair) (leaf : Leaf) (met : Bool) → Keeps old x leaf met → (now : Bool) × Keeps new x leaf now × (met ≡ true → now ≡ true)

-- the needed pairs are met now; of these the new ones were not kept before, and each of them is in the list once
pub record Grows (old new : Map) (Needed : Pair → Type 0) (news : List Pair) : Type 0 where
  pub stays : Stays old new
  pub met : (x : Pair) → Needed x → IsMet new x
  pub only_met : (x : Pair) → IsMet new x → IsMet old x ⊎ Needed x
  pub only_kept : (x : Pair) → IsKept new x → IsKept old x ⊎ IsOneOf news x
  pub fresh : (x : Pair) → IsOneOf news x → IsKept old x → ⊥
  pub gained : (x : Pair) → IsOneOf news x → IsMet new x
  pub once : AreApart news

-- it grows by the needed pairs, and each new one took one step
abbrev pub Meets : (Pair → Type 0) → Map → ℕ → Map → ℕ → Type 0
Meets Needed old before new after = (news : List Pair) × Grows old new Needed news × (after ≡ before + length news)

-- what was met stays, and is not met any more; nothing else is kept
pub record Turns (old new : Map) : Type 0 where
  pub stays : (x : Pair) (leaf : Leaf) → Keeps old x leaf true → Keeps new x leaf false
  pub only : (x : Pair) (leaf : Leaf) (met : Bool) → Keeps new x leaf met → (met ≡ false) × Keeps old x leaf true
