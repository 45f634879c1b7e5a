-- The members of patterns, looked at one by one.
use Rattle.std.proofs.Common.{◌≡◌, inl, inr, ℕ, suc, List, [], ◌∷◌, ap}
use Rattle.std.specs.Prelude.{Option, Some, slice_get}
use Rattle.tree_match.specs.declared.leaf.Leaf.{Leaf}
use Rattle.node_match.specs.Sets.{Among}
use Rattle.tree_match.specs.Members.{Member}
use Rattle.range_algebra.specs.Meets.{InLeaf}
use Rattle.member_join.specs.Operands.{Ascends}

pub among_get : {X : Type 0} (xs : List X) (x : X) → Among xs x → (k : ℕ) × (slice_get xs k ≡ Some x)
among_get [] x h = elim h [ ]
among_get (y ∷ ys) x (inl e) = (0, ap Some e)
among_get (y ∷ ys) x (inr h) = let r = among_get ys x h in (suc r.0, r.1)

-- the names of the members of a pattern, if there is one, stand in order
abbrev pub LeafAscends : Option Leaf → Type 0
LeafAscends o = (m : Member) → InLeaf o m → Ascends m
