-- The operands of a formula by the members of each.
use Rattle.std.specs.Prelude.{◌≡◌, ℕ, suc, List, [], ◌∷◌, ◌++◌, MatchBool, slice_get}
use Rattle.tree_match.specs.declared.leaf.Leaf.{Leaf}
use Rattle.tree_match.specs.Members.{Member}
use Rattle.member_join.specs.declared.operand.Operand.{Operand}
use Rattle.range_algebra.specs.declared.part.Part.{Part}
use Rattle.range_algebra.specs.declared.part.Part.TheVariants.{Members}
use Rattle.member_join.specs.declared.operand.Role.{Role}
use Rattle.range_algebra.specs.Trees
use Rattle.range_algebra.specs.Meets.{InLeaf}
use Rattle.range_algebra.specs.Parts.{IsSetIn}
use Rattle.range_algebra.specs.Crowds.{is_operand}
use Rattle.member_join.specs.Operands.{Ascends}

-- the names of all members of the patterns stand in order
abbrev pub LeavesAscend : List Leaf → Type 0
LeavesAscend leaves = (k : ℕ) (m : Member) → InLeaf (slice_get leaves k) m → Ascends m

-- an operand with that number and the members of that part is put at the end, where the part has members
abbrev pub AddsPart : ℕ → Part → List Operand → List Operand → Type 0
AddsPart i (Members v) old new = (o : Operand) × (o.number ≡ i) × (o.members.now ≡ v.items) × (new ≡ old ++ o ∷ [])
AddsPart i _ old new = new ≡ old

-- the same for a child that is such an operand, and nothing for another child
abbrev pub AddsChild : Role → ℕ → Trees.Branch → Part → List Operand → List Operand → Type 0
AddsChild role i b part old new = MatchBool (is_operand role b) (AddsPart i part old new) (new ≡ old)

module _ (leaves : List Leaf) (texts : List (List ℕ)) (bytes : List ℕ) where
  -- an operand with that number and the members of the child's formula, then the others
  abbrev pub BeginsWithOperand : ℕ → Trees.Branch → (List Operand → Type 0) → List Operand → Type 0
  BeginsWithOperand i b Rest [] = ⊥
  BeginsWithOperand i b Rest (o ∷ os) = (o.number ≡ i) × IsSetIn leaves texts bytes b o.members.now × Rest os

  -- one operand for each child with that role, in order, where the first child has that number
  abbrev pub AreOperands : Role → ℕ → Trees.Branches → List Operand → Type 0
  AreOperands role i Trees.no_branches os = os ≡ []
  AreOperands role i (Trees.branch_then b bs) os = MatchBool (is_operand role b) (BeginsWithOperand i b (AreOperands role (suc i) bs) os) (AreOperands role (suc i) bs os)
