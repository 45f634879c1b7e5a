-- The sets that the children of `All` ask for.
use Rattle.std.specs.Prelude.{◌≡◌, ℕ, List, [], ◌∷◌, Vec, Bool, false, None, ◌||◌}
use Rattle.std.specs.declared.alloc.Global.{Global}
use Rattle.tree_match.specs.declared.leaf.Leaf.{Leaf}
use Rattle.node_match.specs.Sets.{Among}
use Rattle.tree_match.specs.Members.{Member}
use Rattle.tree_match.specs.Leaf.{IsWhole}
use Rattle.range_algebra.specs.declared.part.Part.{Part}
use Rattle.range_algebra.specs.declared.part.Part.TheVariants.{Nothing, Members, Bare}
use Rattle.sorted_sets.specs.Sizes.{Any}
use Rattle.range_algebra.specs.Regexes.{AreMatches}
use Rattle.range_algebra.specs.Trees
use Rattle.range_algebra.specs.Meets.{Meets}

-- some of the children is an operand
abbrev pub has_operands : Trees.Branches → Bool
has_operands bs = Trees.has Trees.is_positive bs || Trees.has Trees.is_inside bs

-- the members that the part has, none where it isn't a set of members
abbrev pub members_in : Part → List Member
members_in (Members v) = v.items
members_in _ = []

-- the formula is one of children none of which is an operand
abbrev pub IsBare : Trees.Tree → Type 0
IsBare (Trees.all_of bs) = has_operands bs ≡ false
IsBare _ = ⊥

-- the child asks for no set
abbrev pub HasNoFormula : Trees.Branch → Type 0
HasNoFormula (Trees.positive t) = ⊥
HasNoFormula (Trees.inside t) = ⊥
HasNoFormula (Trees.without t) = ⊥
HasNoFormula (Trees.outside t) = ⊥
HasNoFormula (Trees.without_regex k) = ⊥
HasNoFormula (Trees.meta_pattern name t) = ⊥
HasNoFormula _ = Unit {0}

-- one of the sets has the member
abbrev pub IsInSome : List (Vec Member Global) → Member → Type 0
IsInSome sets m = Any (λ (v : Vec Member Global). Among v.items m) sets

module _ (leaves : List Leaf) (texts : List (List ℕ)) (bytes : List ℕ) where
  -- the members of the formula, all of them, in order and each once
  abbrev pub IsSetOf : Trees.Tree → List Member → Type 0
  IsSetOf t members = IsWhole (Meets leaves texts bytes t None) members

  -- one such set for each formula
  abbrev pub AreSetsOf : Trees.Trees → List (Vec Member Global) → Type 0
  AreSetsOf Trees.no_trees sets = sets ≡ []
  AreSetsOf (Trees.tree_then t ts) [] = ⊥
  AreSetsOf (Trees.tree_then t ts) (v ∷ sets) = IsSetOf t v.items × AreSetsOf ts sets

  -- the members of the child's formula, or the matches of its regular expression
  abbrev pub IsSetIn : Trees.Branch → List Member → Type 0
  IsSetIn (Trees.positive t) members = IsSetOf t members
  IsSetIn (Trees.inside t) members = IsSetOf t members
  IsSetIn (Trees.without t) members = IsSetOf t members
  IsSetIn (Trees.outside t) members = IsSetOf t members
  IsSetIn (Trees.without_regex k) members = AreMatches texts bytes k members
  IsSetIn (Trees.meta_pattern name t) members = IsSetOf t members × (IsBare t → ⊥)
  IsSetIn _ members = ⊥

  -- what a bare formula takes away; nothing is asked of the sets of its other children
  abbrev pub IsTakenAway : Trees.Branch → List Member → Type 0
  IsTakenAway (Trees.without t) members = IsSetOf t members
  IsTakenAway (Trees.outside t) members = IsSetOf t members
  IsTakenAway (Trees.without_regex k) members = AreMatches texts bytes k members
  IsTakenAway _ members = Unit {0}

  -- one such set for each child
  abbrev pub AreTakenAway : Trees.Branches → List (Vec Member Global) → Type 0
  AreTakenAway Trees.no_branches sets = sets ≡ []
  AreTakenAway (Trees.branch_then b bs) [] = ⊥
  AreTakenAway (Trees.branch_then b bs) (v ∷ sets) = IsTakenAway b v.items × AreTakenAway bs sets

  -- the child is a condition by a bare formula, of which these are the sets
  abbrev pub IsBarePart : Trees.Branch → List (Vec Member Global) → Type 0
  IsBarePart (Trees.meta_pattern name (Trees.all_of bs)) sets = (has_operands bs ≡ false) × AreTakenAway bs sets
  IsBarePart _ sets = ⊥

  -- what is known of the set that the child asks for
  abbrev pub IsPart : Trees.Branch → Part → Type 0
  IsPart b Nothing = HasNoFormula b
  IsPart b (Members v) = IsSetIn b v.items
  IsPart b (Bare sets) = IsBarePart b sets.items

  -- one part for each child
  abbrev pub AreParts : Trees.Branches → List Part → Type 0
  AreParts Trees.no_branches parts = parts ≡ []
  AreParts (Trees.branch_then b bs) [] = ⊥
  AreParts (Trees.branch_then b bs) (p ∷ parts) = IsPart b p × AreParts bs parts
