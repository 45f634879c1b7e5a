-- Formulas as trees, through which the definitions go by cases.
use Rattle.std.specs.Prelude.{ℕ, List, [], ◌∷◌, Bool, true, false, ◌++◌, ◌||◌}
use Rattle.rule_form.specs.declared.comparison.Comparison.{Comparison}
use Rattle.rule_form.specs.declared.formula.Formula.{Formula, Formula-F, fold-Formula}
use Rattle.rule_form.specs.declared.formula.Child.{Child, Child-F, fold-Child}
use Rattle.rule_form.specs.declared.formula.Child.TheOpen as layers

mutual
  pub data Tree : Type 0 where
    leaf : ℕ → Tree
    regex : ℕ → Tree
    some_of : Trees → Tree
    all_of : Branches → Tree

  pub data Trees : Type 0 where
    no_trees : Trees
    tree_then : Tree → Trees → Trees

  pub data Branch : Type 0 where
    positive : Tree → Branch
    inside : Tree → Branch
    without : Tree → Branch
    outside : Tree → Branch
    without_regex : ℕ → Branch
    meta_regex : List ℕ → ℕ → Branch
    meta_compare : Comparison → Branch
    meta_pattern : List ℕ → Tree → Branch
    focus : List (List ℕ) → Branch

  pub data Branches : Type 0 where
    no_branches : Branches
    branch_then : Branch → Branches → Branches

abbrev pub trees_of : List Tree → Trees
trees_of [] = no_trees
trees_of (t ∷ ts) = tree_then t (trees_of ts)

abbrev pub branches_of : List Branch → Branches
branches_of [] = no_branches
branches_of (b ∷ bs) = branch_then b (branches_of bs)

abbrev pub branch_layer : Child-F Branch Tree → Branch
branch_layer (layers.Positive t) = positive t
branch_layer (layers.Inside t) = inside t
branch_layer (layers.Not t) = without t
branch_layer (layers.NotInside t) = outside t
branch_layer (layers.NotRegex k) = without_regex k
branch_layer (layers.MetaRegex name k) = meta_regex name k
branch_layer (layers.MetaCompare x) = meta_compare x
branch_layer (layers.MetaPattern name t) = meta_pattern name t
branch_layer (layers.Focus names) = focus names

abbrev pub tree_layer : Formula-F Branch Tree → Tree
tree_layer (layers.Leaf k) = leaf k
tree_layer (layers.Regex k) = regex k
tree_layer (layers.Any ts) = some_of (trees_of ts)
tree_layer (layers.All bs) = all_of (branches_of bs)

-- the tree of a formula
unfoldable pub tree_of : Formula → Tree
tree_of = fold-Formula Branch Tree branch_layer tree_layer

-- the branch of a child
unfoldable pub branch_of : Child → Branch
branch_of = fold-Child Branch Tree branch_layer tree_layer

-- the formula is one of which the range is one
abbrev pub is_positive : Branch → Bool
is_positive (positive t) = true
is_positive _ = false

-- the formula is one in which the range lies
abbrev pub is_inside : Branch → Bool
is_inside (inside t) = true
is_inside _ = false

-- the names that are in focus
abbrev pub names_of : Branch → List (List ℕ)
names_of (focus names) = names
names_of _ = []

abbrev pub is_focus : Branch → Bool
is_focus (focus names) = true
is_focus _ = false

-- some branch is such
abbrev pub has : (Branch → Bool) → Branches → Bool
has test no_branches = false
has test (branch_then b bs) = test b || has test bs

-- the names in focus of all branches
abbrev pub focused : Branches → List (List ℕ)
focused no_branches = []
focused (branch_then b bs) = names_of b ++ focused bs
