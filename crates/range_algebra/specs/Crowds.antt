-- The first set of a formula that has more than 10,000 members.
use Rattle.std.specs.Prelude.{◌≡◌, ◌⊎◌, ℕ, zero, suc, List, [], ◌∷◌, Option, None, Some, Bool, MatchBool, slice_get}
use Rattle.tree_match.specs.declared.leaf.Leaf.{Leaf}
use Rattle.tree_match.specs.declared.leaf.Leaf.TheVariants.{Full, Crowded}
use Rattle.node_match.specs.Sets.{Among}
use Rattle.member_join.specs.declared.operand.Role.{Role}
use Rattle.member_join.specs.declared.operand.Role.TheVariants.{Plain, Inside}
use Rattle.member_join.specs.declared.fault.EvalFault.{EvalFault}
use Rattle.member_join.specs.declared.fault.EvalFault.TheVariants as faults
use Rattle.range_algebra.specs.Regexes.{IsMatch}
use Rattle.range_algebra.specs.Trees
use Rattle.member_join.specs.Choices.{Chosen, NoneOf, IsCounted}
use Rattle.range_algebra.specs.Meets.{Meets, MeetsSome, OneOfEach, OneAnd}
use Rattle.member_join.specs.Limits.{Search, Nothing, OneSet, Then}

-- a fault names the set that the search finds, with the numbers from the top; want of memory has no cause
abbrev pub IsFault : Search → EvalFault → Type 0
IsFault Found faults.Memory = Unit {0}
IsFault Found (faults.Crowded numbers) = Found (Some numbers)

-- a search in the child with that number
abbrev pub InChild : ℕ → Search → Search
InChild i Inner None = Inner None
InChild i Inner (Some []) = ⊥
InChild i Inner (Some (j ∷ p)) = (j ≡ i) × Inner (Some p)

-- the search of a pattern's set
abbrev pub LeafSearch : Option Leaf → Search
LeafSearch None o = o ≡ None
LeafSearch (Some (Full members)) o = OneSet [] (Among members) o
LeafSearch (Some Crowded) o = o ≡ Some []

abbrev pub is_operand : Role → Trees.Branch → Bool
is_operand Plain b = Trees.is_positive b
is_operand Inside b = Trees.is_inside b

module _ (leaves : List Leaf) (texts : List (List ℕ)) (bytes : List ℕ) where
  -- one member of each operand with that role among the first n children
  abbrev pub OneOfFirst : Role → ℕ → Trees.Branches → Chosen
  OneOfFirst role n Trees.no_branches ms = NoneOf ms
  OneOfFirst role zero (Trees.branch_then b bs) ms = NoneOf ms
  OneOfFirst role (suc n) (Trees.branch_then b bs) ms = OneAnd leaves texts bytes role b (OneOfFirst role n bs) ms

  -- the prefixes that end with the plain operands, which are the positive children or else the insides
  abbrev pub PlainPrefixes : Role → Trees.Branches → ℕ → Trees.Branches → Search
  PlainPrefixes role all i Trees.no_branches o = o ≡ None
  PlainPrefixes role all i (Trees.branch_then b bs) o =
      MatchBool (is_operand role b) (Then (OneSet (i ∷ []) (IsCounted (OneOfFirst role (suc i) all) NoneOf)) (PlainPrefixes role all (suc i) bs) o) (PlainPrefixes role all (suc i) bs o)

  -- the prefixes of all plain operands that end with an inside
  abbrev pub InsidePrefixes : Trees.Branches → ℕ → Trees.Branches → Search
  InsidePrefixes all i Trees.no_branches o = o ≡ None
  InsidePrefixes all i (Trees.branch_then b bs) o =
      MatchBool (Trees.is_inside b) (Then (OneSet (i ∷ []) (IsCounted (OneOfEach leaves texts bytes Plain all) (OneOfFirst Inside (suc i) all))) (InsidePrefixes all (suc i) bs) o) (InsidePrefixes all (suc i) bs o)

  abbrev pub Prefixes : Trees.Branches → Search
  Prefixes bs o = MatchBool (Trees.has Trees.is_positive bs) (Then (PlainPrefixes Plain bs 0 bs) (InsidePrefixes bs 0 bs) o) (PlainPrefixes Inside bs 0 bs o)

  -- the prefixes of the operands, then the set of all that the children allow
  abbrev pub AtAll : Trees.Branches → Search
  AtAll bs o = Then (Prefixes bs) (OneSet [] (Meets leaves texts bytes (Trees.all_of bs) None)) o

  abbrev mutual
    -- the sets of a formula: those of its children in order, then the prefixes of its operands, then its own
    pub Over : Trees.Tree → Search
    Over (Trees.leaf k) o = LeafSearch (slice_get leaves k) o
    Over (Trees.regex k) o = OneSet [] (IsMatch texts bytes k) o
    Over (Trees.some_of ts) o = Then (OverTrees 0 ts) (OneSet [] (MeetsSome leaves texts bytes ts)) o
    Over (Trees.all_of bs) o = Then (OverBranches 0 bs) (AtAll bs) o

    pub OverTrees : ℕ → Trees.Trees → Search
    OverTrees i Trees.no_trees o = Nothing o
    OverTrees i (Trees.tree_then t ts) o = Then (InChild i (Over t)) (OverTrees (suc i) ts) o

    pub OverBranches : ℕ → Trees.Branches → Search
    OverBranches i Trees.no_branches o = Nothing o
    OverBranches i (Trees.branch_then b bs) o = Then (InChild i (OverBranch b)) (OverBranches (suc i) bs) o

    pub OverBranch : Trees.Branch → Search
    OverBranch (Trees.positive t) o = Over t o
    OverBranch (Trees.inside t) o = Over t o
    OverBranch (Trees.without t) o = Over t o
    OverBranch (Trees.outside t) o = Over t o
    OverBranch (Trees.meta_pattern name t) o = Over t o
    OverBranch _ o = Nothing o
