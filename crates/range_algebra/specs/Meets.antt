-- The members of a formula.
use Rattle.std.specs.Prelude.{◌≡◌, ◌≤◌, ◌<◌, ◌⊎◌, ℕ, List, [], ◌∷◌, Option, None, Some, MatchOption, IsTrue, MatchBool, slice_get}
use Rattle.node_tree.specs.declared.span.Span.{Span}
use Rattle.meta_bind.specs.declared.bound.Bound.{Bound}
use Rattle.meta_bind.specs.Bounds.{Agree, bound_at}
use Rattle.meta_filter.specs.Values.{holds}
use Rattle.tree_match.specs.declared.leaf.Leaf.{Leaf}
use Rattle.tree_match.specs.declared.leaf.Leaf.TheVariants.{Full, Crowded}
use Rattle.node_match.specs.Sets.{Among}
use Rattle.tree_match.specs.Members.{Member}
use Rattle.member_join.specs.declared.operand.Role.{Role}
use Rattle.member_join.specs.declared.operand.Role.TheVariants.{Plain, Inside}
use Rattle.member_join.specs.Ranges.{IsWithin, HasBytes, ShareByte}
use Rattle.sorted_sets.specs.Sizes.{Any}
use Rattle.range_algebra.specs.Regexes.{matches_of, IsMatch, matches_bound}
use Rattle.range_algebra.specs.Trees
use Rattle.member_join.specs.Choices.{Chosen, FirstOf, NoneOf, IsMet}

-- a member of a pattern's set
abbrev pub InLeaf : Option Leaf → Member → Type 0
InLeaf None m = ⊥
InLeaf (Some (Full members)) m = Among members m
InLeaf (Some Crowded) m = ⊥

-- the given range with the empty binding, if one is given
abbrev pub IsGiven : Option Span → Member → Type 0
IsGiven None m = ⊥
IsGiven (Some range) m = m ≡ (range, [])

-- the operands: the positive children and the insides, or the insides alone as plain ones, or the given range
abbrev pub IsOperandsMember : Trees.Branches → Chosen → Chosen → Option Span → Member → Type 0
IsOperandsMember bs Positives Insides given m =
    MatchBool (Trees.has Trees.is_positive bs) (IsMet Positives Insides m) (MatchBool (Trees.has Trees.is_inside bs) (IsMet Insides NoneOf m) (IsGiven given m))

-- the choice at the range of the name, where it is bound to one that isn't empty
abbrev pub IsShownAt : List ℕ → Member → Member → Type 0
IsShownAt name c m = (b : Bound) × (bound_at name c.1 ≡ Some b) × HasBytes b.span × (m ≡ (b.span, c.1))

-- the same for one of the names
abbrev pub IsShownAmong : List (List ℕ) → Member → Member → Type 0
IsShownAmong names c m = Any (λ (name : List ℕ). IsShownAt name c m) names

-- what is shown of a choice: without a focus the choice; else the choice at each range in focus that isn't empty
abbrev pub IsShown : Trees.Branches → Member → Member → Type 0
IsShown bs c m = MatchBool (Trees.has Trees.is_focus bs) (IsShownAmong (Trees.focused bs) c m) (m ≡ c)

module _ (leaves : List Leaf) (texts : List (List ℕ)) (bytes : List ℕ) where
  abbrev mutual
    -- the members of the formula; a formula without operands has the given range, if one is given
    pub Meets : Trees.Tree → Option Span → Member → Type 0
    Meets (Trees.leaf k) given m = InLeaf (slice_get leaves k) m
    Meets (Trees.regex k) given m = IsMatch texts bytes k m
    Meets (Trees.some_of ts) given m = MeetsSome ts m
    Meets (Trees.all_of bs) given m = (c : Member) × IsOperandsMember bs (OneOfEach Plain bs) (OneOfEach Inside bs) given c × Allowed bs c × IsShown bs c m

    -- a member of one of the formulas
    pub MeetsSome : Trees.Trees → Member → Type 0
    MeetsSome Trees.no_trees m = ⊥
    MeetsSome (Trees.tree_then t ts) m = Meets t None m ⊎ MeetsSome ts m

    -- one member of each operand with that role, in order
    pub OneOfEach : Role → Trees.Branches → Chosen
    OneOfEach role Trees.no_branches ms = NoneOf ms
    OneOfEach role (Trees.branch_then b bs) ms = OneAnd role b (OneOfEach role bs) ms

    pub OneAnd : Role → Trees.Branch → Chosen → Chosen
    OneAnd Plain (Trees.positive t) Rest ms = FirstOf (Meets t None) Rest ms
    OneAnd Inside (Trees.inside t) Rest ms = FirstOf (Meets t None) Rest ms
    OneAnd role b Rest ms = Rest ms

    -- all the children allow the choice
    pub Allowed : Trees.Branches → Member → Type 0
    Allowed Trees.no_branches c = Unit {0}
    Allowed (Trees.branch_then b bs) c = Allows b c × Allowed bs c

    -- `pattern-not`: none of the formula's members has the range, with a binding that agrees. `pattern-not-inside`: the range
    -- lies in none. `pattern-not-regex`: the range shares no byte with a match. A condition holds of what is bound, and is false
    -- of a name that isn't.
    pub Allows : Trees.Branch → Member → Type 0
    Allows (Trees.positive t) c = Unit {0}
    Allows (Trees.inside t) c = Unit {0}
    Allows (Trees.without t) c = (b : List Bound) → Meets t None (c.0, b) → Agree c.1 b → ⊥
    Allows (Trees.outside t) c = (m : Member) → Meets t None m → IsWithin c.0 m.0 → Agree c.1 m.1 → ⊥
    Allows (Trees.without_regex k) c = Any (ShareByte c.0) (matches_of texts bytes k) → ⊥
    Allows (Trees.meta_regex name k) c = IsTrue (matches_bound texts bytes k name c.1)
    Allows (Trees.meta_compare x) c = IsTrue (holds c.1 bytes x)
    Allows (Trees.meta_pattern name t) c = MatchOption (bound_at name c.1) ⊥ (λ b. (d : List Bound) × Meets t (Some b.span) (b.span, d) × Agree c.1 d)
    Allows (Trees.focus names) c = Unit {0}

  -- the choices of one member of each operand of the children
  abbrev pub IsChosen : Trees.Branches → Member → Type 0
  IsChosen bs m = IsOperandsMember bs (OneOfEach Plain bs) (OneOfEach Inside bs) None m
