-- The choices of operands by the members of each, and the prefixes of them.
use Rattle.std.specs.Prelude.{◌≡◌, List, [], ◌∷◌, ◌++◌, true}
use Rattle.meta_bind.specs.Bounds.{NamesAscend}
use Rattle.meta_bind.specs.Merges.{extended}
use Rattle.node_match.specs.Sets.{Among}
use Rattle.tree_match.specs.Members.{Member}
use Rattle.member_join.specs.declared.state.State.{State}
use Rattle.member_join.specs.declared.operand.Operand.{Operand}
use Rattle.sorted_sets.specs.Sizes.{Each, Any}
use Rattle.member_join.specs.Ranges.{HasBytes}
use Rattle.member_join.specs.Choices.{Chosen, FirstOf, NoneOf, IsChoice, IsCounted}
use Rattle.member_join.specs.Joins.{begun, IsNeeded}
use Rattle.member_join.specs.Limits.{Search, Nothing, Then, OneSet}

-- the names of the member's binding stand in order
abbrev pub Ascends : Member → Type 0
Ascends m = NamesAscend m.1

-- the names of all members of the operands stand in order
abbrev pub OperandsAscend : List Operand → Type 0
OperandsAscend operands = Each (λ (o : Operand). Each Ascends o.members.now) operands

-- one member of each operand, in order
abbrev pub ChosenFrom : List Operand → Chosen
ChosenFrom [] ms = NoneOf ms
ChosenFrom (o ∷ os) ms = FirstOf (Among o.members.now) (ChosenFrom os) ms

-- a choice of the operands so far that can lead to a member with those to come
abbrev pub IsReached : List Operand → List Operand → List Operand → State → Type 0
IsReached plains insides later s = IsChoice (ChosenFrom plains) (ChosenFrom insides) s × IsNeeded later s

-- the state of one of these members alone
abbrev pub IsBegun : List Member → State → Type 0
IsBegun members s = Any (λ (m : Member). begun m ≡ s) members

-- the member is what a state gives whose range is a chosen plain one
abbrev pub IsGivenBy : Member → State → Type 0
IsGivenBy m s = (s.marked ≡ true) × ((s.range, extended s.plain s.inside) ≡ m)

-- those of the states whose range has a byte
abbrev pub WithBytes : (State → Type 0) → State → Type 0
WithBytes Set s = Set s × HasBytes s.range

-- the prefixes that end with one of the plain operands that are left
abbrev pub PlainFronts : List Operand → List Operand → Search
PlainFronts done [] o = Nothing o
PlainFronts done (x ∷ xs) o = Then (OneSet (x.number ∷ []) (IsCounted (ChosenFrom (done ++ x ∷ [])) NoneOf)) (PlainFronts (done ++ x ∷ []) xs) o

-- the prefixes of all plain operands that end with one of the insides that are left
abbrev pub InsideFronts : List Operand → List Operand → List Operand → Search
InsideFronts plains done [] o = Nothing o
InsideFronts plains done (x ∷ xs) o = Then (OneSet (x.number ∷ []) (IsCounted (ChosenFrom plains) (ChosenFrom (done ++ x ∷ [])))) (InsideFronts plains (done ++ x ∷ []) xs) o

abbrev pub Fronts : List Operand → List Operand → Search
Fronts plains insides o = Then (PlainFronts [] plains) (InsideFronts plains [] insides) o
