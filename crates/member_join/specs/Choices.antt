-- Choices of one member of each operand.
use Rattle.std.specs.Prelude.{◌≡◌, ◌↔◌, ◌≤◌, List, [], ◌∷◌, ◌++◌, map, IsTrue, true}
use Rattle.node_tree.specs.declared.span.Span.{Span}
use Rattle.meta_bind.specs.declared.bound.Bound.{Bound}
use Rattle.meta_bind.specs.Bounds.{Agree}
use Rattle.meta_bind.specs.Merges.{merged, extended}
use Rattle.node_match.specs.Sets.{Among}
use Rattle.tree_match.specs.Members.{Member}
use Rattle.member_join.specs.declared.state.State.{State}
use Rattle.sorted_sets.specs.Sizes.{Each}
use Rattle.member_join.specs.Ranges.{IsShared, HasBytes}

abbrev pub range_of : Member → Span
range_of m = m.0

abbrev pub binding_of : Member → List Bound
binding_of m = m.1

-- each two of the bindings agree
abbrev pub AllAgree : List (List Bound) → Type 0
AllAgree [] = Unit {0}
AllAgree (b ∷ bs) = Each (Agree b) bs × AllAgree bs

-- the names of a binding and of those that follow, each once; of several places of a name the one that begins later, and of
-- those the one that ends first
abbrev pub merged_with : List Bound → List (List Bound) → List Bound
merged_with b [] = b
merged_with b (c ∷ cs) = merged_with (merged b c) cs

abbrev pub merged_all : List (List Bound) → List Bound
merged_all bs = merged_with [] bs

-- sets of lists with one member of each operand
abbrev pub Chosen : Type 1
Chosen = List Member → Type 0

-- one of that set first, then such a list
abbrev pub FirstOf : (Member → Type 0) → Chosen → Chosen
FirstOf Set Rest [] = ⊥
FirstOf Set Rest (m ∷ ms) = Set m × Rest ms

-- no member
abbrev pub NoneOf : Chosen
NoneOf ms = ms ≡ []

-- a choice of one member of each plain operand and of each inside, where all bindings agree: the bytes that the ranges share,
-- whether these are a chosen plain range, what the plain ones bind, and what the insides bind
pub record IsChoice (Plain Inside : Chosen) (s : State) : Type 0 where
  pub chosen : List Member
  pub around : List Member
  pub plain_members : Plain chosen
  pub inside_members : Inside around
  pub agree : AllAgree (map binding_of (chosen ++ around))
  pub range : IsShared s.range (map range_of (chosen ++ around))
  pub marked : IsTrue s.marked ↔ Among (map range_of chosen) s.range
  pub plain : s.plain ≡ merged_all (map binding_of chosen)
  pub inside : s.inside ≡ merged_all (map binding_of around)

-- the range and the binding of a choice whose range is a chosen plain one, where the chosen ranges have an intersection: that
-- of ranges that lie apart would end before it begins; the place of a name is that of the plain operands, where they bind it
pub record IsMet (Plain Inside : Chosen) (m : Member) : Type 0 where
  pub state : State
  pub choice : IsChoice Plain Inside state
  pub ends_last : state.range.from ≤ state.range.to
  pub marked : state.marked ≡ true
  pub range : m.0 ≡ state.range
  pub binding : m.1 ≡ extended state.plain state.inside

-- the choices of which a prefix of the operands may have 10,000: those whose range has a byte
abbrev pub IsCounted : Chosen → Chosen → State → Type 0
IsCounted Plain Inside s = IsChoice Plain Inside s × HasBytes s.range
