-- The lists of a rule that follows data, and the first of their sets that has more than 10,000 members.
use Rattle.std.specs.Prelude.{◌≡◌, ◌⊎◌, ℕ, List, [], ◌∷◌, map, codes, Option, None, Some}
use Rattle.std.specs.Borrow.{Bor}
use Rattle.std.specs.List.{flat_map}
use Rattle.rule_form.specs.declared.formula.Formula.{Formula}
use Rattle.rule_form.specs.declared.rule.Propagator.{Propagator}
use Rattle.rule_form.specs.declared.rule.TaintRule.{TaintRule}
use Rattle.tree_match.specs.declared.leaf.Leaf.{Leaf}
use Rattle.tree_match.specs.Leaf.{IsWhole}
use Rattle.tree_match.specs.Members.{Member}
use Rattle.member_join.specs.Limits.{Search}
use Rattle.range_algebra.specs.Trees.{tree_of, trees_of}
use Rattle.range_algebra.specs.Meets.{Meets}
use Rattle.range_algebra.specs.Crowds.{OverTrees}
use Rattle.taint_judge.specs.declared.list.RuleList.{RuleList}
use Rattle.taint_judge.specs.declared.list.RuleList.TheVariants.{Sources, Sinks, Sanitizers, Propagators}
use Rattle.taint_judge.specs.declared.fault.FollowFault.{FollowFault}
use Rattle.taint_judge.specs.declared.fault.FollowFault.TheVariants as faults

-- the word of a list in a notice
abbrev pub list_word : RuleList → List ℕ
list_word Sources = codes "sources"
list_word Sinks = codes "sinks"
list_word Sanitizers = codes "sanitizers"
list_word Propagators = codes "propagators"

abbrev pub formula_of : Propagator → Formula
formula_of p = p.formula

-- the formulas of a list
abbrev pub formulas_in : RuleList → TaintRule → List Formula
formulas_in Sources rule = rule.sources
formulas_in Sinks rule = rule.sinks
formulas_in Sanitizers rule = rule.sanitizers
formulas_in Propagators rule = map formula_of rule.propagators

-- formulas that are lent
abbrev pub lent : List (Bor Formula) → List Formula
lent formulas = map (λ (f : Bor Formula). f.now) formulas

-- the members of all these lists, one list after the other
abbrev pub together : List (List Member) → List Member
together each = flat_map (λ (members : List Member). members) each

-- the first set of a rule that has too many members: its list, the number of the formula there and those of the children
abbrev pub RuleSearch : Type 1
RuleSearch = Option (RuleList × List ℕ) → Type 0

-- a search in one list
abbrev pub InList : RuleList → Search → RuleSearch
InList list Found None = Found None
InList list Found (Some p) = (p.0 ≡ list) × Found (Some p.1)

-- a search, and where it finds none the next
abbrev pub AndThen : RuleSearch → RuleSearch → RuleSearch
AndThen First Next None = First None × Next None
AndThen First Next (Some p) = First (Some p) ⊎ (First None × Next (Some p))

-- a fault names the set that the search finds; want of memory has no cause
abbrev pub IsCrowdedBy : RuleSearch → FollowFault → Type 0
IsCrowdedBy Found faults.Memory = Unit {0}
IsCrowdedBy Found (faults.Crowded list numbers) = Found (Some (list, numbers))
IsCrowdedBy Found (faults.TooLarge at) = ⊥

module _ (leaves : List Leaf) (texts : List (List ℕ)) (bytes : List ℕ) where
  -- the members of each of the formulas: all of them, in order and each once
  abbrev pub AreEach : List Formula → List (List Member) → Type 0
  AreEach [] each = each ≡ []
  AreEach (f ∷ fs) [] = ⊥
  AreEach (f ∷ fs) (members ∷ each) = IsWhole (Meets leaves texts bytes (tree_of f) None) members × AreEach fs each

  -- the sets of formulas, in order
  abbrev pub OverFormulas : List Formula → Search
  OverFormulas formulas o = OverTrees leaves texts bytes 0 (trees_of (map tree_of formulas)) o

  abbrev pub OverList : TaintRule → RuleList → RuleSearch
  OverList rule list o = InList list (OverFormulas (formulas_in list rule)) o

  -- the sets of a rule: those of its sources, its sinks, its sanitizers and its propagators
  abbrev pub OverRule : TaintRule → RuleSearch
  OverRule rule o = AndThen (OverList rule Sources) (AndThen (OverList rule Sinks) (AndThen (OverList rule Sanitizers) (OverList rule Propagators))) o
