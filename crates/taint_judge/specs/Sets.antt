-- The sets of a rule that follows data.
use Rattle.std.specs.Prelude.{◌≡◌, ℕ, List, map}
use Rattle.node_tree.specs.declared.span.Span.{Span}
use Rattle.rule_form.specs.declared.formula.Formula.{Formula}
use Rattle.rule_form.specs.declared.rule.Propagator.{Propagator}
use Rattle.rule_form.specs.declared.rule.TaintRule.{TaintRule}
use Rattle.tree_match.specs.declared.leaf.Leaf.{Leaf}
use Rattle.tree_match.specs.Leaf.{IsWhole}
use Rattle.tree_match.specs.Members.{Member}
use Rattle.member_join.specs.Choices.{range_of}
use Rattle.range_algebra.specs.Trees.{tree_of, trees_of}
use Rattle.range_algebra.specs.Meets.{MeetsSome}
use Rattle.taint_tables.specs.declared.sets.Carry.{Carry}
use Rattle.taint_tables.specs.declared.sets.TaintSets.{TaintSets}
use Rattle.taint_judge.specs.Lists.{formula_of, together, AreEach}
use Rattle.taint_judge.specs.Carries.{carries_in}

module _ (leaves : List Leaf) (texts : List (List ℕ)) (bytes : List ℕ) where
  -- the ranges of the members of these formulas
  abbrev pub AreRanges : List Formula → List Span → Type 0
  AreRanges formulas ranges = (each : List (List Member)) × AreEach leaves texts bytes formulas each × (ranges ≡ map range_of (together each))

  -- what the propagators carry on
  abbrev pub AreCarries : List Propagator → List Carry → Type 0
  AreCarries propagators carries = (each : List (List Member)) × AreEach leaves texts bytes (map formula_of propagators) each × (carries ≡ carries_in propagators each)

  -- The members of the rule's sinks, all of them, in order and each once, and the ranges of all its sets. A set of the rule is
  -- the union of its formulas'.
  pub record AreSets (rule : TaintRule) (sinks : List Member) (sets : TaintSets) : Type 0 where
    pub sources : AreRanges rule.sources sets.sources
    pub members : IsWhole (MeetsSome leaves texts bytes (trees_of (map tree_of rule.sinks))) sinks
    pub places : sets.sinks ≡ map range_of sinks
    pub sanitizers : AreRanges rule.sanitizers sets.sanitizers
    pub carries : AreCarries rule.propagators sets.carries
