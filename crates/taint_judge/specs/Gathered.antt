-- The members of each formula of a rule, and what they are together.
use Rattle.std.specs.Prelude.{◌≡◌, ◌↔◌, ℕ, List, map}
use Rattle.rule_form.specs.declared.rule.TaintRule.{TaintRule}
use Rattle.node_match.specs.Sets.{Among}
use Rattle.tree_match.specs.declared.leaf.Leaf.{Leaf}
use Rattle.tree_match.specs.Ascending.{IsAscending}
use Rattle.tree_match.specs.Members.{Member, member_cmp}
use Rattle.member_join.specs.Choices.{range_of}
use Rattle.taint_tables.specs.declared.sets.TaintSets.{TaintSets}
use Rattle.taint_judge.specs.declared.sets.Gathered.{Gathered}
use Rattle.taint_judge.specs.Lists.{formula_of, together, AreEach}
use Rattle.taint_judge.specs.Carries.{carries_in}

-- the members of each formula of each list
pub record AreGathered (leaves : List Leaf) (texts : List (List ℕ)) (bytes : List ℕ) (rule : TaintRule) (g : Gathered) : Type 0 where
  pub sources : AreEach leaves texts bytes rule.sources g.sources.items
  pub sinks : AreEach leaves texts bytes rule.sinks g.sinks.items
  pub sanitizers : AreEach leaves texts bytes rule.sanitizers g.sanitizers.items
  pub carriers : AreEach leaves texts bytes (map formula_of rule.propagators) g.carriers.items

-- the members of all these lists, in order and each once
pub record IsUnion (each : List (List Member)) (members : List Member) : Type 0 where
  pub exact : (m : Member) → Among members m ↔ Among (together each) m
  pub ordered : IsAscending member_cmp members

-- the ranges of what was gathered
pub record AreRangesOf (rule : TaintRule) (g : Gathered) (sinks : List Member) (sets : TaintSets) : Type 0 where
  pub sources : sets.sources ≡ map range_of (together g.sources.items)
  pub places : sets.sinks ≡ map range_of sinks
  pub sanitizers : sets.sanitizers ≡ map range_of (together g.sanitizers.items)
  pub carries : sets.carries ≡ carries_in rule.propagators g.carriers.items
