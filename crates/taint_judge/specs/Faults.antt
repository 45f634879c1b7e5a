-- Why a rule finds nothing where it follows data.
use Rattle.std.specs.Prelude.{ℕ, List, Some}
use Rattle.node_tree.specs.declared.node.Node.{Node}
use Rattle.rule_form.specs.declared.rule.TaintRule.{TaintRule}
use Rattle.tree_match.specs.declared.leaf.Leaf.{Leaf}
use Rattle.taint_judge.specs.declared.fault.FollowFault.{FollowFault}
use Rattle.taint_judge.specs.declared.fault.FollowFault.TheVariants as faults
use Rattle.taint_judge.specs.Lists.{OverRule}
use Rattle.taint_judge.specs.Follows.{IsTooLarge}

-- a fault names the first set with too many members, or the first function that is too large; want of memory has no cause
abbrev pub IsFollowFault : List Leaf → List (List ℕ) → List ℕ → Node → TaintRule → FollowFault → Type 0
IsFollowFault leaves texts bytes root rule faults.Memory = Unit {0}
IsFollowFault leaves texts bytes root rule (faults.Crowded list numbers) = OverRule leaves texts bytes rule (Some (list, numbers))
IsFollowFault leaves texts bytes root rule (faults.TooLarge at) = IsTooLarge leaves texts bytes root rule at
