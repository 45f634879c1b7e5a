-- The trace of a finding of a rule that follows data.
use Rattle.std.specs.Prelude.{◌≡◌, ℕ, List, Some}
use Rattle.node_tree.specs.declared.node.Node.{Node}
use Rattle.node_tree.specs.declared.span.Span.{Span}
use Rattle.meta_bind.specs.declared.finding.Finding.{Finding}
use Rattle.rule_form.specs.declared.rule.TaintRule.{TaintRule}
use Rattle.graph_form.specs.declared.graph.Point.{Point}
use Rattle.node_match.specs.Sets.{Among}
use Rattle.tree_match.specs.declared.leaf.Leaf.{Leaf}
use Rattle.tree_match.specs.Members.{Member}
use Rattle.taint_tables.specs.declared.sets.TaintSets.{TaintSets}
use Rattle.taint_judge.specs.Follows.{IsRead, AreFollowed}
use Rattle.taint_trace.specs.Trace.{IsTraceBy}

module _ (leaves : List Leaf) (texts : List (List ℕ)) (bytes : List ℕ) (root : Node) where
  -- the finding is one of those that the rule has
  abbrev pub IsFollowed : TaintRule → Finding → Type 0
  IsFollowed rule finding = (findings : List Finding) × AreFollowed leaves texts bytes root rule findings × Among findings finding

  -- the trace of its source to its range, by the sets of the rule
  pub record IsTraceOf (rule : TaintRule) (finding : Finding) (path : List Point) : Type 0 where
    pub sinks : List Member
    pub sets : TaintSets
    pub read : IsRead leaves texts bytes root rule sinks sets
    pub source : Span
    pub source_is : finding.source ≡ Some source
    pub trace : IsTraceBy root sets source finding.span path

-- the finding is one of a rule that has these sets
pub record IsFoundBy (root : Node) (sinks : List Member) (sets : TaintSets) (finding : Finding) : Type 0 where
  pub leaves : List Leaf
  pub texts : List (List ℕ)
  pub bytes : List ℕ
  pub rule : TaintRule
  pub read : IsRead leaves texts bytes root rule sinks sets
  pub followed : IsFollowed leaves texts bytes root rule finding
