-- The traces of findings: how data gets from its source to the range.
use Rattle.std.specs.Prelude.{◌≡◌, ◌⊎◌, ℕ, Bool, true, false, List, [], ◌∷◌, ◌++◌, map, Option, None, Some, slice_get, IsSome}
use Rattle.node_tree.specs.declared.node.Node.{Node}
use Rattle.node_tree.specs.declared.view.Lang.{Lang}
use Rattle.node_tree.specs.Tree.{pre_of, span_of}
use Rattle.graph_form.specs.declared.graph.Point.{Point}
use Rattle.graph_form.specs.declared.graph.Role.{Role}
use Rattle.meta_bind.specs.declared.finding.Finding.{Finding}
use Rattle.rule_form.specs.declared.rule.Body.TheVariants.{Taint}
use Rattle.rule_form.specs.declared.rule.Part.{Part}
use Rattle.rule_form.specs.declared.rule.Rule.{Rule}
use Rattle.rule_form.specs.declared.rule.TaintRule.{TaintRule}
use Rattle.node_match.specs.Sets.{Among}
use Rattle.tree_match.specs.declared.leaf.Leaf.{Leaf}
use Rattle.part_judge.specs.declared.outcome.Outcome.{Outcome}
use Rattle.part_judge.specs.Findings.{findings_of}
use Rattle.report_form.specs.declared.report.Reported.{Reported}
use Rattle.taint_trace.specs.Findings.{IsTraceOf}
use Rattle.file_results.specs.Looking.{LeafIn, LeafOf, AreLeaves, LooksAt, PartFindsIn}

-- ---- what is reported of a path

-- where a node begins
abbrev pub start_of : Option Node → ℕ
start_of None = 0
start_of (Some node) = (span_of node).from

-- where the node of a point begins, and the point's role
abbrev pub stop_of : Node → Point → ℕ × Role
stop_of tree point = (start_of (slice_get (pre_of tree) point.node), point.role)

-- the stops of a path: its points without the first, which is the entry
abbrev pub stops_of : Node → List Point → List (ℕ × Role)
stops_of tree [] = []
stops_of tree (entry ∷ points) = map (stop_of tree) points

-- ---- which path it is

-- the part has the finding in a text with that tree
abbrev pub PartHas : LeafIn → List (List ℕ) → List ℕ → Node → Part → Finding → Type 0
PartHas leaf_in texts text tree part finding = (outcome : Outcome) × PartFindsIn leaf_in texts text tree part outcome × Among (findings_of outcome) finding

-- the part follows data, and this is how that of the finding gets from its source to its range
pub record IsPartTrace (leaf_in : LeafIn) (texts : List (List ℕ)) (text : List ℕ) (tree : Node) (part : Part) (finding : Finding) (path : List Point) : Type 0 where
  pub leaves : List Leaf
  pub are : AreLeaves leaf_in tree part.patterns leaves
  pub rule : TaintRule
  pub follows : part.body ≡ Taint rule
  pub trace : IsTraceOf leaves texts text tree rule finding path

-- the same by the first part of a rule that looks at files of the language and has the finding
pub record IsRuleTrace (leaf_of : LeafOf) (lang : Lang) (text : List ℕ) (tree : Node) (rule : Rule) (finding : Finding) (path : List Point) : Type 0 where
  pub before : List Part
  pub part : Part
  pub after : List Part
  pub parts_are : rule.parts ≡ before ++ part ∷ after
  pub looks : LooksAt part lang
  pub has : PartHas (leaf_of lang) rule.texts text tree part finding
  pub first : (other : Part) → Among before other → LooksAt other lang → PartHas (leaf_of lang) rule.texts text tree other finding → ⊥
  pub trace : IsPartTrace (leaf_of lang) rule.texts text tree part finding path

-- ---- findings with their traces

-- the same with these stops
abbrev pub with_stops : Reported → List (ℕ × Role) → Reported
with_stops r stops = record { path = r.path; id = r.id; severity = r.severity; message = r.message; fix = r.fix; start = r.start; end = r.end; finding = r.finding; trace = stops }

-- the finding comes from a source, and has the trace by its rule, which is one of these
pub record IsTraced (leaf_of : LeafOf) (rules : List Rule) (lang : Lang) (text : List ℕ) (tree : Node) (bare r : Reported) : Type 0 where
  pub comes : IsSome bare.finding.source
  pub rule : Rule
  pub runs : Among rules rule
  pub id_is : rule.id ≡ bare.id
  pub path : List Point
  pub by_rule : IsRuleTrace leaf_of lang text tree rule bare.finding path
  pub is : r ≡ with_stops bare (stops_of tree path)

-- the finding with its trace: if traces are wanted and it comes from a source, the one by its rule; else none, as it was
abbrev pub HasTrace : Bool → LeafOf → List Rule → Lang → List ℕ → Node → Reported → Reported → Type 0
HasTrace false leaf_of rules lang text tree bare r = r ≡ bare
HasTrace true leaf_of rules lang text tree bare r = ((bare.finding.source ≡ None) × (r ≡ bare)) ⊎ IsTraced leaf_of rules lang text tree bare r
