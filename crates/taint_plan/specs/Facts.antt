-- Facts: the sources of a unit by number, and then its names.
use Rattle.std.specs.Prelude.{◌≡◌, ◌⊎◌, ℕ, IsTrue, List, [], ◌∷◌, Option, Some, None}
use Rattle.node_tree.specs.declared.node.Node.{Node}
use Rattle.node_tree.specs.declared.span.Span.{Span}
use Rattle.node_tree.specs.Numbers.{Numbered}
use Rattle.node_tree.specs.Tree.{pre_of, text_of, span_of}
use Rattle.graph_form.specs.declared.graph.Point.{Point}
use Rattle.graph_form.specs.Sets.{Among}
use Rattle.point_nodes.specs.Tops.{nodes_of}
use Rattle.assignments.specs.Assignments.{assigned_of}
use Rattle.assignments.specs.Declarators.{parameters_of}
use Rattle.assignments.specs.declared.assignment.Reach.TheVariants as reaches
use Rattle.assignments.specs.Seen.{Named, Assigned}
use Rattle.assignments.specs.Targets.{targets}
use Rattle.taint_tables.specs.Numbers.{Numbering}
use Rattle.taint_tables.specs.Taints.{IsFactOf, Taints}
use Rattle.taint_tables.specs.declared.sets.Carry.{Carry}
use Rattle.taint_tables.specs.declared.sets.TaintSets.{TaintSets}
use Rattle.taint_plan.specs.Spreading.{renews, is_plain, IsExpressionAt}

abbrev pub TaintsValue : List Span → Numbering → Option Node → ℕ → Type 0
TaintsValue sanitizers numbers None fact = ⊥
TaintsValue sanitizers numbers (Some value) fact = Taints sanitizers numbers value fact

abbrev pub IsTargetFact : Numbering → Assigned → ℕ → Type 0
IsTargetFact numbers a fact = (t : Named) × Among a.targets t × IsFactOf numbers t.name fact

abbrev pub IsRenewedFact : Numbering → Assigned → ℕ → Type 0
IsRenewedFact numbers a fact = IsTrue (renews a.manner) × (t : Named) × Among a.targets t × IsFactOf numbers t.name fact × IsTrue (is_plain t.reach)

-- from which facts before a point those after one node more come
abbrev pub AfterFact : List Span → Numbering → (ℕ → ℕ → Type 0) → Assigned → ℕ → ℕ → Type 0
AfterFact sanitizers numbers Before a from to =
    (IsTargetFact numbers a to × ((fact : ℕ) × TaintsValue sanitizers numbers a.value fact × Before from fact)) ⊎ (Before from to × (IsRenewedFact numbers a to → ⊥))

abbrev pub AfterFacts : List Span → Numbering → (ℕ → ℕ → Type 0) → List Assigned → ℕ → ℕ → Type 0
AfterFacts sanitizers numbers Before [] = Before
AfterFacts sanitizers numbers Before (a ∷ more) = AfterFacts sanitizers numbers (AfterFact sanitizers numbers Before a) more

-- a carry adds the one fact with the other, at a point with these nodes
pub record CarriesFact (sanitizers : List Span) (numbers : Numbering) (nodes : List Numbered) (c : Carry) (from to : ℕ) : Type 0 where
  pub place : Numbered
  pub stands : Among nodes place
  pub range : span_of place.node ≡ c.range
  pub source : Numbered
  pub source_is : IsExpressionAt nodes c.source source
  pub tainted : Taints sanitizers numbers source.node from
  pub target : Numbered
  pub target_is : IsExpressionAt nodes c.target target
  pub named : Named
  pub base : Among (targets reaches.Base target) named
  pub fact : IsFactOf numbers named.name to

-- a fact that a point changes nothing of
abbrev pub Same : ℕ → ℕ → Type 0
Same from to = to ≡ from

-- from which facts before a point those after it come
abbrev pub PointFactOf : List Node → List Span → List Carry → Numbering → Point → ℕ → ℕ → Type 0
PointFactOf nodes sanitizers carries numbers p from to =
    AfterFacts sanitizers numbers Same (assigned_of nodes p) from to ⊎ ((c : Carry) × Among carries c × CarriesFact sanitizers numbers (nodes_of nodes p) c from to)

abbrev pub PointFact : List Node → TaintSets → Numbering → Point → ℕ → ℕ → Type 0
PointFact nodes sets = PointFactOf nodes sets.sanitizers sets.carries

-- the fact begins at the entry of a unit with a source that has that number: it is its own, or that of a parameter that it is
abbrev pub BeginsBy : List Node → ℕ → Numbering → Span → ℕ → ℕ → Type 0
BeginsBy nodes unit numbers source number fact =
    (fact ≡ number) ⊎ ((n : List ℕ) × IsFactOf numbers n fact × ((s : Numbered) × Among (parameters_of nodes unit) s × (span_of s.node ≡ source) × (text_of s.node ≡ n)))

-- which facts are there after these points, the last one first, where a source has that number
abbrev pub Brought : Node → ℕ → TaintSets → Numbering → Span → ℕ → List Point → ℕ → Type 0
Brought root unit sets numbers source number [] fact = BeginsBy (pre_of root) unit numbers source number fact
Brought root unit sets numbers source number (last ∷ earlier) fact = (from : ℕ) × Brought root unit sets numbers source number earlier from × PointFact (pre_of root) sets numbers last from fact
