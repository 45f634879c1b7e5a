-- What a point does to the set of names that a source taints.
use Rattle.std.specs.Prelude.{◌≡◌, ◌⊎◌, ℕ, Bool, true, false, IsTrue, List, [], ◌∷◌, Option, Some, None}
use Rattle.node_tree.specs.declared.node.Node.{Node}
use Rattle.node_tree.specs.declared.span.Span.{Span}
use Rattle.node_tree.specs.Kinds.{is_expression}
use Rattle.node_tree.specs.Numbers.{Numbered}
use Rattle.node_tree.specs.Tree.{kind_of, text_of, span_of}
use Rattle.graph_form.specs.declared.graph.Point.{Point}
use Rattle.graph_form.specs.Sets.{Among}
use Rattle.point_nodes.specs.Tops.{nodes_of}
use Rattle.assignments.specs.declared.assignment.Manner.{Manner}
use Rattle.assignments.specs.declared.assignment.Manner.TheVariants as manners
use Rattle.assignments.specs.declared.assignment.Reach.{Reach}
use Rattle.assignments.specs.declared.assignment.Reach.TheVariants as reaches
use Rattle.assignments.specs.Assignments.{assigned_of}
use Rattle.assignments.specs.Seen.{Named, Assigned}
use Rattle.assignments.specs.Targets.{is_name, targets}
use Rattle.taint_tables.specs.declared.sets.TaintSets.{TaintSets}
use Rattle.taint_tables.specs.declared.sets.Carry.{Carry}
use Rattle.taint_form.specs.Expressions.{exposed}

-- an exposed expression is the source itself, or a name of the set
abbrev pub Bears : Span → (List ℕ → Type 0) → Node → Type 0
Bears source N e = (span_of e ≡ source) ⊎ (IsTrue (is_name (kind_of e)) × N (text_of e))

-- an expression is tainted where something exposed in it bears taint
abbrev pub Tainted : TaintSets → Span → (List ℕ → Type 0) → Node → Type 0
Tainted sets source N n = (e : Node) × Among (exposed sets.sanitizers n) e × Bears source N e

-- the value that is assigned is tainted
abbrev pub Gives : TaintSets → Span → (List ℕ → Type 0) → Option Node → Type 0
Gives sets source N None = ⊥
Gives sets source N (Some value) = Tainted sets source N value

-- the targets get a new value, apart from what they held before
abbrev pub renews : Manner → Bool
renews manners.Augmented = false
renews manners.Stepped = false
renews _ = true

-- the target isn't only what holds the object
abbrev pub is_plain : Reach → Bool
is_plain reaches.Base = false
is_plain _ = true

abbrev pub IsTarget : Assigned → List ℕ → Type 0
IsTarget a n = (t : Named) × Among a.targets t × (t.name ≡ n)

-- nothing is left of what the name held before
abbrev pub IsRenewed : Assigned → List ℕ → Type 0
IsRenewed a n = IsTrue (renews a.manner) × (t : Named) × Among a.targets t × (t.name ≡ n) × IsTrue (is_plain t.reach)

-- the names that are tainted after a node: its targets where the value is, and what was tainted and isn't renewed
abbrev pub AfterNode : TaintSets → Span → (List ℕ → Type 0) → Assigned → List ℕ → Type 0
AfterNode sets source N a n = (IsTarget a n × Gives sets source N a.value) ⊎ (N n × (IsRenewed a n → ⊥))

-- the nodes of a point, one after the other
abbrev pub AfterNodes : TaintSets → Span → (List ℕ → Type 0) → List Assigned → List ℕ → Type 0
AfterNodes sets source N [] = N
AfterNodes sets source N (a ∷ more) = AfterNodes sets source (AfterNode sets source N a) more

-- one of these nodes is an expression with that range
pub record IsExpressionAt (nodes : List Numbered) (range : Span) (s : Numbered) : Type 0 where
  pub there : Among nodes s
  pub expression : IsTrue (is_expression (kind_of s.node))
  pub range_is : span_of s.node ≡ range

-- the carry adds the name after a point with these nodes: one of them has its range, an expression with its source's range is
-- tainted before the point, and the name is an expression with its target's range, or the base of one
pub record Carries (sets : TaintSets) (source : Span) (N : List ℕ → Type 0) (nodes : List Numbered) (c : Carry) (n : List ℕ) : Type 0 where
  pub place : Numbered
  pub stands : Among nodes place
  pub range : span_of place.node ≡ c.range
  pub from : Numbered
  pub from_is : IsExpressionAt nodes c.source from
  pub tainted : Tainted sets source N from.node
  pub to : Numbered
  pub to_is : IsExpressionAt nodes c.target to
  pub target : Named
  pub base : Among (targets reaches.Base to) target
  pub name : target.name ≡ n

-- the names that are tainted after a point of a tree with these nodes in preorder
abbrev pub After : List Node → TaintSets → Span → (List ℕ → Type 0) → Point → List ℕ → Type 0
After nodes sets source N p n =
    AfterNodes sets source N (assigned_of nodes p) n ⊎ ((c : Carry) × Among sets.carries c × Carries sets source N (nodes_of nodes p) c n)
