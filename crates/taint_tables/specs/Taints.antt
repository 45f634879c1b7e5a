-- Facts: the sources of a unit by number, and then its names; and which of them taint a node.
use Rattle.std.specs.Prelude.{◌≡◌, ◌⊎◌, ◌+◌, ℕ, IsTrue, List, Some}
use Rattle.node_tree.specs.declared.node.Node.{Node}
use Rattle.node_tree.specs.declared.span.Span.{Span}
use Rattle.node_tree.specs.Tree.{kind_of, text_of, span_of}
use Rattle.graph_form.specs.Sets.{Among}
use Rattle.assignments.specs.Targets.{is_name}
use Rattle.taint_form.specs.Expressions.{exposed}
use Rattle.taint_tables.specs.Numbers.{Numbering}

-- the fact is that of the name
abbrev pub IsFactOf : Numbering → List ℕ → ℕ → Type 0
IsFactOf numbers name fact = (m : ℕ) × (numbers.name name ≡ Some m) × (fact ≡ numbers.sources + m)

-- the fact is that of the name that an expression is
abbrev pub DenotesName : Numbering → Node → ℕ → Type 0
DenotesName numbers e fact = IsTrue (is_name (kind_of e)) × IsFactOf numbers (text_of e) fact

-- the fact is that of an expression: it is that source, or that name
abbrev pub Denotes : Numbering → Node → ℕ → Type 0
Denotes numbers e fact = (numbers.source (span_of e) ≡ Some fact) ⊎ DenotesName numbers e fact

-- the fact is that of one of these expressions
abbrev pub DenotesAny : Numbering → List Node → ℕ → Type 0
DenotesAny numbers nodes fact = (e : Node) × Among nodes e × Denotes numbers e fact

-- the fact taints the node
abbrev pub Taints : List Span → Numbering → Node → ℕ → Type 0
Taints sanitizers numbers n fact = (e : Node) × Among (exposed sanitizers n) e × Denotes numbers e fact
