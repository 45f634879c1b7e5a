-- Where expressions stand.
use Rattle.std.specs.Prelude.{◌≤◌, IsTrue, List}
use Rattle.node_tree.specs.declared.span.Span.{Span}
use Rattle.node_tree.specs.Kinds.{is_expression}
use Rattle.node_tree.specs.Numbers.{Numbered}
use Rattle.node_tree.specs.Tree.{kind_of, span_of}
use Rattle.graph_form.specs.Sets.{Among}
use Rattle.taint_tables.specs.declared.hull.Hull.{Hull}

-- the span neither begins behind the last beginning of the hull nor ends before its first end
abbrev pub Meets : Hull → Span → Type 0
Meets hull span = (span.from ≤ hull.last_begin) × (hull.first_end ≤ span.to)

-- the expressions among these nodes do
abbrev pub MeetsAll : Hull → List Numbered → Type 0
MeetsAll hull nodes = (s : Numbered) → Among nodes s → IsTrue (is_expression (kind_of s.node)) → Meets hull (span_of s.node)

-- the one hull goes at least as far as the other
abbrev pub GoesAsFar : Hull → Hull → Type 0
GoesAsFar hull other = (other.last_begin ≤ hull.last_begin) × (hull.first_end ≤ other.first_end)
