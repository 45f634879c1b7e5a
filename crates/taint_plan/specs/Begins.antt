-- Which facts begin with which sources.
use Rattle.std.specs.Prelude.{◌≡◌, ℕ, List, Some}
use Rattle.node_tree.specs.Numbers.{Numbered}
use Rattle.node_tree.specs.Tree.{text_of, span_of}
use Rattle.graph_form.specs.Sets.{Among}
use Rattle.taint_tables.specs.Numbers.{Numbering}
use Rattle.taint_tables.specs.Taints.{IsFactOf}

-- the parameter is the source with that number, and the fact is that of its name
abbrev pub BeginsHere : Numbering → Numbered → ℕ → ℕ → Type 0
BeginsHere numbers s source fact = (numbers.source (span_of s.node) ≡ Some source) × IsFactOf numbers (text_of s.node) fact

abbrev pub BeginsAmong : Numbering → List Numbered → ℕ → ℕ → Type 0
BeginsAmong numbers parameters source fact = (s : Numbered) × Among parameters s × BeginsHere numbers s source fact
