-- The numbers that a table of names and one of sources give.
use Rattle.std.specs.Prelude.{ℕ, List, length, Option}
use Rattle.std.specs.Ordering.{nat_cmp}
use Rattle.std.specs.Borrow.{Bor}
use Rattle.std.specs.BTreeMap.{get, get_by}
use Rattle.std.specs.Cmp.Lexicographic.{slice_cmp}
use Rattle.node_tree.specs.declared.span.Span.{Span}
use Rattle.node_tree.specs.Span.{span_cmp}
use Rattle.taint_tables.specs.declared.census.Census.{Census}

-- the numbers of sources and names
pub record Numbering : Type 0 where
  pub sources : ℕ
  pub source : Span → Option ℕ
  pub name : List ℕ → Option ℕ

-- those of a census
abbrev pub numbers_of : Census → Numbering
numbers_of census = record {
  sources = length census.sources.keys.items;
  source = λ span. get span_cmp census.sources.numbers span;
  name = λ name. get_by (λ (key : Bor (List ℕ)). slice_cmp nat_cmp name key.now) census.names.numbers;
}
