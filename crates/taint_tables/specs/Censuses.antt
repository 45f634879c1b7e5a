-- The names and the sources of a unit with their numbers.
use Rattle.std.specs.Prelude.{◌≡◌, ◌↔◌, ℕ, List, map, slice_get, Some}
use Rattle.std.specs.Borrow.{Bor}
use Rattle.std.specs.Cmp.Lexicographic.{slice_cmp}
use Rattle.std.specs.Ordering.{nat_cmp}
use Rattle.std.specs.declared.cmp.Ordering.{Ordering}
use Rattle.node_tree.specs.declared.node.Node.{Node}
use Rattle.node_tree.specs.declared.span.Span.{Span}
use Rattle.graph_form.specs.declared.graph.Point.{Point}
use Rattle.graph_form.specs.Sets.{Among}
use Rattle.taint_tables.specs.declared.census.Census.{Census}
use Rattle.taint_tables.specs.Numbers.{numbers_of}
use Rattle.taint_tables.specs.Names.{names_among, sources_among}

-- what references to texts point to
abbrev pub texts : List (Bor (List ℕ)) → List (List ℕ)
texts = map (λ (key : Bor (List ℕ)). key.now)

-- the order of references to texts
abbrev pub key_cmp : Bor (List ℕ) → Bor (List ℕ) → Ordering
key_cmp a b = slice_cmp nat_cmp a.now b.now

-- the names of a census in the order of their numbers
abbrev pub texts_of : Census → List (List ℕ)
texts_of census = texts census.names.keys.items

-- the number of a name or a source is its place, so that each stands there once
pub record AreNumbered (census : Census) : Type 0 where
  pub names : (n : List ℕ) (i : ℕ) → ((numbers_of census).name n ≡ Some i) ↔ (slice_get (texts_of census) i ≡ Some n)
  pub sources : (s : Span) (i : ℕ) → ((numbers_of census).source s ≡ Some i) ↔ (slice_get census.sources.keys.items i ≡ Some s)

-- the census has the names at these points and the parameters of the unit, and those of the sources that stand there
pub record IsCensus (nodes : List Node) (unit : ℕ) (points : List Point) (sources : List Span) (census : Census) : Type 0 where
  pub numbered : AreNumbered census
  pub has_names : (n : List ℕ) → Among (texts_of census) n ↔ Among (names_among nodes unit points) n
  pub has_sources : (s : Span) → Among census.sources.keys.items s ↔ Among (sources_among nodes unit points sources) s
