-- How large a unit is: its points, times its names times its sources, and one.
use Rattle.std.specs.Prelude.{◌≡◌, ◌<◌, ◌≤◌, ◌+◌, ◌*◌, ℕ, zero, suc, Bool, ◌==◌, ◌&&◌, List, slice_get, Option, Some, None}
use Rattle.std.specs.Set.{distinct_count}
use Rattle.std.specs.Str.{bytes_eq}
use Rattle.node_tree.specs.declared.node.Node.{Node}
use Rattle.node_tree.specs.declared.span.Span.{Span}
use Rattle.node_tree.specs.Tree.{pre_of, span_of}
use Rattle.graph_form.specs.declared.graph.Point.{Point}
use Rattle.graph_form.specs.Sets.{Among}
use Rattle.flow_graph.specs.Units.{units_of, points_of, role_place}
use Rattle.taint_tables.specs.declared.sets.TaintSets.{TaintSets}
use Rattle.taint_form.specs.Expressions.{same_span}
use Rattle.taint_tables.specs.Names.{names_among, sources_among}

-- the names of a unit: those at its points, and its parameters
abbrev pub names_of : Node → ℕ → List (List ℕ)
names_of root unit = names_among (pre_of root) unit (points_of root unit)

-- the sources of a unit
abbrev pub sources_of : Node → ℕ → TaintSets → List Span
sources_of root unit sets = sources_among (pre_of root) unit (points_of root unit) sets.sources

abbrev pub same_point : Point → Point → Bool
same_point a b = (a.node == b.node) && (role_place a.role == role_place b.role)

abbrev pub size_of : Node → ℕ → TaintSets → ℕ
size_of root unit sets =
    distinct_count same_point (points_of root unit) * (distinct_count bytes_eq (names_of root unit) * distinct_count same_span (sources_of root unit sets) + 1)

abbrev pub from_of : Option Node → ℕ
from_of None = 0
from_of (Some n) = (span_of n).from

-- where a unit begins: the top level at 0, a function where it stands
abbrev pub start_of : Node → ℕ → ℕ
start_of root zero = 0
start_of root (suc k) = from_of (slice_get (pre_of root) (suc k))

-- no unit is too large
abbrev pub NoneLarge : Node → TaintSets → Type 0
NoneLarge root sets = (unit : ℕ) → Among (units_of root) unit → size_of root unit sets ≤ 50000000

-- the first unit that is too large begins there
pub record FirstLarge (root : Node) (sets : TaintSets) (at : ℕ) : Type 0 where
  pub place : ℕ
  pub unit : ℕ
  pub stands : slice_get (units_of root) place ≡ Some unit
  pub large : 50000000 < size_of root unit sets
  pub first : (i other : ℕ) → i < place → slice_get (units_of root) i ≡ Some other → size_of root other sets ≤ 50000000
  pub start : at ≡ start_of root unit
