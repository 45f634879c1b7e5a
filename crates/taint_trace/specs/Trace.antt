-- The least path on which a source gets to a range.
use Rattle.std.specs.Prelude.{◌≡◌, ◌⊎◌, ◌<◌, ◌≤◌, ◌+◌, ◌*◌, ℕ, List, [], ◌∷◌, length, slice_get, Some}
use Rattle.std.specs.Set.{distinct_count}
use Rattle.std.specs.Str.{bytes_eq}
use Rattle.node_tree.specs.declared.node.Node.{Node}
use Rattle.node_tree.specs.declared.span.Span.{Span}
use Rattle.graph_form.specs.declared.graph.Point.{Point}
use Rattle.graph_form.specs.Sets.{Among}
use Rattle.flow_graph.specs.Units.{units_of, points_of, IsPointBefore}
use Rattle.taint_tables.specs.declared.sets.TaintSets.{TaintSets}
use Rattle.taint_flow.specs.Sizes.{same_point, names_of}
use Rattle.taint_flow.specs.Traces.{IsHitPath}

-- at the first place where the paths differ, the first one has the point that stands before: by node, and then by role
abbrev pub Precedes : List Point → List Point → Type 0
Precedes [] qs = ⊥
Precedes (p ∷ ps) [] = ⊥
Precedes (p ∷ ps) (q ∷ qs) = IsPointBefore p q ⊎ ((p ≡ q) × Precedes ps qs)

-- fewer points, or as many, and no point that stands behind the other's at the first place where they differ
abbrev pub IsUpTo : List Point → List Point → Type 0
IsUpTo ps qs = (length ps < length qs) ⊎ ((length ps ≡ length qs) × (Precedes ps qs ⊎ (ps ≡ qs)))

-- no path of the unit on which the source hits the range has fewer points, and of those with as many this one is the least
pub record IsLeastPath (root : Node) (sets : TaintSets) (source range : Span) (unit : ℕ) (path : List Point) : Type 0 where
  pub hits : IsHitPath root unit sets source range path
  pub least : (other : List Point) → IsHitPath root unit sets source range other → IsUpTo path other

-- the source hits the range on no path of the unit
abbrev pub HasNoPath : Node → TaintSets → Span → Span → ℕ → Type 0
HasNoPath root sets source range unit = (path : List Point) → IsHitPath root unit sets source range path → ⊥

-- the least path of the first unit that has one
pub record IsTraceBy (root : Node) (sets : TaintSets) (source range : Span) (path : List Point) : Type 0 where
  pub place : ℕ
  pub unit : ℕ
  pub stands : slice_get (units_of root) place ≡ Some unit
  pub first : (i other : ℕ) → i < place → slice_get (units_of root) i ≡ Some other → HasNoPath root sets source range other
  pub least : IsLeastPath root sets source range unit path

-- ---- for private clauses

-- no unit has such a path
abbrev pub HasNoTrace : Node → TaintSets → Span → Span → Type 0
HasNoTrace root sets source range = (unit : ℕ) → Among (units_of root) unit → HasNoPath root sets source range unit

-- the points of the unit and the facts of one source are few enough
abbrev pub IsSmall : Node → ℕ → Type 0
IsSmall root unit = distinct_count same_point (points_of root unit) * (distinct_count bytes_eq (names_of root unit) + 1) ≤ 50000000
