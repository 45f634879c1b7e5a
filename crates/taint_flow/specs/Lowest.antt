-- The least source of each sink, among those that were met so far.
use Rattle.std.specs.Prelude.{◌≡◌, ◌⊎◌, ◌↔◌, ◌<◌, ℕ, List, length, slice_get, Option, Some}
use Rattle.node_tree.specs.declared.node.Node.{Node}
use Rattle.node_tree.specs.declared.span.Span.{Span}
use Rattle.graph_form.specs.declared.graph.Point.{Point}
use Rattle.graph_form.specs.Sets.{Among}
use Rattle.flow_graph.specs.Units.{InOrder}
use Rattle.taint_flow.specs.declared.hit.TaintHit.{TaintHit}
use Rattle.taint_tables.specs.declared.sets.TaintSets.{TaintSets}
use Rattle.taint_flow.specs.Taint.{HitsAt, IsUpTo}

-- the table has that source for the sink with that place
abbrev pub Has : List (Option Span) → ℕ → Span → Type 0
Has table sink source = slice_get table sink ≡ Some (Some source)

-- no sink has one
abbrev pub IsNone : List (Option Span) → Type 0
IsNone table = (sink : ℕ) (source : Span) → Has table sink source → ⊥

-- each sink has in the new table the least one of these sources and of that in the old table
pub record Lowers (These : ℕ → Span → Type 0) (old new : List (Option Span)) : Type 0 where
  pub size : length new ≡ length old
  pub some : (sink : ℕ) (source : Span) → Has new sink source → Has old sink source ⊎ These sink source
  pub kept : (sink : ℕ) (source : Span) → Has old sink source → (s : Span) × Has new sink s × IsUpTo s source
  pub least : (sink : ℕ) (source : Span) → These sink source → (s : Span) × Has new sink s × IsUpTo s source

-- each sink has the least one of these sources, if there is any
pub record AreLeast (These : ℕ → Span → Type 0) (table : List (Option Span)) : Type 0 where
  pub some : (sink : ℕ) (source : Span) → Has table sink source → These sink source
  pub least : (sink : ℕ) (source : Span) → These sink source → (s : Span) × Has table sink s × IsUpTo s source

-- the hits are those of the table, in the order of sinks
pub record AreListed (table : List (Option Span)) (hits : List TaintHit) : Type 0 where
  pub each : (hit : TaintHit) → Among hits hit ↔ Has table hit.sink hit.source
  pub order : InOrder (λ (a b : TaintHit). a.sink < b.sink) hits

-- the source hits the sink with that place on some path in the unit
pub record HitsIn (root : Node) (unit : ℕ) (sets : TaintSets) (sink : ℕ) (source : Span) : Type 0 where
  pub range : Span
  pub sink_is : slice_get sets.sinks sink ≡ Some range
  pub listed : Among sets.sources source
  pub earlier : List Point
  pub point : Point
  pub hits : HitsAt root unit sets source range earlier point

-- the same in one of these units
abbrev pub HitsAmong : Node → List ℕ → TaintSets → ℕ → Span → Type 0
HitsAmong root units sets sink source = (unit : ℕ) × Among units unit × HitsIn root unit sets sink source
