-- The search: what is known of pairs, and what of it was passed on. A pair has the number of its name times the points, plus
-- that of its point.
use Rattle.std.specs.Prelude.{◌≡◌, ◌≢◌, ◌⊎◌, ◌↔◌, ◌+◌, ◌*◌, ◌/◌, ◌%◌, ◌<◌, ℕ, List, length, slice_index, slice_get, Some}
use Rattle.graph_form.specs.declared.graph.Graph.{Graph}
use Rattle.graph_form.specs.Edges.{HasEdge}
use Rattle.graph_form.specs.Sets.{Among}
use Rattle.held_values.specs.declared.assign.Effects.{Effects}
use Rattle.held_values.specs.declared.merged.Merged.{Merged}
use Rattle.held_values.specs.declared.slots.Slots.{Slots}
use Rattle.held_values.specs.Holding.{IsRoute, left, Holds}
use Rattle.held_values.specs.Merged.{Turns}
use Rattle.held_values.specs.Slots.{unseen, slot, Covers}

-- some route leaves the name with this value before the point
abbrev pub MayHold : Graph → Effects → ℕ → ℕ → ℕ → Type 0
MayHold graph effects point name value = (route : List ℕ) × IsRoute graph route point × (slice_index (left effects route) name ≡ value)

-- what is known is so: some route leaves this value, or 0 is known and routes leave two values
abbrev pub IsSo : Graph → Effects → ℕ → ℕ → ℕ → Type 0
IsSo graph effects point name known =
    MayHold graph effects point name known ⊎ ((known ≡ 0) × (v : ℕ) × (w : ℕ) × MayHold graph effects point name v × MayHold graph effects point name w × (v ≢ w))

-- the value of the one pair gives the other pair a value
abbrev pub Passes : Graph → List Merged → ℕ → ℕ → ℕ → ℕ → ℕ → Type 0
Passes graph merged points at value k v =
    (one : Merged) × (slice_get merged (at % points) ≡ Some one) × (point : ℕ) × HasEdge graph (at % points) point × (target : ℕ) × Turns one.assigns.items (at / points) value target v × (k ≡ target * points + point)

-- what is known is so, what is known of the entry allows for what the names hold there, and what is known of a pair was passed
-- on, unless it waits
pub record IsClosing (graph : Graph) (effects : Effects) (merged : List Merged) (slots : Slots) : Type 0 where
  pub size : length slots.values.items ≡ length graph.points * length effects.start
  pub inside : (k : ℕ) → Among slots.waiting.items k → (k < length slots.values.items) × (slot slots k ≢ unseen)
  pub sound : (k : ℕ) → k < length slots.values.items → slot slots k ≢ unseen → IsSo graph effects (k % length graph.points) (k / length graph.points) (slot slots k)
  pub start : (name : ℕ) → name < length effects.start → Covers (slot slots (name * length graph.points)) (slice_index effects.start name)
  pub closed : (k : ℕ) → k < length slots.values.items → slot slots k ≢ unseen → Among slots.waiting.items k ⊎ ((m v : ℕ) → Passes graph merged (length graph.points) k (slot slots k) m v → Covers (slot slots m) v)

-- just the literals that names hold are known
pub record IsFilled (graph : Graph) (effects : Effects) (values : List ℕ) : Type 0 where
  pub size : length values ≡ length graph.points * length effects.start
  pub exact : (point name literal : ℕ) → point < length graph.points → name < length effects.start → literal ≢ 0 → ((slice_index values (name * length graph.points + point) ≡ literal) × (literal ≢ 0) × (literal ≢ unseen)) ↔ Holds graph effects point name literal
