-- The answer as a relation.
use Rattle.std.specs.Prelude.{◌≡◌, ◌≢◌, ◌↔◌, ◌+◌, ◌*◌, ◌<◌, ℕ, length, slice_index}
use Rattle.graph_form.specs.declared.graph.Graph.{Graph}
use Rattle.held_values.specs.declared.assign.Effects.{Effects}
use Rattle.held_values.specs.declared.held.HeldValues.{HeldValues}
use Rattle.held_values.specs.Holding.{Holds}

-- the answer has the literal for the name at the point
unfoldable pub Tells : HeldValues → ℕ → ℕ → ℕ → Type 0
Tells held point name literal = (slice_index held.values.items (name * held.points + point) ≡ literal) × (literal ≢ 0) × (literal ≢ 4294967295)

-- the answer is about these points and names, and has just the literals that names hold
pub record IsHeld (graph : Graph) (effects : Effects) (held : HeldValues) : Type 0 where
  pub points : held.points ≡ length graph.points
  pub names : held.names ≡ length effects.start
  pub exact : (point name literal : ℕ) → point < length graph.points → name < length effects.start → literal ≢ 0 → Tells held point name literal ↔ Holds graph effects point name literal
