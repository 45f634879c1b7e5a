-- What holds before points, unless a unit is too large.
use Rattle.std.specs.Prelude.{◌+◌, ◌*◌, ◌<◌, ◌≤◌, ℕ, length, Option, MatchOption}
use Rattle.graph_form.specs.declared.graph.Graph.{Graph}
use Rattle.held_values.specs.declared.assign.Effects.{Effects}
use Rattle.held_values.specs.declared.held.HeldValues.{HeldValues}
use Rattle.held_values.specs.Told.{IsHeld}

-- the points times the names times the literals and one more
abbrev pub size_of : Graph → Effects → ℕ
size_of graph effects = length graph.points * length effects.start * (effects.literals + 1)

-- there is an answer just where the unit is small, and it is right
abbrev pub IsHeldUnless : Graph → Effects → Option HeldValues → Type 0
IsHeldUnless graph effects answer = MatchOption answer (50000000 < size_of graph effects) (λ held. IsHeld graph effects held × (size_of graph effects ≤ 50000000))
