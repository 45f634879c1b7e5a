-- Sinks in the order in which they begin.
use Rattle.std.specs.Prelude.{◌≡◌, ◌≤◌, ◌<◌, ℕ, List, length, slice_get, slice_index, Some}
use Rattle.std.specs.List.Sorted.{IsNonDecreasingBy}
use Rattle.node_tree.specs.declared.span.Span.{Span}
use Rattle.taint_tables.specs.declared.sink.Sink.{Sink}

-- the sink has its place in the list
abbrev pub IsSinkOf : List Span → Sink → Type 0
IsSinkOf sinks s = slice_get sinks s.place ≡ Some s.range

abbrev pub BeginInOrder : List Sink → Type 0
BeginInOrder = IsNonDecreasingBy (λ (s : Sink). s.range.from)

-- no sink up to a place ends behind what stands beside that place
pub record AreEnds (sinks : List Sink) (ends : List ℕ) : Type 0 where
  pub size : length ends ≡ length sinks
  pub last : (i j : ℕ) (s : Sink) → i ≤ j → j < length ends → slice_get sinks i ≡ Some s → s.range.to ≤ slice_index ends j
