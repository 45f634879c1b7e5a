-- From which kid on, and up to which, the kids of a node are parts.
use Rattle.std.specs.Prelude.{◌≡◌, ◌+◌, ◌-◌, ◌≤◌, ℕ, min, List, length, take, drop, if◌then◌else◌}
use Rattle.node_tree.specs.declared.kind.Kind.{Kind}
use Rattle.flow_graph.specs.Outline.{is_row, first_part, part_count}

pub record IsRange (kind : Kind) (count from to : ℕ) : Type 0 where
  pub first : from ≡ (if is_row kind then 0 else min (first_part kind) count)
  pub last : to ≡ (if is_row kind then count else min (first_part kind + part_count kind) count)
  pub ordered : from ≤ to
  pub within : to ≤ count
