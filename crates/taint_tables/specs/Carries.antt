-- Carries in the order in which their ranges begin.
use Rattle.std.specs.Prelude.{List}
use Rattle.std.specs.List.Sorted.{IsNonDecreasingBy}
use Rattle.taint_tables.specs.declared.sets.Carry.{Carry}

abbrev pub AreInOrder : List Carry → Type 0
AreInOrder = IsNonDecreasingBy (λ (c : Carry). c.range.from)
