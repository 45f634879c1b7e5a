use Rattle.std.proofs.Common.{◌≡◌, length}
use Rattle.taint_flow.specs.Lowest.{IsNone}
use Rattle.taint_flow.proofs.least.Least.new.Given as goal

abbrev pub invariant-loop : goal.invariant-loop
invariant-loop l = record { size : length l.sources.items ≡ l.counter; none : IsNone l.sources.items }
