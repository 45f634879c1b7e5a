use Rattle.std.proofs.Common.{◌≡◌, length}
use Rattle.std.specs.List.{list_any}
use Rattle.std.specs.Prelude.{◌||◌, ◌&&◌, nat_lt, Bool, ℕ, List}
use Rattle.unit_names.specs.Words.{Word}
use Rattle.unit_effects.specs.Functions.{all_functions}
use Rattle.unit_effects.proofs.entry.still_open.Given as goal

abbrev pub invariant-loop-function : goal.invariant-loop-function
invariant-loop-function l = (test : ℕ × List Word → Bool) → list_any test (all_functions l.left.items) || list_any (λ f. nat_lt l.at f.0 && test f) (all_functions l.functions.items) ≡ list_any (λ f. nat_lt l.at f.0 && test f) (all_functions l.initial.functions.items)

abbrev pub decreases-loop-function : goal.decreases-loop-function
decreases-loop-function l = length l.functions.items
