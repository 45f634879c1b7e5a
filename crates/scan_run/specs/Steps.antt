-- How many steps a match takes.
use Rattle.std.specs.Prelude.{◌≡◌, ℕ, ◌+◌, ◌≤◌}
use Rattle.run_status.specs.declared.status.Status.{Status}
use Rattle.run_status.specs.declared.status.Status.TheVariants.{Done, OutputFault, TooMany, BadTarget, Memory}

-- the count before and after, by the status: one step opens the input, and one more matches a file that has a tree. So there
-- is none where the pattern is refused, a read fails or the input is too long
abbrev pub TakesSteps : Status → ℕ → ℕ → Type 0
TakesSteps Done before after = after ≡ before + 2
TakesSteps OutputFault before after = after ≡ before + 2
TakesSteps (TooMany _) before after = after ≡ before + 2
TakesSteps BadTarget before after = after ≡ before + 1
TakesSteps Memory before after = after ≤ before + 2
TakesSteps _ before after = after ≡ before
