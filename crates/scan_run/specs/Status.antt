-- How parts of a run may end.
use Rattle.std.specs.Prelude.{◌≡◌, ℕ}
use Rattle.scan_world.specs.Faults.{Rose}
use Rattle.run_status.specs.declared.status.Status.{Status}
use Rattle.run_status.specs.declared.status.Status.TheVariants.{Done, Memory, InputFault, OutputFault, TreeFault, OverLimit, TooMany, NoSuchPath}

-- How reading the input may end a run: by its limit, by memory, or by a fault that the source counted.
abbrev pub HasInputCause : ℕ → ℕ → Status → Type 0
HasInputCause faults faults_after (OverLimit kind count) = faults_after ≡ faults
HasInputCause faults faults_after Memory = Unit {0}
HasInputCause faults faults_after InputFault = Rose faults faults_after
HasInputCause faults faults_after _ = ⊥

-- how a command may end that reads nothing but the input: by nothing that a tree of files counts
abbrev pub IsOfInput : Status → Type 0
IsOfInput TreeFault = ⊥
IsOfInput NoSuchPath = ⊥
IsOfInput _ = Unit {0}

-- how the search of one file may end
abbrev pub IsOfSearch : Status → Type 0
IsOfSearch Done = Unit {0}
IsOfSearch (TooMany most) = Unit {0}
IsOfSearch Memory = Unit {0}
IsOfSearch OutputFault = Unit {0}
IsOfSearch _ = ⊥
