-- What was written at an end, by the ways in which a run may end.
use Rattle.std.specs.Prelude.{◌≡◌, ℕ, List, take, Option}
use Rattle.std.specs.List.{concat}
use Rattle.std.specs.Io.KnownBytes.{Appends}
use Rattle.scan_world.specs.Streams.{AppendsFront}
use Rattle.run_status.specs.declared.status.Status.{Status}
use Rattle.run_status.specs.Status.{IsFinished}

-- the first ones of these lines were written, each whole
abbrev pub AppendsSome : Option (List ℕ) → Option (List ℕ) → List (List ℕ) → Type 0
AppendsSome old new lines = (count : ℕ) × Appends old new (concat (take count lines))

-- the ways in which a run may end: the status, and the lines that it prints
abbrev pub Ways : Type 1
Ways = Status → List (List ℕ) → Type 0

-- the lines of a run that ends so are what was written
pub record Printed (ways : Ways) (written written_after : Option (List ℕ)) (status : Status) : Type 0 where
  pub lines : List (List ℕ)
  pub ends : ways status lines
  pub printed : Appends written written_after (concat lines)

-- there is no other way to end
abbrev pub IsOnlyEnd : Ways → Option (List ℕ) → Option (List ℕ) → Status → Type 0
IsOnlyEnd ways written written_after status = (other : Status) (lines : List (List ℕ)) → ways other lines → (other ≡ status) × Appends written written_after (concat lines)

-- some front of the lines of a run that would do all was written
pub record PrintedFront (ways : Ways) (written written_after : Option (List ℕ)) : Type 0 where
  pub status : Status
  pub finished : IsFinished status
  pub lines : List (List ℕ)
  pub ends : ways status lines
  pub printed : AppendsFront written written_after (concat lines)

-- some first lines of a run that would do all were written, each whole
pub record PrintedSome (ways : Ways) (written written_after : Option (List ℕ)) : Type 0 where
  pub status : Status
  pub finished : IsFinished status
  pub lines : List (List ℕ)
  pub ends : ways status lines
  pub printed : AppendsSome written written_after lines
