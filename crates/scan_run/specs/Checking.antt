-- What `check json` does: how it ends, and the line that it prints.
use Rattle.std.specs.Prelude.{ℕ, ◌≤◌, List, [], ◌∷◌, ◌++◌, length, codes, Option, None, Some}
use Rattle.std.specs.Fmt.{decimal}
use Rattle.std.specs.Str.{IsUtf8}
use Rattle.json_check.specs.Viable.{IsFirstBad}
use Rattle.run_status.specs.declared.status.Status.{Status}
use Rattle.run_status.specs.declared.status.Status.TheVariants.{OverLimit, Done, BadTarget}
use Rattle.file_map.specs.declared.limit.LimitKind.TheVariants.{Target}
use Rattle.scan_run.specs.Streams.{Tells}

-- `ok` where the input is JSON, else `bad` and the place where no JSON text goes on, and a line feed
abbrev pub check_line : Option ℕ → List ℕ
check_line None = codes "ok\n"
check_line (Some place) = codes "bad " ++ (decimal place ++ codes "\n")

-- How a check ends, by its whole input. The first cause decides.
pub data CheckEnds (input : List ℕ) : Status → List (List ℕ) → Type 0 where
  over_limit : 1000001 ≤ length input → CheckEnds input (OverLimit Target 1000001) []
  bad_target : length input ≤ 1000000 → (IsUtf8 input → ⊥) → CheckEnds input BadTarget []
  checked : (bad : Option ℕ) → length input ≤ 1000000 → IsUtf8 input → IsFirstBad input bad → CheckEnds input Done (check_line bad ∷ [])

-- the same on an input that the source tells of
abbrev pub Checks : Option (List ℕ) → Status → List (List ℕ) → Type 0
Checks left status lines = (input : List ℕ) × Tells left input × CheckEnds input status lines
