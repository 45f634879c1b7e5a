-- Which rules and files a scan of a folder takes, or why it takes none.
use Rattle.std.specs.Prelude.{◌≡◌, ℕ, List, [], ◌∷◌, Option, None, Some}
use Rattle.scan_world.specs.Files.{Files}
use Rattle.scan_world.specs.Trees.{HasFront, LacksFile}
use Rattle.file_map.specs.declared.limit.LimitKind.{LimitKind}
use Rattle.file_map.specs.Sync.{Syncs, SyncPasses}
use Rattle.rule_map.specs.RuleMap.{PutRuleEnds}
use Rattle.run_status.specs.declared.status.Status.{Status}
use Rattle.run_status.specs.declared.status.Status.TheVariants.{NoSuchPath, OverLimit}
use Rattle.stream_run.specs.Reports.{Readings}
use Rattle.stream_run.specs.Reading.{PutEndsOnce}
use Rattle.stream_run.specs.Doing.{Shelves}

-- the file at the path of the rules has these bytes, of which at most the first 262,145 are read
abbrev pub IsConfig : Option Files → List ℕ → List ℕ → Type 0
IsConfig told config bytes = HasFront told config 262145 bytes

-- the rules are read, within the limits
abbrev pub IsRead : Readings → Option Files → List ℕ → List ℕ → Type 0
IsRead readings told config bytes = IsConfig told config bytes × PutRuleEnds readings.writes [] (config, bytes) None

-- there is one way in which putting the rules at the path of the config ends
abbrev pub RulesEndOnce : Readings → Option Files → List ℕ → Type 0
RulesEndOnce readings told config = (bytes : List ℕ) → IsConfig told config bytes → PutEndsOnce readings [] (config, bytes)

-- The files under the prefix and the rules at the path of the config, all within the limits.
pub record Takes (readings : Readings) (told : Option Files) (config prefix : List ℕ) (shelves : Shelves) : Type 0 where
  pub bytes : List ℕ
  pub read : IsRead readings told config bytes
  pub rules : shelves.rules ≡ (config, bytes) ∷ []
  pub synced : Syncs told prefix [] shelves.files
  pub within : SyncPasses told prefix [] None

-- A run takes nothing: no file is at the path of the config, the rules pass a limit, or else the files do.
pub data TakesNone (readings : Readings) (told : Option Files) (config prefix : List ℕ) : Status → Type 0 where
  no_config : LacksFile told config → TakesNone readings told config prefix NoSuchPath
  rules_over : (bytes : List ℕ) (kind : LimitKind) (n : ℕ) → IsConfig told config bytes → PutRuleEnds readings.writes [] (config, bytes) (Some (kind, n)) → TakesNone readings told config prefix (OverLimit kind n)
  files_over : (bytes : List ℕ) (kind : LimitKind) (n : ℕ) → IsRead readings told config bytes → SyncPasses told prefix [] (Some (kind, n)) → TakesNone readings told config prefix (OverLimit kind n)
