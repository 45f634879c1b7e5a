-- What a workspace holds, and how edits change it.
use Rattle.std.specs.Prelude.{ℕ, List, take}
use Rattle.scan_world.specs.Files.{Files}
use Rattle.decided_texts.specs.Decided.{Decisions}
use Rattle.file_map.specs.FileMap.{with_file}

-- Files and rule files, each in order of path, which texts of regular expressions were decided, and how many findings a report
-- may have.
pub record State : Type 0 where
  pub files : Files
  pub rules : Files
  pub decided : Decisions
  pub most : ℕ

-- the same with these files
abbrev pub with_files : State → Files → State
with_files s files = record { files = files; rules = s.rules; decided = s.decided; most = s.most }

-- the same with these rule files
abbrev pub with_rules : State → Files → State
with_rules s rules = record { files = s.files; rules = rules; decided = s.decided; most = s.most }

-- the same where these texts are decided
abbrev pub with_decided : State → Decisions → State
with_decided s decided = record { files = s.files; rules = s.rules; decided = decided; most = s.most }

-- the files with these bytes at the path, of which at most the first 1,000,001 are kept
abbrev pub files_put : Files → List ℕ → List ℕ → Files
files_put files path bytes = with_file files (path, take 1000001 bytes)
