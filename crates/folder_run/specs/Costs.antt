-- What scanning and fixing a folder cost in steps.
use Rattle.std.specs.Prelude.{◌≡◌, ℕ, List, Option}
use Rattle.fix_apply.specs.declared.fixed.FixedFile.{FixedFile}
use Rattle.run_status.specs.declared.status.Status.{Status}
use Rattle.run_status.specs.Ways.{Printed}
use Rattle.wire_words.specs.Commands.{Task}
use Rattle.stream_run.specs.Work.{WorksOnce}
use Rattle.stream_run.specs.Doing.{Setting, Shelves}
use Rattle.folder_run.specs.Ends.{ScanEnds, FixEnds, none, too_many, reported, over, fixed, FixPrints}

-- one scan of these files by these rules, before which nothing was seen, takes the steps from the one number to the other
abbrev pub ScansOnce : Setting → Shelves → ℕ → ℕ → Type 0
ScansOnce s shelves before after = WorksOnce s.readings s.refused shelves.files shelves.rules before after

module _ {s : Setting} {task : Task} where
  -- the steps of a scan of a folder that ends so: none where nothing was taken, else those of one scan of what was taken
  abbrev pub ScanTakes : {status : Status} {lines : List (List ℕ)} → ScanEnds s task status lines → ℕ → ℕ → Type 0
  ScanTakes (none status untaken) before after = after ≡ before
  ScanTakes (too_many shelves takes more) before after = ScansOnce s shelves before after
  ScanTakes (reported shelves report takes is few) before after = ScansOnce s shelves before after

  -- the steps of fixing a folder that ends so: none where nothing was taken, else those of one scan of what was taken
  abbrev pub FixTakes : {status : Status} {lines : List (List ℕ)} {files : List FixedFile} → FixEnds s task status lines files → ℕ → ℕ → Type 0
  FixTakes (none status untaken) before after = after ≡ before
  FixTakes (too_many shelves takes more) before after = ScansOnce s shelves before after
  FixTakes (over shelves kind n takes passes) before after = ScansOnce s shelves before after
  FixTakes (fixed shelves changed takes is few within) before after = ScansOnce s shelves before after

-- the scan of the folder ended so, and took these steps
pub record ScannedAfter (s : Setting) (task : Task) (written written_after : Option (List ℕ)) (status : Status) (before after : ℕ) : Type 0 where
  pub prints : Printed (ScanEnds s task) written written_after status
  pub takes : ScanTakes prints.ends before after

-- fixing the folder ended so, and took these steps
pub record FixedAfter (s : Setting) (task : Task) (written written_after : Option (List ℕ)) (status : Status) (before after : ℕ) : Type 0 where
  pub prints : Printed (FixPrints s task) written written_after status
  pub takes : FixTakes prints.ends.1 before after
