-- Which texts of regular expressions scanning and fixing a folder ask their builder for.
use Rattle.std.specs.Prelude.{◌≡◌, ℕ, List, [], Option}
use Rattle.fix_apply.specs.declared.fixed.FixedFile.{FixedFile}
use Rattle.run_status.specs.declared.status.Status.{Status}
use Rattle.run_status.specs.Ways.{Printed}
use Rattle.wire_words.specs.Commands.{Task}
use Rattle.stream_run.specs.Doing.{Setting}
use Rattle.stream_run.specs.Asking.{HaveTexts, AsksOnce}
use Rattle.folder_run.specs.Ends.{ScanEnds, FixEnds, none, too_many, reported, over, fixed, FixPrints}
use Rattle.folder_run.specs.Costs.{ScannedAfter}

module _ {s : Setting} {task : Task} where
  -- the texts that a scan of a folder goes by which ends so: none where nothing was taken, else those of the good rules
  abbrev pub ScanGoesBy : {status : Status} {lines : List (List ℕ)} → ScanEnds s task status lines → List (List ℕ) → Type 0
  ScanGoesBy (none status untaken) texts = texts ≡ []
  ScanGoesBy (too_many shelves takes more) texts = HaveTexts s.readings shelves.rules texts
  ScanGoesBy (reported shelves report takes is few) texts = HaveTexts s.readings shelves.rules texts

  -- the texts that fixing a folder goes by which ends so: none where nothing was taken, else those of the good rules
  abbrev pub FixGoesBy : {status : Status} {lines : List (List ℕ)} {files : List FixedFile} → FixEnds s task status lines files → List (List ℕ) → Type 0
  FixGoesBy (none status untaken) texts = texts ≡ []
  FixGoesBy (too_many shelves takes more) texts = HaveTexts s.readings shelves.rules texts
  FixGoesBy (over shelves kind n takes passes) texts = HaveTexts s.readings shelves.rules texts
  FixGoesBy (fixed shelves changed takes is few within) texts = HaveTexts s.readings shelves.rules texts

-- the scan of the folder ended so, took these steps, and the builder was asked once for each text that it went by
pub record ScannedSo (s : Setting) (task : Task) (written written_after : Option (List ℕ)) (status : Status) (before after : ℕ) (asked asked_after : Option (List (List ℕ))) : Type 0 where
  pub takes : ScannedAfter s task written written_after status before after
  pub texts : List (List ℕ)
  pub goes_by : ScanGoesBy takes.prints.ends texts
  pub once : AsksOnce asked asked_after texts

-- the scan of the folder ended so, and the builder was asked once for each text that it went by
pub record ScannedAsking (s : Setting) (task : Task) (written written_after : Option (List ℕ)) (status : Status) (before after : Option (List (List ℕ))) : Type 0 where
  pub prints : Printed (ScanEnds s task) written written_after status
  pub texts : List (List ℕ)
  pub goes_by : ScanGoesBy prints.ends texts
  pub asked : AsksOnce before after texts

-- fixing the folder ended so, and the builder was asked once for each text that it went by
pub record FixedAsking (s : Setting) (task : Task) (written written_after : Option (List ℕ)) (status : Status) (before after : Option (List (List ℕ))) : Type 0 where
  pub prints : Printed (FixPrints s task) written written_after status
  pub texts : List (List ℕ)
  pub goes_by : FixGoesBy prints.ends.1 texts
  pub asked : AsksOnce before after texts
