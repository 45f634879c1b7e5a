-- What the fixes of a report make of the files of a workspace.
use Rattle.std.specs.Prelude.{◌≡◌, ◌≢◌, ◌≤◌, ◌⊎◌, ℕ, List, [], ◌∷◌, map, take, length, Some}
use Rattle.scan_world.specs.Files.{Files}
use Rattle.file_map.specs.declared.limit.LimitKind.{LimitKind}
use Rattle.file_map.specs.FileMap.{File, over_limit}
use Rattle.file_map.specs.Sync.{with_files}
use Rattle.report_form.specs.declared.report.Reported.{Reported}
use Rattle.fix_apply.specs.declared.fixed.FixedFile.{FixedFile}
use Rattle.fix_apply.specs.declared.fixed.FixReport.{FixReport}
use Rattle.fix_apply.specs.Applied.{applied}
use Rattle.fix_apply.specs.Choices.{AreChosen}
use Rattle.workspace.specs.Reports.{Readings, IsReport}

-- the file with the fixes that are taken in it, of which there are some
pub record IsFixed (results : List Reported) (file : File) (fixed : FixedFile) : Type 0 where
  pub path : fixed.path ≡ file.0
  pub chosen : AreChosen file.0 results fixed.edits
  pub some : fixed.edits ≢ []
  pub whole : fixed.whole ≡ applied file.1 fixed.edits

-- of each file in which some fixes are taken what they make of it, in the order of the files
abbrev pub AreFixed : List Reported → Files → List FixedFile → Type 0
AreFixed results [] fixed = fixed ≡ []
AreFixed results (file ∷ files) fixed =
    (AreChosen file.0 results [] × AreFixed results files fixed)
    ⊎ ((one : FixedFile) × IsFixed results file one × ((rest : List FixedFile) × (fixed ≡ one ∷ rest) × AreFixed results files rest))

-- a changed file as it is put: at most its first 1,000,001 bytes
abbrev pub put_of : FixedFile → File
put_of fixed = (fixed.path, take 1000001 fixed.whole)

-- the files after the fixes
abbrev pub files_fixed : Files → List FixedFile → Files
files_fixed files fixed = with_files files (map put_of fixed)

-- the report of a fresh scan, and what its fixes make of the files
pub record IsFixReport (readings : Readings) (refused : List (List ℕ)) (files rules : Files) (fixed : FixReport) : Type 0 where
  pub report : IsReport readings refused files rules fixed.report
  pub fixes : AreFixed fixed.report.results files fixed.files

-- there are not too many findings, and with what the fixes make of the files this limit is passed
pub record FixesPass (readings : Readings) (refused : List (List ℕ)) (files rules : Files) (most : ℕ) (kind : LimitKind) (n : ℕ) : Type 0 where
  pub fixed : FixReport
  pub is : IsFixReport readings refused files rules fixed
  pub few : length fixed.report.results ≤ most
  pub passes : over_limit (files_fixed files fixed.files) ≡ Some (kind, n)
