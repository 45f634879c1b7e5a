-- What changed files that are written make of the files that a tree tells.
use Rattle.std.specs.Prelude.{◌≡◌, ◌≢◌, ℕ, Bool, false, List, [], ◌∷◌, ◌++◌, Option, None, Some, ⊤, if◌then◌else◌}
use Rattle.std.specs.Str.{bytes_eq}
use Rattle.scan_world.specs.Files.{Files, file_at}
use Rattle.scan_world.specs.Trees.{KeepsFiles}
use Rattle.fix_apply.specs.declared.fixed.FixedFile.{FixedFile}
use Rattle.fix_apply.specs.declared.fixed.FixReport.{FixReport}
use Rattle.run_status.specs.declared.status.Status.{Status}
use Rattle.wire_words.specs.Commands.{Task}
use Rattle.stream_run.specs.Fixes.{IsFixReport}
use Rattle.stream_run.specs.Doing.{Setting, Shelves}
use Rattle.folder_run.specs.Ends.{TakesFor, FixEnds}

-- the bytes at a path where these changed files were written one after the other over what was there
abbrev pub written_at : List ℕ → List FixedFile → Option (List ℕ) → Option (List ℕ)
written_at path [] bytes = bytes
written_at path (f ∷ fs) bytes = written_at path fs (if bytes_eq f.path path then Some f.whole else bytes)

-- all of these changed files were written, and every other path is as before
abbrev pub WritesAll : Option Files → Option Files → List FixedFile → Type 0
WritesAll None new fixed = ⊤
WritesAll (Some old) None fixed = ⊥
WritesAll (Some old) (Some new) fixed = (path : List ℕ) → file_at path new ≡ written_at path fixed (file_at path old)

-- the same of all paths but that
abbrev pub WritesBut : List ℕ → Option Files → Option Files → List FixedFile → Type 0
WritesBut but None new fixed = ⊤
WritesBut but (Some old) None fixed = ⊥
WritesBut but (Some old) (Some new) fixed = (path : List ℕ) → path ≢ but → file_at path new ≡ written_at path fixed (file_at path old)

-- of changed files the first ones were written, the write of the next was refused, which leaves its path open, and every other path is
-- as before
pub record WritesSome (old new : Option Files) (fixed : List FixedFile) : Type 0 where
  pub first : List FixedFile
  pub refused : FixedFile
  pub rest : List FixedFile
  pub are : fixed ≡ first ++ refused ∷ rest
  pub written : WritesBut refused.path old new first

-- What writing the changed files of a report leaves, however it ends: all as it was, all of them written, or some. A dry run writes
-- none.
pub data LeavesOf (dry : Bool) (files : List FixedFile) (old new : Option Files) : Type 0 where
  kept : KeepsFiles old new → LeavesOf dry files old new
  all : dry ≡ false → WritesAll old new files → LeavesOf dry files old new
  some : dry ≡ false → WritesSome old new files → LeavesOf dry files old new

-- What fixing a folder leaves in its tree, however it ends.
pub data Leaves (s : Setting) (task : Task) (new : Option Files) : Type 0 where
  untouched : KeepsFiles s.told new → Leaves s task new
  by_fixes : (shelves : Shelves) (fixed : FixReport) → TakesFor s task shelves → IsFixReport s.readings s.refused shelves.files shelves.rules fixed → LeavesOf task.flag fixed.files s.told new → Leaves s task new

-- the changed files of this end were written
pub record Wrote (s : Setting) (task : Task) (new : Option Files) (status : Status) : Type 0 where
  pub lines : List (List ℕ)
  pub fixed : List FixedFile
  pub ends : FixEnds s task status lines fixed
  pub wrote : WritesAll s.told new fixed
