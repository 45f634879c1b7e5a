-- The files that a folder gives in place of those that were under a prefix.
use Rattle.std.specs.Prelude.{◌≡◌, ◌⊎◌, ℕ, List, [], ◌∷◌, ◌++◌, Option, Some, None}
use Rattle.scan_world.specs.Files.{Files, IsUnder}
use Rattle.folder_files.specs.Folder.{AreRead, AreFiles}
use Rattle.file_map.specs.FileMap.{File, with_file, over_limit}
use Rattle.file_map.specs.declared.limit.LimitKind.{LimitKind}

-- those of the files that don't lie under the prefix
abbrev pub AreOutside : List ℕ → List File → List File → Type 0
AreOutside prefix [] files = files ≡ []
AreOutside prefix (f ∷ fs) files =
    (IsUnder prefix f.0 × AreOutside prefix fs files) ⊎ ((IsUnder prefix f.0 → ⊥) × ((rest : List File) × (files ≡ f ∷ rest) × AreOutside prefix fs rest))

-- the files, with these put one after the other
abbrev pub with_files : Files → List File → Files
with_files files [] = files
with_files files (f ∷ fs) = with_files (with_file files f) fs

abbrev pub or_later : Option (LimitKind × ℕ) → Option (LimitKind × ℕ) → Option (LimitKind × ℕ)
or_later (Some over) later = Some over
or_later None later = later

-- the first number that passes its limit while these files are put one after the other
abbrev pub first_over : Files → List File → Option (LimitKind × ℕ)
first_over files [] = None
first_over files (f ∷ fs) = or_later (over_limit (with_file files f)) (first_over (with_file files f) fs)

-- the files outside the prefix, and those of the folder under it
pub record AreSynced (told : Option Files) (prefix : List ℕ) (old : Files) (files : List File) : Type 0 where
  pub outside : List File
  pub are_outside : AreOutside prefix old outside
  pub under : List File
  pub are_under : AreFiles told prefix under
  pub all : files ≡ outside ++ under

-- the files outside the prefix stay, and those of the folder under it come
abbrev pub Syncs : Option Files → List ℕ → Files → Files → Type 0
Syncs told prefix old new = (files : List File) × AreSynced told prefix old files × (new ≡ with_files [] files)

-- with these files, put in this order, this limit is passed first
abbrev pub SyncPasses : Option Files → List ℕ → Files → Option (LimitKind × ℕ) → Type 0
SyncPasses told prefix old over = (files : List File) × AreSynced told prefix old files × (first_over [] files ≡ over)

-- the files are those of `old` outside the prefix
pub record PutsOutside (prefix : List ℕ) (old files : Files) : Type 0 where
  pub outside : List File
  pub are_outside : AreOutside prefix old outside
  pub put : files ≡ with_files [] outside
  pub within : first_over [] outside ≡ None

-- putting those outside the prefix passes this limit, whatever comes later
pub record OutsidePasses (prefix : List ℕ) (old : Files) (over : Option (LimitKind × ℕ)) : Type 0 where
  pub outside : List File
  pub are_outside : AreOutside prefix old outside
  pub passes : (later : List File) → first_over [] (outside ++ later) ≡ over

-- the files at these paths were read and put
pub record PutsRead (told : Option Files) (paths : List (List ℕ)) (old new : Files) : Type 0 where
  pub files : List File
  pub are_read : AreRead told paths files
  pub put : new ≡ with_files old files
  pub within : first_over old files ≡ None

-- putting the files at these paths as they are read passes this limit
pub record ReadPasses (told : Option Files) (paths : List (List ℕ)) (old : Files) (over : Option (LimitKind × ℕ)) : Type 0 where
  pub files : List File
  pub are_read : AreRead told paths files
  pub passes : first_over old files ≡ over
