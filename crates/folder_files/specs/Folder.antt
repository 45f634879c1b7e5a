-- Which files of a folder are taken, and what is kept of them.
use Rattle.std.specs.Prelude.{◌≡◌, ◌⊎◌, ℕ, ◌≤◌, List, [], ◌∷◌, length, Any, IsSome, Option}
use Rattle.path_glob.specs.Path.{IsPath, IsHidden, language}
use Rattle.path_glob.specs.Segments.{segments}
use Rattle.scan_world.specs.Files.{Files}
use Rattle.scan_world.specs.Trees.{LacksFile, HasFront, IsListing}

-- a file that was read: its path, and what is kept of its bytes
abbrev pub File : Type 0
File = List ℕ × List ℕ

-- the text is a path whose ending names a language, and no segment of it is hidden
pub record IsTaken (path : List ℕ) : Type 0 where
  pub is_path : IsPath path
  pub known : IsSome (language path)
  pub shown : Any IsHidden (segments path) → ⊥

-- the second list has those of the paths that are taken, in their order
abbrev pub AreTaken : List (List ℕ) → List (List ℕ) → Type 0
AreTaken [] taken = taken ≡ []
AreTaken (p ∷ ps) taken = (IsTaken p × ((rest : List (List ℕ)) × (taken ≡ p ∷ rest) × AreTaken ps rest)) ⊎ ((IsTaken p → ⊥) × AreTaken ps taken)

-- the paths of the files under the prefix that are taken
pub record AreTakenUnder (told : Option Files) (prefix : List ℕ) (taken : List (List ℕ)) : Type 0 where
  pub paths : List (List ℕ)
  pub listed : IsListing prefix told paths
  pub are_taken : AreTaken paths taken

-- at most the first 1,000,001 bytes of a file are kept
pub record IsKept (told : Option Files) (path bytes : List ℕ) : Type 0 where
  pub few : length bytes ≤ 1000001
  pub front : HasFront told path 1000001 bytes

-- the files at these paths in their order, without those that were absent when they were to be read
abbrev pub AreRead : Option Files → List (List ℕ) → List File → Type 0
AreRead told [] files = files ≡ []
AreRead told (p ∷ ps) files =
    ((bytes : List ℕ) × (rest : List File) × (files ≡ (p, bytes) ∷ rest) × IsKept told p bytes × AreRead told ps rest) ⊎ (LacksFile told p × AreRead told ps files)

-- the files under the prefix that are taken
pub record AreFiles (told : Option Files) (prefix : List ℕ) (files : List File) : Type 0 where
  pub taken : List (List ℕ)
  pub are_taken : AreTakenUnder told prefix taken
  pub are_read : AreRead told taken files
