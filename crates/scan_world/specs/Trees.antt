-- What the calls of a tree do to the files that it tells, and to its counts.
use Rattle.std.specs.Prelude.{◌≡◌, ◌≢◌, ◌↔◌, ℕ, List, All, Contains, take, Option, None, Some, IsSome, ⊤, Result, Err}
use Rattle.scan_world.specs.Faults.{Rose}
use Rattle.scan_world.specs.Files.{Files, file_at, IsUnder, PathsAscend}
use Rattle.scan_world.specs.declared.tree.TreeFault.{TreeFault}
use Rattle.scan_world.specs.declared.tree.TreeFault.TheVariants.{Failed, Absent}

-- told files stay as they were
abbrev pub KeepsFiles : Option Files → Option Files → Type 0
KeepsFiles None new = ⊤
KeepsFiles (Some old) None = ⊥
KeepsFiles (Some old) (Some new) = new ≡ old

-- of told files each with another path stays as it was
abbrev pub KeepsOthers : Option Files → Option Files → List ℕ → Type 0
KeepsOthers None new path = ⊤
KeepsOthers (Some old) None path = ⊥
KeepsOthers (Some old) (Some new) path = (other : List ℕ) → other ≢ path → file_at other new ≡ file_at other old

-- told files have these bytes at the path then
abbrev pub PutsFile : Option Files → Option Files → List ℕ → List ℕ → Type 0
PutsFile None new path bytes = ⊤
PutsFile (Some old) None path bytes = ⊥
PutsFile (Some old) (Some new) path bytes = file_at path new ≡ Some bytes

-- told files have no file of that path
abbrev pub LacksFile : Option Files → List ℕ → Type 0
LacksFile None path = ⊤
LacksFile (Some files) path = file_at path files ≡ None

-- told files have a file of that path, and the bytes are the first ones of it, at most so many
abbrev pub HasFront : Option Files → List ℕ → ℕ → List ℕ → Type 0
HasFront None path most bytes = ⊤
HasFront (Some files) path most bytes = (whole : List ℕ) × (file_at path files ≡ Some whole) × (bytes ≡ take most whole)

-- the paths are those of told files that lie under the prefix
abbrev pub HasPaths : Option Files → List ℕ → List (List ℕ) → Type 0
HasPaths None prefix paths = ⊤
HasPaths (Some files) prefix paths = (path : List ℕ) → Contains paths path ↔ (IsUnder prefix path × IsSome (file_at path files))

-- paths under the prefix in order, each once
pub record IsListing (prefix : List ℕ) (told : Option Files) (paths : List (List ℕ)) : Type 0 where
  pub ordered : PathsAscend paths
  pub under : All (IsUnder prefix) paths
  pub all : HasPaths told prefix paths

-- a call that fails has raised the count of faults, one that finds a file absent the count of absences, and all else stays
abbrev pub HasTreeCause : {T : Type 0} → ℕ → ℕ → ℕ → ℕ → Result T TreeFault → Type 0
HasTreeCause faults faults_after absences absences_after (Err Failed) = Rose faults faults_after × (absences_after ≡ absences)
HasTreeCause faults faults_after absences absences_after (Err Absent) = (faults_after ≡ faults) × Rose absences absences_after
HasTreeCause faults faults_after absences absences_after _ = (faults_after ≡ faults) × (absences_after ≡ absences)
