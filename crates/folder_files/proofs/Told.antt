-- What a tree that keeps its files tells of them.
use Rattle.std.proofs.Common.{◌≡◌, inl, inr, ℕ, List, [], ◌∷◌, refl, ◌∙◌, subst}
use Rattle.std.specs.Prelude.{Option, Some, None, Err}
use Rattle.scan_world.specs.Files.{Files}
use Rattle.scan_world.specs.Trees.{KeepsFiles, LacksFile, HasFront, HasPaths, IsListing, HasTreeCause}
use Rattle.scan_world.specs.declared.tree.TreeFault.{TreeFault}
use Rattle.scan_world.specs.declared.tree.TreeFault.TheVariants.{Absent}
use Rattle.folder_files.specs.Folder.{File, AreRead, AreTakenUnder, AreFiles}

abbrev pub Path : Type 0
Path = List ℕ

pub keeps_self : (told : Option Files) → KeepsFiles told told
keeps_self None = tt
keeps_self (Some files) = refl

pub keeps_on : (a b c : Option Files) → KeepsFiles a b → KeepsFiles b c → KeepsFiles a c
keeps_on None b c h k = tt
keeps_on (Some x) None c h k = absurd h
keeps_on (Some x) (Some y) None h k = absurd k
keeps_on (Some x) (Some y) (Some z) h k = k ∙ h

pub front_before : (told now : Option Files) (path : Path) (most : ℕ) (bytes : List ℕ) → KeepsFiles told now → HasFront now path most bytes → HasFront told path most bytes
front_before None now path most bytes h k = tt
front_before (Some x) None path most bytes h k = absurd h
front_before (Some x) (Some y) path most bytes h k = let P : Files → Type 0 = λ files. HasFront (Some files) path most bytes in subst P h k

pub lacks_before : (told now : Option Files) (path : Path) → KeepsFiles told now → LacksFile now path → LacksFile told path
lacks_before None now path h k = tt
lacks_before (Some x) None path h k = absurd h
lacks_before (Some x) (Some y) path h k = let P : Files → Type 0 = λ files. LacksFile (Some files) path in subst P h k

paths_before : (told now : Option Files) (prefix : Path) (paths : List Path) → KeepsFiles told now → HasPaths now prefix paths → HasPaths told prefix paths
paths_before None now prefix paths h k = tt
paths_before (Some x) None prefix paths h k = absurd h
paths_before (Some x) (Some y) prefix paths h k = let P : Files → Type 0 = λ files. HasPaths (Some files) prefix paths in subst P h k

listing_before : (told now : Option Files) (prefix : Path) (paths : List Path) → KeepsFiles told now → IsListing prefix now paths → IsListing prefix told paths
listing_before told now prefix paths h l = record { ordered = l.ordered; under = l.under; all = paths_before told now prefix paths h l.all }

pub read_before : (told now : Option Files) (paths : List Path) (files : List File) → KeepsFiles told now → AreRead now paths files → AreRead told paths files
read_before told now [] files h k = k
read_before told now (p ∷ ps) files h (inl (bytes, rest, e, kept, r)) = inl (bytes, rest, e, record { few = kept.few; front = front_before told now p 1000001 bytes h kept.front }, read_before told now ps rest h r)
read_before told now (p ∷ ps) files h (inr (lacks, r)) = inr (lacks_before told now p h lacks, read_before told now ps files h r)

pub taken_before : (told now : Option Files) (prefix : Path) (taken : List Path) → KeepsFiles told now → AreTakenUnder now prefix taken → AreTakenUnder told prefix taken
taken_before told now prefix taken h t = record { paths = t.paths; listed = listing_before told now prefix t.paths h t.listed; are_taken = t.are_taken }

pub files_before : (told now : Option Files) (prefix : Path) (files : List File) → KeepsFiles told now → AreFiles now prefix files → AreFiles told prefix files
files_before told now prefix files h f = record { taken = f.taken; are_taken = taken_before told now prefix f.taken h f.are_taken; are_read = read_before told now f.taken files h f.are_read }

-- a file that is absent is no fault
pub absent_kept : (f f' a a' : ℕ) (e : TreeFault) → e ≡ Absent → HasTreeCause {T = List ℕ} f f' a a' (Err e) → f' ≡ f
absent_kept f f' a a' e same h = (subst (λ (x : TreeFault). HasTreeCause {T = List ℕ} f f' a a' (Err x)) same h).0
