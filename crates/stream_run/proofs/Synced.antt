-- A folder that tells its files has one list of them under a prefix, so a `sync` does one thing to the files that are there.
use Rattle.std.proofs.Common.{◌≡◌, inl, inr, ℕ, List, [], ◌∷◌, ◌++◌, take, sym, ap, ◌∙◌, subst}
use Rattle.std.specs.Prelude.{Option, Some, None, IsSome}
use Rattle.scan_world.specs.Files.{Files}
use Rattle.scan_world.specs.Trees.{LacksFile, HasFront, IsListing}
use Rattle.folder_files.specs.Folder.{AreTaken, AreRead, AreFiles}
use Rattle.file_map.specs.declared.limit.LimitKind.{LimitKind}
use Rattle.file_map.specs.FileMap.{File}
use Rattle.file_map.specs.Sync.{AreOutside, AreSynced, with_files, first_over, Syncs, SyncPasses}
use Rattle.stream_run.proofs.Paths.{Path, one_list}

pub some_map : IsSome {T = Files} None → ⊥
some_map e = absurd cc

pub one_listing : (map : Files) (prefix : Path) (xs ys : List Path) → IsListing prefix (Some map) xs → IsListing prefix (Some map) ys → xs ≡ ys
one_listing map prefix xs ys x y = one_list xs ys x.ordered y.ordered (λ p h. (y.all p).1 ((x.all p).0 h)) (λ p h. (x.all p).1 ((y.all p).0 h))

pub one_whole : (a b : List ℕ) → Some a ≡ Some b → a ≡ b
one_whole a b e = cc

pub front_once : (map : Files) (path : Path) (most : ℕ) (a b : List ℕ) → HasFront (Some map) path most a → HasFront (Some map) path most b → b ≡ a
front_once map path most a b (v, e, f) (w, g, h) = h ∙ ap (λ (l : List ℕ). take most l) (one_whole w v (sym g ∙ e)) ∙ sym f

pub front_or_lack : (map : Files) (path : Path) (most : ℕ) (a : List ℕ) → HasFront (Some map) path most a → LacksFile (Some map) path → ⊥
front_or_lack map path most a (v, e, f) g = let h : Some v ≡ None = sym e ∙ g in absurd cc

taken_once : (xs ts us : List Path) → AreTaken xs ts → AreTaken xs us → us ≡ ts
taken_once [] ts us h k = k ∙ sym h
taken_once (x ∷ xs) ts us (inl (is, (rest, e, r))) (inl (is', (rest', e', r'))) = e' ∙ ap (λ (l : List Path). x ∷ l) (taken_once xs rest rest' r r') ∙ sym e
taken_once (x ∷ xs) ts us (inl (is, _)) (inr (nay, _)) = absurd (nay is)
taken_once (x ∷ xs) ts us (inr (nay, _)) (inl (is, _)) = absurd (nay is)
taken_once (x ∷ xs) ts us (inr (nay, r)) (inr (nay', r')) = taken_once xs ts us r r'

read_once : (map : Files) (ps : List Path) (fs gs : List File) → AreRead (Some map) ps fs → AreRead (Some map) ps gs → gs ≡ fs
read_once map [] fs gs h k = k ∙ sym h
read_once map (p ∷ ps) fs gs (inl (b, rest, e, kept, r)) (inl (b', rest', e', kept', r')) =
    e' ∙ ap (λ (l : List ℕ). (p, l) ∷ rest') (front_once map p 1000001 b b' kept.front kept'.front) ∙ ap (λ (l : List File). (p, b) ∷ l) (read_once map ps rest rest' r r') ∙ sym e
read_once map (p ∷ ps) fs gs (inl (b, rest, e, kept, r)) (inr (lacks, _)) = absurd (front_or_lack map p 1000001 b kept.front lacks)
read_once map (p ∷ ps) fs gs (inr (lacks, _)) (inl (b, rest, e, kept, r)) = absurd (front_or_lack map p 1000001 b kept.front lacks)
read_once map (p ∷ ps) fs gs (inr (lacks, r)) (inr (lacks', r')) = read_once map ps fs gs r r'

pub files_once : (map : Files) (prefix : Path) (fs gs : List File) → AreFiles (Some map) prefix fs → AreFiles (Some map) prefix gs → gs ≡ fs
files_once map prefix fs gs f g =
    let P : List Path → Type 0 = λ l. AreTaken l g.taken in
    let Q : List Path → Type 0 = λ l. AreRead (Some map) l gs in
    let a = f.are_taken in
    let b = g.are_taken in
    let same = taken_once a.paths f.taken g.taken a.are_taken (subst P (one_listing map prefix b.paths a.paths b.listed a.listed) b.are_taken) in
    read_once map f.taken fs gs f.are_read (subst Q same g.are_read)

outside_once : (prefix : Path) (fs xs ys : List File) → AreOutside prefix fs xs → AreOutside prefix fs ys → ys ≡ xs
outside_once prefix [] xs ys h k = k ∙ sym h
outside_once prefix (f ∷ fs) xs ys (inl (under, r)) (inl (under', r')) = outside_once prefix fs xs ys r r'
outside_once prefix (f ∷ fs) xs ys (inl (under, _)) (inr (nay, _)) = absurd (nay under)
outside_once prefix (f ∷ fs) xs ys (inr (nay, _)) (inl (under, _)) = absurd (nay under)
outside_once prefix (f ∷ fs) xs ys (inr (nay, (rest, e, r))) (inr (nay', (rest', e', r'))) = e' ∙ ap (λ (l : List File). f ∷ l) (outside_once prefix fs rest rest' r r') ∙ sym e

synced_once : (map : Files) (prefix : Path) (old : Files) (xs ys : List File) → AreSynced (Some map) prefix old xs → AreSynced (Some map) prefix old ys → ys ≡ xs
synced_once map prefix old xs ys x y =
    y.all
    ∙ ap (λ (l : List File). l ++ y.under) (outside_once prefix old x.outside y.outside x.are_outside y.are_outside)
    ∙ ap (λ (l : List File). x.outside ++ l) (files_once map prefix x.under y.under x.are_under y.are_under)
    ∙ sym x.all

-- ---- the same of a folder of which it is said that it is told

pub syncs_once : (told : Option Files) → IsSome told → (prefix : Path) (old new other : Files) → Syncs told prefix old new → Syncs told prefix old other → other ≡ new
syncs_once None some prefix old new other h k = absurd (some_map some)
syncs_once (Some map) some prefix old new other (files, are, e) (files', are', e') = e' ∙ ap (λ (l : List File). with_files [] l) (synced_once map prefix old files files' are are') ∙ sym e

pub sync_ends_once : (told : Option Files) → IsSome told → (prefix : Path) (old : Files) (a b : Option (LimitKind × ℕ)) → SyncPasses told prefix old a → SyncPasses told prefix old b → b ≡ a
sync_ends_once None some prefix old a b h k = absurd (some_map some)
sync_ends_once (Some map) some prefix old a b (files, are, e) (files', are', e') = sym e' ∙ ap (λ (l : List File). first_over [] l) (synced_once map prefix old files files' are are') ∙ e

pub fronts_once : (told : Option Files) → IsSome told → (path : Path) (most : ℕ) (a b : List ℕ) → HasFront told path most a → HasFront told path most b → b ≡ a
fronts_once None some path most a b h k = absurd (some_map some)
fronts_once (Some map) some path most a b h k = front_once map path most a b h k

pub front_or_none : (told : Option Files) → IsSome told → (path : Path) (most : ℕ) (a : List ℕ) → HasFront told path most a → LacksFile told path → ⊥
front_or_none None some path most a h k = absurd (some_map some)
front_or_none (Some map) some path most a h k = front_or_lack map path most a h k
