-- Changed files that are written one after the other.
use Rattle.std.proofs.Common.{◌≡◌, ◌≢◌, ℕ, ◌+◌, ◌<◌, ◌≤◌, length, Bool, true, false, List, [], ◌∷◌, ◌++◌, take, drop, get_or, refl, sym, ap, ◌∙◌, subst}
use Rattle.std.specs.Prelude.{Option, None, Some, if◌then◌else◌}
use Rattle.std.specs.Str.{bytes_eq}
use Rattle.std.proofs.lemmas.Slice.Eq.{bytes_eq-Decides}
use Rattle.std.proofs.lemmas.List.{take_more, take_all, take-append-drop, append_assoc}
use Rattle.scan_world.specs.Files.{Files, file_at}
use Rattle.scan_world.specs.Trees.{KeepsFiles, KeepsOthers, PutsFile}
use Rattle.fix_apply.specs.declared.fixed.FixedFile.{FixedFile}
use Rattle.folder_run.specs.Written.{written_at, WritesAll, WritesBut, WritesSome}

written_more : (path : List ℕ) (fs : List FixedFile) (f : FixedFile) (bytes : Option (List ℕ)) → written_at path (fs ++ f ∷ []) bytes ≡ (if bytes_eq f.path path then Some f.whole else written_at path fs bytes)
written_more path [] f bytes = refl
written_more path (g ∷ gs) f bytes = written_more path gs f (if bytes_eq g.path path then Some g.whole else bytes)

pub none_written : (old : Option Files) → WritesAll old old []
none_written None = tt
none_written (Some files) = λ path. refl

pub kept_writes : (old new : Option Files) → KeepsFiles old new → WritesAll old new []
kept_writes None new h = tt
kept_writes (Some old) None h = absurd h
kept_writes (Some old) (Some new) h = λ path. ap (λ (fs : Files). file_at path fs) h

-- what was written over files that a tree keeps was written over the ones before
pub writes_before : (told now new : Option Files) (files : List FixedFile) → KeepsFiles told now → WritesAll now new files → WritesAll told new files
writes_before None now new files kept h = tt
writes_before (Some told) None new files kept h = absurd kept
writes_before (Some told) (Some now) None files kept h = h
writes_before (Some told) (Some now) (Some new) files kept h = λ path. h path ∙ ap (λ (fs : Files). written_at path files (file_at path fs)) kept

other_path : (a b : List ℕ) → bytes_eq a b ≡ false → b ≢ a
other_path a b e same = let t : true ≡ false = sym ((bytes_eq-Decides a b).1 (sym same)) ∙ e in absurd cc

-- ---- one file more

module _ (f : FixedFile) (asked whole : List ℕ) (path-is : asked ≡ f.path) (whole-is : whole ≡ f.whole) where
  at_path : (old mid new : Files) (fs : List FixedFile) → ((p : List ℕ) → file_at p mid ≡ written_at p fs (file_at p old)) → file_at asked new ≡ Some whole → ((p : List ℕ) → p ≢ asked → file_at p new ≡ file_at p mid)
      → (p : List ℕ) (b : Bool) → bytes_eq f.path p ≡ b → file_at p new ≡ (if b then Some f.whole else written_at p fs (file_at p old))
  at_path old mid new fs before put others p true e =
      let same : asked ≡ p = path-is ∙ (bytes_eq-Decides f.path p).0 e in
      let P : List ℕ → Type 0 = λ q. file_at q new ≡ Some whole in
      subst P same put ∙ ap (λ (w : List ℕ). Some w) whole-is
  at_path old mid new fs before put others p false e =
      let P : List ℕ → Type 0 = λ q. p ≢ q in
      others p (subst P (sym path-is) (other_path f.path p e)) ∙ before p

  pub writes_more : (old mid new : Option Files) (fs : List FixedFile) → WritesAll old mid fs → PutsFile mid new asked whole → KeepsOthers mid new asked → WritesAll old new (fs ++ f ∷ [])
  writes_more None mid new fs before put others = tt
  writes_more (Some old) None new fs before put others = absurd before
  writes_more (Some old) (Some mid) None fs before put others = absurd put
  writes_more (Some old) (Some mid) (Some new) fs before put others = λ p. at_path old mid new fs before put others p (bytes_eq f.path p) refl ∙ sym (written_more p fs f (file_at p old))

  pub writes_but : (old mid new : Option Files) (fs : List FixedFile) → WritesAll old mid fs → KeepsOthers mid new asked → WritesBut f.path old new fs
  writes_but None mid new fs before others = tt
  writes_but (Some old) None new fs before others = absurd before
  writes_but (Some old) (Some mid) None fs before others = others
  writes_but (Some old) (Some mid) (Some new) fs before others = λ p other.
      let P : List ℕ → Type 0 = λ q. p ≢ q in
      others p (subst P (sym path-is) other) ∙ before p

-- ---- files by their places in a list

module _ (files : List FixedFile) (i : ℕ) (f g : FixedFile) (lt : i < length files) (is : f ≡ get_or files i g) (old mid new : Option Files) (before : WritesAll old mid (take i files)) (asked whole : List ℕ) (path-is : asked ≡ f.path) (whole-is : whole ≡ f.whole) (others : KeepsOthers mid new asked) where
  taken_one : take (i + 1) files ≡ take i files ++ f ∷ []
  taken_one = take_more files i g lt ∙ ap (λ (x : FixedFile). take i files ++ x ∷ []) (sym is)

  parted : files ≡ take i files ++ f ∷ drop (i + 1) files
  parted = sym (take-append-drop (i + 1) files) ∙ ap (λ (xs : List FixedFile). xs ++ drop (i + 1) files) taken_one ∙ append_assoc (take i files) (f ∷ []) (drop (i + 1) files)

  pub step_written : PutsFile mid new asked whole → WritesAll old new (take (i + 1) files)
  step_written put =
      let P : List FixedFile → Type 0 = λ fs. WritesAll old new fs in
      subst P (sym taken_one) (writes_more f asked whole path-is whole-is old mid new (take i files) before put others)

  pub step_refused : WritesSome old new files
  step_refused = record {
    first = take i files;
    refused = f;
    rest = drop (i + 1) files;
    are = parted;
    written = writes_but f asked whole path-is whole-is old mid new (take i files) before others;
  }

pub all_steps : (files : List FixedFile) (i : ℕ) (old new : Option Files) → length files ≤ i → WritesAll old new (take i files) → WritesAll old new files
all_steps files i old new end h = let P : List FixedFile → Type 0 = λ fs. WritesAll old new fs in subst P (take_all i files end) h
