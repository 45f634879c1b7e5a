-- Putting lent files, reading files, and both, one file more at a time.
use Rattle.std.proofs.Common.{◌≡◌, ℕ, ◌+◌, ◌<◌, ◌≤◌, List, [], ◌∷◌, ◌++◌, length, take, drop, get_or, refl, sym, ap, ◌∙◌, subst, map, append_assoc, Bor}
use Rattle.std.specs.Prelude.{Option, None, Some, String}
use Rattle.std.specs.String.{string_bytes}
use Rattle.std.specs.declared.rc.Rc.{Rc}
use Rattle.std.specs.Rc.{rc_value}
use Rattle.std.proofs.lemmas.List.{map_more, map_push, map-append, append-nil, take-append-drop}
use Rattle.scan_world.specs.Files.{Files, IsUnder}
use Rattle.scan_world.specs.Trees.{KeepsFiles, LacksFile, HasFront}
use Rattle.folder_files.specs.Folder.{AreRead, AreTakenUnder, AreFiles}
use Rattle.folder_files.proofs.Told.{read_before}
use Rattle.folder_files.proofs.Reading.{step_absent, step_read, step_whole}
use Rattle.file_map.specs.FileMap.{File, with_file, over_limit, TellsPut, TellsOver}
use Rattle.file_map.specs.declared.limit.LimitKind.{LimitKind}
use Rattle.file_map.specs.declared.fault.PutFault.{PutFault}
use Rattle.file_map.specs.declared.fault.PutFault.TheVariants as puts
use Rattle.file_map.specs.Faults.{sync_fault, TellsLimit}
use Rattle.file_map.specs.Seen.{lent, shown}
use Rattle.file_map.specs.Sync.{with_files, first_over, AreOutside, Syncs, SyncPasses, PutsOutside, OutsidePasses, PutsRead, ReadPasses}
use Rattle.file_map.specs.declared.fault.SyncFault.{SyncFault}
use Rattle.file_map.specs.declared.fault.SyncFault.TheVariants as syncs
use Rattle.file_map.proofs.Putting.{with_files_on, first_over_on, one_within, one_over, outside_under, outside_apart}

-- the same fault, of what holds of its number
pub tells_sync : (Holds : Option (LimitKind × ℕ) → Type 0) (fault : PutFault) → TellsPut Holds fault → TellsLimit Holds (sync_fault fault)
tells_sync Holds puts.Memory h = tt
tells_sync Holds (puts.OverLimit kind number) h = h

pub tells_more : (P Q : Option (LimitKind × ℕ) → Type 0) → ((over : LimitKind × ℕ) → P (Some over) → Q (Some over)) → (fault : PutFault) → TellsPut P fault → TellsPut Q fault
tells_more P Q f puts.Memory h = tt
tells_more P Q f (puts.OverLimit kind number) h = f (kind, number) h

-- ---- lent files

module _ {Z : Type 0} (base now : Files) (files : List (Bor (List ℕ) × Bor (Rc (List ℕ) Z))) (i : ℕ) (x : Bor (List ℕ) × Bor (Rc (List ℕ) Z)) (shared : List ℕ) (lt : i < length files) (is : x ≡ get_or files i x) (same : shared ≡ rc_value x.1.now)
    (put : now ≡ with_files base (map lent (take i files))) (within : first_over base (map lent (take i files)) ≡ None) where
  more : map lent (take (i + 1) files) ≡ map lent (take i files) ++ (x.0.now, shared) ∷ []
  more = map_more lent files i x lt ∙ ap (λ (y : Bor (List ℕ) × Bor (Rc (List ℕ) Z)). map lent (take i files) ++ lent y ∷ []) (sym is) ∙ ap (λ (b : List ℕ). map lent (take i files) ++ (x.0.now, b) ∷ []) (sym same)

  pub one_put : (new : Files) → new ≡ with_file now (x.0.now, shared) → new ≡ with_files base (map lent (take (i + 1) files))
  one_put new e =
      e ∙ ap (λ (m : Files). with_file m (x.0.now, shared)) put ∙ sym (with_files_on base (map lent (take i files)) ((x.0.now, shared) ∷ [])) ∙ ap (with_files base) (sym more)

  pub one_fits : over_limit (with_file now (x.0.now, shared)) ≡ None → first_over base (map lent (take (i + 1) files)) ≡ None
  one_fits e =
      ap (first_over base) more ∙ one_within base (map lent (take i files)) (x.0.now, shared) within (ap (λ (m : Files). over_limit (with_file m (x.0.now, shared))) (sym put) ∙ e)

  all : (later : List File) → map lent files ++ later ≡ map lent (take i files) ++ (x.0.now, shared) ∷ (map lent (drop (i + 1) files) ++ later)
  all later =
      let whole : map lent files ≡ map lent (take (i + 1) files) ++ map lent (drop (i + 1) files) = ap (map lent) (sym (take-append-drop (i + 1) files)) ∙ map-append lent (take (i + 1) files) (drop (i + 1) files) in
      ap (λ (l : List File). l ++ later) (whole ∙ ap (λ (l : List File). l ++ map lent (drop (i + 1) files)) more) ∙ append_assoc (map lent (take i files) ++ (x.0.now, shared) ∷ []) (map lent (drop (i + 1) files)) later
      ∙ append_assoc (map lent (take i files)) ((x.0.now, shared) ∷ []) (map lent (drop (i + 1) files) ++ later)

  pub one_passes : (fault : PutFault) → TellsOver (over_limit (with_file now (x.0.now, shared))) fault → (later : List File) → TellsOver (first_over base (map lent files ++ later)) fault
  one_passes fault t later =
      let f : File = (x.0.now, shared) in
      let there : (over : LimitKind × ℕ) → over_limit (with_file now f) ≡ Some over → first_over base (map lent files ++ later) ≡ Some over =
      λ over e. ap (first_over base) (all later) ∙ one_over base (map lent (take i files)) (map lent (drop (i + 1) files) ++ later) f over within (ap (λ (m : Files). over_limit (with_file m f)) (sym put) ∙ e) in
      tells_more (λ told. over_limit (with_file now f) ≡ told) (λ told. first_over base (map lent files ++ later) ≡ told) there fault t

-- ---- files that are read

module _ (told now : Option Files) (kept : KeepsFiles told now) (paths : List (List ℕ)) (base here : Files) (i : ℕ) (x asked : List ℕ) (lt : i < length paths) (is : x ≡ get_or paths i x) (far : PutsRead told (take i paths) base here) (e : asked ≡ x) where
  pub far_absent : LacksFile now asked → PutsRead told (take (i + 1) paths) base here
  far_absent lacks = record { files = far.files; are_read = step_absent told now kept paths far.files i x asked lt is far.are_read e lacks; put = far.put; within = far.within }

  module _ (bytes shared : List ℕ) (few : length bytes ≤ 1000001) (front : HasFront now asked 1000001 bytes) (same : shared ≡ bytes) where
    pub far_read : (new : Files) → new ≡ with_file here (asked, shared) → over_limit (with_file here (asked, shared)) ≡ None → PutsRead told (take (i + 1) paths) base new
    far_read new put fits =
        let f : File = (asked, bytes) in
        let joined : with_file here (asked, shared) ≡ with_file (with_files base far.files) f = ap (λ (b : List ℕ). with_file here (asked, b)) same ∙ ap (λ (m : Files). with_file m f) far.put in
        record {
          files = far.files ++ f ∷ [];
          are_read = step_read told now kept paths far.files i x asked lt is far.are_read e bytes few front;
          put = put ∙ joined ∙ sym (with_files_on base far.files (f ∷ []));
          within = one_within base far.files f far.within (ap over_limit (sym joined) ∙ fits);
        }

    pub far_over : (fault : PutFault) → TellsOver (over_limit (with_file here (asked, shared))) fault → TellsPut (ReadPasses told paths base) fault
    far_over fault t =
        let f : File = (asked, bytes) in
        let joined : with_file here (asked, shared) ≡ with_file (with_files base far.files) f = ap (λ (b : List ℕ). with_file here (asked, b)) same ∙ ap (λ (m : Files). with_file m f) far.put in
        let whole = step_whole told now kept paths far.files i x asked lt is far.are_read e bytes few front in
        let there : (over : LimitKind × ℕ) → over_limit (with_file here (asked, shared)) ≡ Some over → ReadPasses told paths base (Some over) =
        λ over h. record { files = far.files ++ f ∷ whole.0; are_read = whole.1; passes = one_over base far.files whole.0 f over far.within (ap over_limit (sym joined) ∙ h) } in
        tells_more (λ o. over_limit (with_file here (asked, shared)) ≡ o) (ReadPasses told paths base) there fault t

pub far_all : (told : Option Files) (paths : List (List ℕ)) (base new : Files) (ps : List (List ℕ)) → ps ≡ paths → PutsRead told ps base new → PutsRead told paths base new
far_all told paths base new ps e far = let P : List (List ℕ) → Type 0 = λ l. PutsRead told l base new in subst P e far

-- ---- both

module _ (told now : Option Files) (kept : KeepsFiles told now) (prefix : List ℕ) (taken : List (List ℕ)) (under : AreTakenUnder told prefix taken) (old : Files) where
  files_under : (files : List File) → AreRead now taken files → AreFiles told prefix files
  files_under files r = record { taken = taken; are_taken = under; are_read = read_before told now taken files kept r }

  -- some files are there under the prefix
  pub outside_over : ((files : List File) × AreRead now taken files) → (fault : PutFault) → TellsPut (OutsidePasses prefix old) fault → TellsPut (SyncPasses told prefix old) fault
  outside_over r fault t =
      let there : (over : LimitKind × ℕ) → OutsidePasses prefix old (Some over) → SyncPasses told prefix old (Some over) =
      λ over h. (h.outside ++ r.0, record { outside = h.outside; are_outside = h.are_outside; under = r.0; are_under = files_under r.0 r.1; all = refl }, h.passes r.0) in
      tells_more (OutsidePasses prefix old) (SyncPasses told prefix old) there fault t

  module _ (middle : Files) (outside : PutsOutside prefix old middle) where
    pub both_put : (new : Files) → PutsRead now taken middle new → Syncs told prefix old new
    both_put new far = (
      outside.outside ++ far.files,
      record { outside = outside.outside; are_outside = outside.are_outside; under = far.files; are_under = files_under far.files far.are_read; all = refl },
      far.put ∙ ap (λ (m : Files). with_files m far.files) outside.put ∙ sym (with_files_on [] outside.outside far.files),
    )

    pub both_pass : (over : Option (LimitKind × ℕ)) → ReadPasses now taken middle over → SyncPasses told prefix old over
    both_pass over far = (
      outside.outside ++ far.files,
      record { outside = outside.outside; are_outside = outside.are_outside; under = far.files; are_under = files_under far.files far.are_read; all = refl },
      first_over_on [] outside.outside far.files outside.within ∙ ap (λ (m : Files). first_over m far.files) (sym outside.put) ∙ far.passes,
    )

-- putting the lent files outside the prefix in an empty map passes a limit
pub apart_over : (prefix : List ℕ) (old base : Files) (outside : List File) → AreOutside prefix old outside → base ≡ [] → (fault : PutFault) → ((later : List File) → TellsOver (first_over base (outside ++ later)) fault) → TellsPut (OutsidePasses prefix old) fault
apart_over prefix old base outside are e puts.Memory h = tt
apart_over prefix old base outside are e (puts.OverLimit kind number) h = record { outside = outside; are_outside = are; passes = λ later. ap (λ (m : Files). first_over m (outside ++ later)) (sym e) ∙ h later }

-- ---- files outside of the prefix, one after the other

module _ {Y Z : Type 0} (prefix : List ℕ) (old : Files) (files : List (Bor (List ℕ) × Bor (Rc (List ℕ) Z))) (left right : List (String Y × Rc (List ℕ) Z)) (e : String Y × Rc (List ℕ) Z)
    (so_far : (rest : List File) → AreOutside prefix (map shown left) rest → AreOutside prefix old (map lent files ++ rest)) (step : left ≡ e ∷ right) where
  pub one_under : IsUnder prefix (string_bytes e.0) → (rest : List File) → AreOutside prefix (map shown right) rest → AreOutside prefix old (map lent files ++ rest)
  one_under is rest h = let P : List (String Y × Rc (List ℕ) Z) → Type 0 = λ l. AreOutside prefix (map shown l) rest in so_far rest (subst P (sym step) (outside_under prefix (shown e) (map shown right) rest is h))

  pub one_apart : (item : Bor (List ℕ) × Bor (Rc (List ℕ) Z)) (new : List (Bor (List ℕ) × Bor (Rc (List ℕ) Z))) → (IsUnder prefix (string_bytes e.0) → ⊥) → lent item ≡ shown e → new ≡ files ++ item ∷ [] → (rest : List File) → AreOutside prefix (map shown right) rest
      → AreOutside prefix old (map lent new ++ rest)
  one_apart item new nay same put rest h =
      let P : List (String Y × Rc (List ℕ) Z) → Type 0 = λ l. AreOutside prefix (map shown l) (shown e ∷ rest) in
      let Q : List File → Type 0 = λ l. AreOutside prefix old l in
      let there = so_far (shown e ∷ rest) (subst P (sym step) (outside_apart prefix (shown e) (map shown right) rest nay h)) in
      let whole : map lent files ++ shown e ∷ rest ≡ map lent new ++ rest =
      ap (λ (f : File). map lent files ++ f ∷ rest) (sym same) ∙ sym (append_assoc (map lent files) (lent item ∷ []) rest) ∙ ap (λ (l : List File). l ++ rest) (sym (ap (map lent) put ∙ map_push lent files item)) in
      subst Q whole there

pub all_outside : {Y Z : Type 0} (prefix : List ℕ) (old : Files) (files : List (Bor (List ℕ) × Bor (Rc (List ℕ) Z))) (left : List (String Y × Rc (List ℕ) Z)) → ((rest : List File) → AreOutside prefix (map shown left) rest → AreOutside prefix old (map lent files ++ rest)) → left ≡ [] → AreOutside prefix old (map lent files)
all_outside {Y} {Z} prefix old files left so_far end =
    let P : List (String Y × Rc (List ℕ) Z) → Type 0 = λ l. AreOutside prefix (map shown l) [] in
    let Q : List File → Type 0 = λ l. AreOutside prefix old l in
    subst Q (append-nil (map lent files)) (so_far [] (subst P (sym end) refl))

pub limit_more : (P Q : Option (LimitKind × ℕ) → Type 0) → ((over : LimitKind × ℕ) → P (Some over) → Q (Some over)) → (fault : SyncFault) → TellsLimit P fault → TellsLimit Q fault
limit_more P Q f syncs.Memory h = tt
limit_more P Q f syncs.Failed h = tt
limit_more P Q f (syncs.OverLimit kind number) h = f (kind, number) h
