-- Where a search among names ends, and what a put or a removal there gives.
use Rattle.std.proofs.Common.{◌≡◌, ℕ, zero, suc, ◌+◌, ◌<◌, ◌≤◌, true, false, List, [], ◌∷◌, length, drop, refl, ap, ◌∙◌, sym, subst, arith, Ok, Err}
use Rattle.std.specs.Prelude.{Result, slice_index_or, slice_set, insert, remove}
use Rattle.std.specs.Option.{is_some}
use Rattle.std.specs.Ordering.{is_le, match_ordering}
use Rattle.std.specs.declared.cmp.Ordering.{Ordering}
use Rattle.std.specs.declared.cmp.Ordering.TheVariants.{Less, Equal, Greater}
use Rattle.std.specs.Cmp.Lexicographic.{nat_list_cmp_total}
use Rattle.std.specs.Map.{keys_of}
use Rattle.std.specs.List.{AllByRecursion}
use Rattle.std.specs.List.Sorted.{IsStrictlySortedBy}
use Rattle.std.proofs.lemmas.Bool.{false≢true}
use Rattle.std.proofs.lemmas.Map.Lookups.{exact_bytes}
use Rattle.std_collections.specs.Layout.BTreeMap.{seek, one_further}
use Rattle.std_collections.specs.Layout.Columns.{set_value_at, length-set_value_at}
use Rattle.std_collections.proofs.Entries.{lookup-none, remove_entry_none}
use Rattle.std_collections.proofs.Seek.{AnswersAt, by_ordering, seek-Ok, seek_err, found_at, missing_at, insert_entry-Ok, insert_entry_err, sorted_insert}
use Rattle.scan_world.specs.Files.{Files, path_cmp}
use Rattle.file_map.specs.FileMap.{File, bytes_at, with_file, without_file}
use Rattle.rule_files.specs.declared.rule_file.RuleFile.{RuleFile}
use Rattle.rule_map.specs.Kept.{IsPlaceIn}

-- ---- step by step

-- the same answer, so many further
abbrev pub further : ℕ → Result ℕ ℕ → Result ℕ ℕ
further i (Ok j) = Ok (i + j)
further i (Err j) = Err (i + j)

further_none : (r : Result ℕ ℕ) → r ≡ further 0 r
further_none (Ok j) = ap Ok (omega arith)
further_none (Err j) = ap Err (omega arith)

further_one : (i : ℕ) (r : Result ℕ ℕ) → further i (one_further r) ≡ further (i + 1) r
further_one i (Ok j) = ap Ok (omega arith)
further_one i (Err j) = ap Err (omega arith)

-- the search goes on behind the first i names
abbrev pub Goes : List ℕ → Files → ℕ → Type 0
Goes name files i = seek (path_cmp name) files ≡ further i (seek (path_cmp name) (drop i files))

pub goes_first : (name : List ℕ) (files : Files) → Goes name files 0
goes_first name files = further_none (seek (path_cmp name) files)

-- what it answers where it is at the first of these
abbrev after : List ℕ → Files → Ordering → Result ℕ ℕ
after name files r = match_ordering r (Err 0) (Ok 0) (one_further (seek (path_cmp name) files))

at_place : (name : List ℕ) (files : Files) (i : ℕ) (d : File) (r : Ordering) → i < length files → path_cmp name (slice_index_or files i d).0 ≡ r → seek (path_cmp name) (drop i files) ≡ after name (drop (suc i) files) r
at_place name [] i d r l e = absurd (omega (arith, l))
at_place name (f ∷ fs) zero d r l e = ap (after name fs) e
at_place name (f ∷ fs) (suc i) d r l e = at_place name fs i d r (omega (arith, l)) e

pub goes_on : (name : List ℕ) (files : Files) (i : ℕ) (d : File) → i < length files → Goes name files i → path_cmp name (slice_index_or files i d).0 ≡ Greater → Goes name files (i + 1)
goes_on name files i d l h e =
    let on : suc i ≡ i + 1 = omega arith in
    h ∙ ap (further i) (at_place name files i d Greater l e) ∙ further_one i (seek (path_cmp name) (drop (suc i) files)) ∙ ap (λ (n : ℕ). further (i + 1) (seek (path_cmp name) (drop n files))) on

pub ends_at : (name : List ℕ) (files : Files) (i : ℕ) (d : File) → i < length files → Goes name files i → path_cmp name (slice_index_or files i d).0 ≡ Equal → Ok i ≡ seek (path_cmp name) files
ends_at name files i d l h e =
    let none : i ≡ i + 0 = omega arith in
    ap Ok none ∙ sym (h ∙ ap (further i) (at_place name files i d Equal l e))

pub ends_before : (name : List ℕ) (files : Files) (i : ℕ) (d : File) → i < length files → Goes name files i → path_cmp name (slice_index_or files i d).0 ≡ Less → Err i ≡ seek (path_cmp name) files
ends_before name files i d l h e =
    let none : i ≡ i + 0 = omega arith in
    ap Err none ∙ sym (h ∙ ap (further i) (at_place name files i d Less l e))

behind : (files : Files) (i : ℕ) → length files ≤ i → drop i files ≡ []
behind [] zero l = refl
behind [] (suc i) l = refl
behind (f ∷ fs) zero l = absurd (omega (arith, l))
behind (f ∷ fs) (suc i) l = behind fs i (omega (arith, l))

pub ends_last : (name : List ℕ) (files : Files) (i : ℕ) → i ≡ length files → Goes name files i → Err i ≡ seek (path_cmp name) files
ends_last name files i l h =
    let none : i ≡ i + 0 = omega arith in
    ap Err none ∙ sym (h ∙ ap (λ fs. further i (seek (path_cmp name) fs)) (behind files i (omega (arith, l))))

-- ---- what is at the place

pub place_in : (name : List ℕ) (files : Files) (contents : List RuleFile) (place : Result ℕ ℕ) → place ≡ seek (path_cmp name) files → length contents ≡ length files → IsPlaceIn contents place
place_in name files contents (Ok i) e h = let r = seek-Ok (path_cmp name) files i (sym e) in omega (arith, r.0, h)
place_in name files contents (Err i) e h = let r = seek_err (path_cmp name) files i (sym e) in omega (arith, r.0, h)

same_name : (name bytes : List ℕ) (files : Files) (i : ℕ) → AnswersAt (path_cmp name) files i Equal → slice_set files i (name, bytes) ≡ set_value_at files i bytes
same_name name bytes [] i a = refl
same_name name bytes (f ∷ fs) zero a = ap (λ (n : List ℕ). (n, bytes) ∷ fs) (exact_bytes name f.0 a)
same_name name bytes (f ∷ fs) (suc i) a = ap (λ l. f ∷ l) (same_name name bytes fs i a)

pub set_is : (files : Files) (f : File) (i : ℕ) → Ok i ≡ seek (path_cmp f.0) files → slice_set files i f ≡ with_file files f
set_is files f i e =
    let r = seek-Ok (path_cmp f.0) files i (sym e) in
    same_name f.0 f.1 files i r.2 ∙ insert_entry-Ok path_cmp f.0 f.1 files i (sym e)

pub insert_is : (files : Files) (f : File) (i : ℕ) → Err i ≡ seek (path_cmp f.0) files → insert files i f ≡ with_file files f
insert_is files f i e = insert_entry_err path_cmp f.0 f.1 files i (sym e)

length_insert : (files : Files) (i : ℕ) (f : File) → length (insert files i f) ≡ length files + 1
length_insert files zero f = omega arith
length_insert [] (suc i) f = omega arith
length_insert (g ∷ fs) (suc i) f = omega (arith, length_insert fs i f)

pub with_held : (files : Files) (f : File) (i : ℕ) → Ok i ≡ seek (path_cmp f.0) files → length (with_file files f) ≡ length files
with_held files f i e = sym (ap length (insert_entry-Ok path_cmp f.0 f.1 files i (sym e))) ∙ length-set_value_at files i f.1

pub with_new : (files : Files) (f : File) (i : ℕ) → Err i ≡ seek (path_cmp f.0) files → length (with_file files f) ≡ length files + 1
with_new files f i e = sym (ap length (insert_is files f i e)) ∙ length_insert files i f

-- ---- names stay in order

abbrev pub IsInOrder : Files → Type 0
IsInOrder files = IsStrictlySortedBy path_cmp (keys_of files)

keys_set : (files : Files) (i : ℕ) (bytes : List ℕ) → keys_of (set_value_at files i bytes) ≡ keys_of files
keys_set [] i bytes = refl
keys_set (f ∷ fs) zero bytes = refl
keys_set (f ∷ fs) (suc i) bytes = ap (λ l. f.0 ∷ l) (keys_set fs i bytes)

pub with_ordered : (files : Files) (f : File) (place : Result ℕ ℕ) → place ≡ seek (path_cmp f.0) files → IsInOrder files → IsInOrder (with_file files f)
with_ordered files f (Ok i) e s = subst IsInOrder (insert_entry-Ok path_cmp f.0 f.1 files i (sym e)) (subst (IsStrictlySortedBy path_cmp) (sym (keys_set files i f.1)) s)
with_ordered files f (Err i) e s = subst IsInOrder (insert_is files f i e) (sorted_insert path_cmp f.0 f.1 nat_list_cmp_total files i s (sym e))

all_fewer : (P : List ℕ → Type 0) (files : Files) (i : ℕ) → AllByRecursion P (keys_of files) → AllByRecursion P (keys_of (remove files i))
all_fewer P [] zero a = tt
all_fewer P [] (suc i) a = tt
all_fewer P (f ∷ fs) zero a = a.1
all_fewer P (f ∷ fs) (suc i) a = (a.0, all_fewer P fs i a.1)

pub fewer_ordered : (files : Files) (i : ℕ) → IsInOrder files → IsInOrder (remove files i)
unfolding IsStrictlySortedBy
fewer_ordered [] zero s = tt
fewer_ordered [] (suc i) s = tt
fewer_ordered (f ∷ fs) zero s = s.1
fewer_ordered (f ∷ fs) (suc i) s = (all_fewer (λ y. path_cmp f.0 y ≡ Less) fs i s.0, fewer_ordered fs i s.1)

pub length_fewer : (files : Files) (i : ℕ) → length (remove files i) ≤ length files
length_fewer [] zero = omega arith
length_fewer [] (suc i) = omega arith
length_fewer (f ∷ fs) zero = omega arith
length_fewer (f ∷ fs) (suc i) = omega (arith, length_fewer fs i)

-- ---- removals

below : (name x y : List ℕ) → is_le (path_cmp name x) ≡ true → path_cmp x y ≡ Less → path_cmp name y ≡ Less
below name x y h l =
    by_ordering (path_cmp name x)
    (λ a. nat_list_cmp_total.trans name x y a l)
    (λ a. nat_list_cmp_total.congr name x y a ∙ l)
    (λ a. absurd (false≢true (sym (ap is_le a) ∙ h)))

pub removed_is : (name : List ℕ) (files : Files) (i : ℕ) → Ok i ≡ seek (path_cmp name) files → remove files i ≡ without_file name files
removed_is name files i e = (found_at (path_cmp name) files i (sym e)).removes

pub was_there : (name : List ℕ) (files : Files) (i : ℕ) → Ok i ≡ seek (path_cmp name) files → is_some (bytes_at name files) ≡ true
was_there name files i e = (found_at (path_cmp name) files i (sym e)).there

pub same_without : (name : List ℕ) (files : Files) (i : ℕ) → IsInOrder files → Err i ≡ seek (path_cmp name) files → files ≡ without_file name files
same_without name files i s e = sym (remove_entry_none _ files (missing_at (path_cmp name) (below name) files i s (sym e)))

pub was_not : (name : List ℕ) (files : Files) (i : ℕ) → IsInOrder files → Err i ≡ seek (path_cmp name) files → is_some (bytes_at name files) ≡ false
was_not name files i s e = ap is_some (lookup-none _ files (missing_at (path_cmp name) (below name) files i s (sym e)))
