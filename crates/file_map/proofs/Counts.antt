-- The number and the bytes of files after one was put or removed.
use Rattle.std.proofs.Common.{◌≡◌, ℕ, ◌+◌, ◌≤◌, ◌<◌, Bool, true, false, List, [], ◌∷◌, length, refl, ap, ◌∙◌, sym, arith}
use Rattle.std.specs.Prelude.{Option, None, Some, fold, nat_lt, sum_by, if◌then◌else◌}
use Rattle.std.specs.Option.{option_map, unwrap_or}
use Rattle.std.specs.List.Sorted.{IsStrictlySortedBy}
use Rattle.std.specs.Map.{keys_of, values_of}
use Rattle.std.specs.BTreeMap.{is_at}
use Rattle.std.specs.Cmp.Lexicographic.{nat_list_cmp_total}
use Rattle.std.proofs.lemmas.Bool.Decides.{nat_tests}
use Rattle.std.proofs.lemmas.Map.Entries.{sum_by-insert_entry, sum_by-remove_entry, length-values_of}
use Rattle.scan_world.specs.Files.{Files, path_cmp}
use Rattle.file_map.specs.FileMap.{File, bytes_at, with_file, without_file, all_bytes, over_limit}
use Rattle.file_map.specs.declared.limit.LimitKind.{LimitKind}
use Rattle.file_map.specs.declared.limit.LimitKind.TheVariants as kinds

abbrev pub IsInOrder : Files → Type 0
IsInOrder files = IsStrictlySortedBy path_cmp (keys_of files)

abbrev one : List ℕ → ℕ
one bytes = 1

-- one where a file is there, and its bytes
abbrev one_if : Option (List ℕ) → ℕ
one_if found = unwrap_or (option_map one found) 0

abbrev size_if : Option (List ℕ) → ℕ
size_if found = unwrap_or (option_map length found) 0

ones : (xs : List (List ℕ)) (n : ℕ) → fold (λ a x. a + one x) n xs ≡ n + length xs
ones [] n = omega arith
ones (x ∷ xs) n = omega (arith, ones xs (n + 1))

counted : (files : Files) → sum_by one (values_of files) ≡ length files
counted files = omega (arith, ones (values_of files) 0, length-values_of files)

files_with : (files : Files) (f : File) → IsInOrder files → length (with_file files f) + one_if (bytes_at f.0 files) ≡ length files + 1
files_with files f h =
    let all = sum_by-insert_entry one nat_list_cmp_total files f.0 f.1 h in
    omega (arith, all, counted files, counted (with_file files f))

bytes_with : (files : Files) (f : File) → IsInOrder files → all_bytes (with_file files f) + size_if (bytes_at f.0 files) ≡ all_bytes files + length f.1
bytes_with files f h = sum_by-insert_entry length nat_list_cmp_total files f.0 f.1 h

bytes_without : (files : Files) (path : List ℕ) → all_bytes (without_file path files) + size_if (bytes_at path files) ≡ all_bytes files
bytes_without files path = sum_by-remove_entry length (is_at (path_cmp path)) files

pub files_without : (files : Files) (path : List ℕ) → length (without_file path files) ≤ length files
files_without files path =
    let all = sum_by-remove_entry one (is_at (path_cmp path)) files in
    omega (arith, all, counted files, counted (without_file path files))

-- by the two numbers, and by how they compare to their limits
abbrev over_if : Bool → Bool → ℕ → ℕ → Option (LimitKind × ℕ)
over_if many large n b = if many then Some (kinds.Files, n) else (if large then Some (kinds.FileBytes, b) else None)

abbrev pub over_by : ℕ → ℕ → Option (LimitKind × ℕ)
over_by n b = over_if (nat_lt 10000 n) (nat_lt 33554432 b) n b

none_by : (x y : Bool) (n b : ℕ) → over_if x y n b ≡ None → (x ≡ false) × (y ≡ false)
none_by true y n b h = absurd cc
none_by false true n b h = absurd cc
none_by false false n b h = (refl, refl)

-- what is within the limits
pub few : (n b : ℕ) → over_by n b ≡ None → (n ≤ 10000) × (b ≤ 33554432)
few n b h =
    let t = none_by (nat_lt 10000 n) (nat_lt 33554432 b) n b h in
    (grind (arith, nat_tests, t.0), grind (arith, nat_tests, t.1))

pub within : (n b : ℕ) → n ≤ 10000 → b ≤ 33554432 → over_by n b ≡ None
within n b f g =
    let x : nat_lt 10000 n ≡ false = grind (arith, nat_tests) in
    let y : nat_lt 33554432 b ≡ false = grind (arith, nat_tests) in
    ap (λ (t : Bool). over_if t (nat_lt 33554432 b) n b) x ∙ ap (λ (t : Bool). over_if false t n b) y

pub over_files : (n b : ℕ) → 10000 < n → over_by n b ≡ Some (kinds.Files, n)
over_files n b f =
    let x : nat_lt 10000 n ≡ true = grind (arith, nat_tests) in
    ap (λ (t : Bool). over_if t (nat_lt 33554432 b) n b) x

pub over_bytes : (n b : ℕ) → n ≤ 10000 → 33554432 < b → over_by n b ≡ Some (kinds.FileBytes, b)
over_bytes n b f g =
    let x : nat_lt 10000 n ≡ false = grind (arith, nat_tests) in
    let y : nat_lt 33554432 b ≡ true = grind (arith, nat_tests) in
    ap (λ (t : Bool). over_if t (nat_lt 33554432 b) n b) x ∙ ap (λ (t : Bool). over_if false t n b) y

-- a put by numbers that are those of the files with it
pub over_is : (files : Files) (n b : ℕ) → length files ≡ n → all_bytes files ≡ b → over_limit files ≡ over_by n b
over_is files n b e f = ap (λ x. over_by x (all_bytes files)) e ∙ ap (over_by n) f

-- The files and bytes at other paths, where a file of so many bytes stands at the path, or none.
pub others_held : (files : Files) (path old bytes : List ℕ) → IsInOrder files → Some old ≡ bytes_at path files → (length (with_file files (path, bytes)) ≡ length files) × (all_bytes (with_file files (path, bytes)) + length old ≡ all_bytes files + length bytes)
others_held files path old bytes h e =
    let n : one_if (bytes_at path files) ≡ 1 = ap one_if (sym e) in
    let b : size_if (bytes_at path files) ≡ length old = ap size_if (sym e) in
    (omega (arith, files_with files (path, bytes) h, n), omega (arith, bytes_with files (path, bytes) h, b))

pub others_lacked : (files : Files) (path bytes : List ℕ) → IsInOrder files → None ≡ bytes_at path files → (length (with_file files (path, bytes)) ≡ length files + 1) × (all_bytes (with_file files (path, bytes)) ≡ all_bytes files + length bytes)
others_lacked files path bytes h e =
    let n : one_if (bytes_at path files) ≡ 0 = ap one_if (sym e) in
    let b : size_if (bytes_at path files) ≡ 0 = ap size_if (sym e) in
    (omega (arith, files_with files (path, bytes) h, n), omega (arith, bytes_with files (path, bytes) h, b))

-- a file that is there has at most the bytes of all, and without it these are the rest
pub rest_held : (files : Files) (path old : List ℕ) → Some old ≡ bytes_at path files → all_bytes (without_file path files) + length old ≡ all_bytes files
rest_held files path old e =
    let b : size_if (bytes_at path files) ≡ length old = ap size_if (sym e) in
    omega (arith, bytes_without files path, b)

-- fewer files of fewer bytes are within the limits, too
pub fewer : (files : Files) (n b : ℕ) → over_limit files ≡ None → n ≤ length files → b ≤ all_bytes files → over_by n b ≡ None
fewer files n b h f g = let t = few (length files) (all_bytes files) h in within n b (omega (arith, t.0)) (omega (arith, t.1))

pub some_there : (files : Files) (path old : List ℕ) → Some old ≡ bytes_at path files → 0 < length files
some_there [] path old e = absurd cc
some_there (f ∷ fs) path old e = omega arith
