-- Files by path, and the limits on them.
use Rattle.std.specs.Prelude.{◌≡◌, ℕ, List, ⊤, Option, None, Some, length, take, sum_by, nat_lt, if◌then◌else◌}
use Rattle.std.specs.Map.{lookup, remove_entry, values_of}
use Rattle.std.specs.BTreeMap.{insert_entry, is_at}
use Rattle.scan_world.specs.Files.{Files, path_cmp}
use Rattle.file_map.specs.declared.limit.LimitKind.{LimitKind}
use Rattle.file_map.specs.declared.limit.LimitKind.TheVariants as kinds
use Rattle.file_map.specs.declared.fault.PutFault.{PutFault}
use Rattle.file_map.specs.declared.fault.PutFault.TheVariants as faults

-- a path, and what is kept of the bytes there
abbrev pub File : Type 0
File = List ℕ × List ℕ

-- the file with the bytes that are kept of it
abbrev pub front : File → File
front file = (file.0, take 1000001 file.1)

-- the bytes of the file at a path, of files in order of path
abbrev pub bytes_at : List ℕ → Files → Option (List ℕ)
bytes_at path files = lookup (is_at (path_cmp path)) files

-- the files, with this one at its path
abbrev pub with_file : Files → File → Files
with_file files file = insert_entry path_cmp files file.0 file.1

-- the files without that at the path
abbrev pub without_file : List ℕ → Files → Files
without_file path files = remove_entry (is_at (path_cmp path)) files

-- the bytes of all files together
abbrev pub all_bytes : Files → ℕ
all_bytes files = sum_by length (values_of files)

-- the first number of these files that passes its limit, where one does
abbrev pub over_limit : Files → Option (LimitKind × ℕ)
over_limit files =
    if nat_lt 10000 (length files) then Some (kinds.Files, length files) else (if nat_lt 33554432 (all_bytes files) then Some (kinds.FileBytes, all_bytes files) else None)

-- where the fault tells a number that passes its limit, this holds of it
abbrev pub TellsPut : (Option (LimitKind × ℕ) → Type 0) → PutFault → Type 0
TellsPut Holds faults.Memory = ⊤
TellsPut Holds (faults.OverLimit kind number) = Holds (Some (kind, number))

-- a refused put tells the number that passes its limit
abbrev pub TellsOver : Option (LimitKind × ℕ) → PutFault → Type 0
TellsOver over = TellsPut (λ told. over ≡ told)
