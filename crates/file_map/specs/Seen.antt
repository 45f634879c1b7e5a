-- How a map of shared bytes by path is seen.
use Rattle.std.specs.Prelude.{ℕ, List, String, map}
use Rattle.std.specs.BTreeMap.{BTreeMap}
use Rattle.std.specs.Borrow.{Bor}
use Rattle.std.specs.String.{string_bytes}
use Rattle.std.specs.declared.rc.Rc.{Rc}
use Rattle.std.specs.Rc.{rc_value}
use Rattle.scan_world.specs.Files.{Files}
use Rattle.file_map.specs.FileMap.{File}

module _ {Y Z : Type 0} where
  abbrev pub shown : String Y × Rc (List ℕ) Z → File
  shown entry = (string_bytes entry.0, rc_value entry.1)

  -- the files of such a map, in order of path
  abbrev pub files_of : BTreeMap (String Y) (Rc (List ℕ) Z) → Files
  files_of entries = map shown entries.entries

-- a lent path with lent bytes
abbrev pub lent : {Z : Type 0} → Bor (List ℕ) × Bor (Rc (List ℕ) Z) → File
lent file = (file.0.now, rc_value file.1.now)
