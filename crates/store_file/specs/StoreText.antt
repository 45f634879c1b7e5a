-- The file in which leaves are kept between runs.
use Rattle.std.specs.Prelude.{◌≡◌, ℕ, ◌≤◌, List, ◌++◌, length, Result, Ok, Err}
use Rattle.std.specs.List.{flat_map, All}
use Rattle.std.specs.declared.cmp.Ordering.{Ordering}
use Rattle.std.specs.Ordering.{nat_cmp, ordering_then}
use Rattle.std.specs.Cmp.Lexicographic.{slice_cmp}
use Rattle.sha2.specs.Sha256.{sha256}
use Rattle.tree_match.specs.declared.leaf.Leaf.{Leaf}
use Rattle.tree_match.specs.declared.leaf.Leaf.TheVariants.{Full, Crowded}
use Rattle.tree_match.specs.Ascending.{IsAscending}
use Rattle.tree_match.specs.Members.{member_cmp}
use Rattle.store_form.specs.Form.{number_bytes, members_bytes, IsMember}
use Rattle.store_form.specs.Takes.{IsMemory}
use Rattle.store_form.specs.declared.fault.FormFault.{FormFault}
use Rattle.store_file.specs.declared.digest.Digest.{Digest}
use Rattle.store_file.specs.declared.entry.Entry.{Entry}
use Rattle.store_file.specs.declared.entry.TheConstants.{MARK}

-- the largest number stands for a crowded leaf; else the members stand behind their number
abbrev pub leaf_bytes : Leaf → List ℕ
leaf_bytes (Full members) = number_bytes (length members) ++ members_bytes members
leaf_bytes Crowded = number_bytes 4294967295

-- at most 10,000 members, in order and each once
abbrev pub IsStored : Leaf → Type 0
IsStored (Full members) = (length members ≤ 10000) × All IsMember members × IsAscending member_cmp members
IsStored Crowded = Unit {0}

abbrev pub IsDigest : Digest → Type 0
IsDigest d = length d.bytes ≡ 32

-- the digest of the piece's bytes, that of the pattern's bytes, and the leaf
abbrev pub entry_bytes : Entry → List ℕ
entry_bytes e = e.piece.bytes ++ (e.pattern.bytes ++ leaf_bytes e.leaf)

abbrev pub IsEntry : Entry → Type 0
IsEntry e = IsDigest e.piece × IsDigest e.pattern × IsStored e.leaf

abbrev pub digest_cmp : Digest → Digest → Ordering
digest_cmp a b = slice_cmp nat_cmp a.bytes b.bytes

-- by the digest of the piece, then by that of the pattern
abbrev pub entry_cmp : Entry → Entry → Ordering
entry_cmp a b = ordering_then (digest_cmp a.piece b.piece) (digest_cmp a.pattern b.pattern)

-- the mark, and then the entries
abbrev pub front_bytes : List Entry → List ℕ
front_bytes entries = MARK ++ flat_map entry_bytes entries

-- entries in order of their digests, none twice
abbrev pub AreEntries : List Entry → Type 0
AreEntries entries = All IsEntry entries × IsAscending entry_cmp entries

-- the text of these entries: the mark, the entries, and the digest of all these bytes; at most 33,554,432 bytes
pub record IsStoreText (entries : List Entry) (text : List ℕ) : Type 0 where
  pub bytes : text ≡ front_bytes entries ++ sha256 (front_bytes entries)
  pub sound : AreEntries entries
  pub small : length text ≤ 33554432

-- ---- what a call reads of a whole text

-- the text is that of the value that is given
abbrev pub IsOf : {X : Type 0} → (X → List ℕ → Type 0) → List ℕ → Result X FormFault → Type 0
IsOf Is text (Ok x) = Is x text
IsOf Is text (Err e) = Unit {0}

-- that value is given, unless memory ran out
abbrev pub IsGiven : {X : Type 0} → X → Result X FormFault → Type 0
IsGiven x (Ok y) = y ≡ x
IsGiven x (Err e) = IsMemory e

-- a value of which the text is one is given, unless memory ran out
abbrev pub GivesAny : {X : Type 0} → (X → List ℕ → Type 0) → List ℕ → Result X FormFault → Type 0
GivesAny {X} Is text result = (x : X) → Is x text → IsGiven x result

-- entries in any order, one after the other
abbrev pub AreIn : List Entry → List ℕ → Type 0
AreIn entries text = All IsEntry entries × (text ≡ flat_map entry_bytes entries)

-- the same in order
abbrev pub AreOrderedIn : List Entry → List ℕ → Type 0
AreOrderedIn entries text = AreEntries entries × (text ≡ flat_map entry_bytes entries)
