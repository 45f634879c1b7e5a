-- The places of words in a map.
use Rattle.std.specs.Prelude.{◌≡◌, ℕ, List}
use Rattle.std.specs.Borrow.{Bor}
use Rattle.std.specs.BTreeMap.{BTreeMap, get}
use Rattle.std.specs.Cmp.Lexicographic.{slice_cmp}
use Rattle.std.specs.Ordering.{nat_cmp, ordering_then}
use Rattle.std.specs.declared.cmp.Ordering.{Ordering}
use Rattle.node_tree.specs.Order.{kind_place}
use Rattle.unit_names.specs.Words.{Word, place_of}

-- a key: the place of a kind, and a text
abbrev pub Key : Type 0
Key = ℕ × Bor (List ℕ)

abbrev pub key_cmp : Key → Key → Ordering
key_cmp x y = ordering_then (nat_cmp x.0 y.0) (slice_cmp nat_cmp x.1.now y.1.now)

-- the map holds the places of the words and no others
abbrev pub TellsPlaces : BTreeMap Key ℕ → List Word → Type 0
TellsPlaces places words = (key : Key) (w : Word) → kind_place w.kind ≡ key.0 → w.text ≡ key.1.now → get key_cmp places key ≡ place_of words w
