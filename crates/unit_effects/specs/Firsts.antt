-- The first bytes of names that may be fixed.
use Rattle.std.specs.Prelude.{◌≡◌, ℕ, Bool, true, false, List, slice_get, slice_index_or, is_some, Option, Some, None}
use Rattle.std.specs.Borrow.{Bor}
use Rattle.std.specs.BTreeMap.{BTreeMap, get_by}
use Rattle.std.specs.Cmp.Lexicographic.{slice_cmp}
use Rattle.std.specs.Ordering.{nat_cmp}
use Rattle.unit_names.specs.declared.word.Word.{Word as Lent}

-- whether a name may be one of those whose first bytes are marked; one without a first byte may
abbrev pub may_begin : List Bool → Option ℕ → Bool
may_begin firsts None = true
may_begin firsts (Some b) = slice_index_or firsts b true

abbrev pub may_be : List Bool → List ℕ → Bool
may_be firsts name = may_begin firsts (slice_get name 0)

-- a name was marked, and those stay marked that were
abbrev pub Marks : List Bool → List ℕ → List Bool → Type 0
Marks old name new = (may_be new name ≡ true) × ((other : List ℕ) → may_be old other ≡ true → may_be new other ≡ true)

-- a name of which the map says a literal may be one of those that are marked
abbrev pub IsMarked : List Bool → Bor (List ℕ) × Option Lent → Type 0
IsMarked firsts e = is_some e.1 ≡ true → may_be firsts e.0.now ≡ true

-- a name that can't be one of those gets no literal as a constant does
abbrev pub TellsFirsts : List Bool → BTreeMap (Bor (List ℕ)) (Option Lent) → Type 0
TellsFirsts firsts once = (name : List ℕ) → may_be firsts name ≡ false → (w : Lent) → get_by (λ key. slice_cmp nat_cmp name key.now) once ≡ Some (Some w) → ⊥
