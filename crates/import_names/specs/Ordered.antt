-- What is said of names, in order of name.
use Rattle.std.specs.Prelude.{◌≡◌, ℕ, List, Bool, true, false}
use Rattle.std.specs.Cmp.Lexicographic.{slice_cmp}
use Rattle.std.specs.List.Sorted.{IsSorted, IsPartitionPoint}
use Rattle.std.specs.Ordering.{nat_cmp, is_lt, is_le}
use Rattle.std.specs.declared.cmp.Ordering.{Ordering}
use Rattle.import_names.specs.declared.claim.Claim.{Claim}

abbrev pub name_cmp : Claim → Claim → Ordering
name_cmp a b = slice_cmp nat_cmp a.name b.name

-- what is said of a name doesn't stand behind what is said of a later one
abbrev pub AreInOrder : List Claim → Type 0
AreInOrder claims = IsSorted name_cmp claims

-- it is said of a name before that
abbrev pub is_before : List ℕ → Claim → Bool
is_before name c = is_lt (slice_cmp nat_cmp c.name name)

-- it is said of that name or of one before
abbrev pub is_through : List ℕ → Claim → Bool
is_through name c = is_le (slice_cmp nat_cmp c.name name)

-- the first so many pass the test, and no others do
abbrev pub Parts : (Claim → Bool) → List Claim → ℕ → Type 0
Parts test claims at = IsPartitionPoint (λ c. test c ≡ true) (λ c. test c ≡ false) claims at
