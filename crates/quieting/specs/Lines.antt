-- Whether a finding is quieted.
use Rattle.std.specs.Prelude.{◌≡◌, ℕ, ◌+◌, ◌==◌, ◌&&◌, ◌||◌, Bool, false, List, Option, None, Some}
use Rattle.std.specs.Borrow.{Bor}
use Rattle.std.specs.List.{list_any}
use Rattle.std.specs.Option.{option_cmp}
use Rattle.std.specs.Str.{bytes_eq}
use Rattle.std.specs.Ordering.{nat_cmp, ordering_then}
use Rattle.std.specs.declared.cmp.Ordering.{Ordering}
use Rattle.std.specs.Cmp.Lexicographic.{slice_cmp}
use Rattle.std.specs.BTreeSet.{BTreeSet, contains}
use Rattle.quieting.specs.declared.quiet.Quiet.{Quiet}

-- a comment quiets the id: it quiets all, or names it
abbrev pub quiets_id : List ℕ → Quiet → Bool
quiets_id id q = q.all || list_any (λ named. bytes_eq named id) q.ids

-- some comment on the line or on the one before it quiets the id
abbrev pub is_quieted : List Quiet → ℕ → List ℕ → Bool
is_quieted quiets line id = list_any (λ q. (q.line == line || q.line + 1 == line) && quiets_id id q) quiets

-- ---- for private clauses

-- a line, and an id or none
abbrev pub Key : Type 0
Key = ℕ × Option (Bor (List ℕ))

abbrev pub key_cmp : Key → Key → Ordering
key_cmp x y = ordering_then (nat_cmp x.0 y.0) (option_cmp (λ a b. slice_cmp nat_cmp a.now b.now) x.1 y.1)

abbrev pub Keys : Type 0
Keys = BTreeSet Key

abbrev pub has : Keys → Key → Bool
has keys key = contains key_cmp keys key

-- some comment on the line quiets the id
abbrev pub is_quiet_on : List Quiet → ℕ → List ℕ → Bool
is_quiet_on quiets line id = list_any (λ q. q.line == line && quiets_id id q) quiets

-- it is none, of a comment that quiets all
abbrev pub all_is : Bool → Option (Bor (List ℕ)) → Bool
all_is all None = all
all_is all (Some id) = false

-- it is one of those ids
abbrev pub id_is : List (List ℕ) → Option (Bor (List ℕ)) → Bool
id_is ids None = false
id_is ids (Some id) = list_any (λ named. bytes_eq named id.now) ids

-- the line of a comment that quiets all
abbrev pub all_key : Quiet → Key → Bool
all_key q key = q.line == key.0 && all_is q.all key.1

-- the line, and one of those ids
abbrev pub ids_key : ℕ → List (List ℕ) → Key → Bool
ids_key line ids key = line == key.0 && id_is ids key.1

-- a comment has that line, and quiets all or the id
abbrev pub has_key : Key → Quiet → Bool
has_key key q = q.line == key.0 && (all_is q.all key.1 || id_is q.ids key.1)

-- those keys are added
abbrev pub Adds : Keys → Keys → (Key → Bool) → Type 0
Adds old new test = (key : Key) → has new key ≡ test key || has old key

-- the keys are those of these comments
abbrev pub HasJust : Keys → List Quiet → Type 0
HasJust keys quiets = (key : Key) → has keys key ≡ list_any (has_key key) quiets
