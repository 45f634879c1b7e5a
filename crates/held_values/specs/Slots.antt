-- What is known of pairs of a point and a name, as values come to them.
use Rattle.std.specs.Prelude.{◌≡◌, ◌≢◌, ◌⊎◌, ◌+◌, ◌*◌, ◌-◌, ◌/◌, ◌<◌, ◌≤◌, ℕ, List, [], ◌∷◌, length, slice_index}
use Rattle.graph_form.specs.Sets.{Among}
use Rattle.held_values.specs.declared.slots.Slots.{Slots}
use Rattle.held_values.specs.declared.targets.Target.{Target}

-- no value came yet
abbrev pub unseen : ℕ
unseen = 4294967295

-- what is known of a pair
abbrev pub slot : Slots → ℕ → ℕ
slot slots k = slice_index slots.values.items k

-- what is known allows for the value
abbrev pub Covers : ℕ → ℕ → Type 0
Covers known value = (known ≡ 0) ⊎ (known ≡ value)

-- one of these values came, and another one than that was known before or came too
abbrev pub Clashes : ℕ → (ℕ → Type 0) → Type 0
Clashes known Came = (value : ℕ) × Came value × (((known ≢ unseen) × (known ≢ value)) ⊎ ((other : ℕ) × Came other × (other ≢ value)))

-- what is known is what was, or is one of the values that came, or nothing since there are several
abbrev pub Comes : ℕ → (ℕ → Type 0) → ℕ → Type 0
Comes known Came now = (now ≡ known) ⊎ (Came now ⊎ ((now ≡ 0) × Clashes known Came))

-- how often what is known can change
abbrev pub rank : ℕ → ℕ
rank known = (1 - (1 - known)) + known / 4294967295

-- the sum of these
abbrev pub ranks : List ℕ → ℕ
ranks [] = 0
ranks (x ∷ xs) = rank x + ranks xs

-- what is left to do
unfoldable pub weight_of : Slots → ℕ
weight_of slots = 2 * ranks slots.values.items + length slots.waiting.items

-- one value more came
pub record Joins (known value now : ℕ) : Type 0 where
  pub covers : Covers now value
  pub kept : (known ≡ unseen) ⊎ Covers now known
  pub comes : Comes known (λ v. v ≡ value) now
  pub rank : now ≢ known → rank now < rank known
  pub seen : now < unseen

-- to none of so many pairs a value came
pub record IsNew (pairs : ℕ) (slots : Slots) : Type 0 where
  pub size : length slots.values.items ≡ pairs
  pub unseen : (k : ℕ) → k < pairs → slot slots k ≡ unseen
  pub waiting : slots.waiting.items ≡ []

-- these values came to pairs, and pairs of which another thing is known now wait
pub record Raised (Came : ℕ → ℕ → Type 0) (old new : Slots) : Type 0 where
  pub size : length new.values.items ≡ length old.values.items
  pub covers : (k v : ℕ) → Came k v → Covers (slot new k) v
  pub kept : (k : ℕ) → (slot old k ≡ unseen) ⊎ Covers (slot new k) (slot old k)
  pub comes : (k : ℕ) → Comes (slot old k) (Came k) (slot new k)
  pub waits : (k : ℕ) → (slot new k ≡ slot old k) ⊎ Among new.waiting.items k
  pub more : (k : ℕ) → Among old.waiting.items k → Among new.waiting.items k
  pub inside : (k : ℕ) → Among new.waiting.items k → Among old.waiting.items k ⊎ ((k < length new.values.items) × (slot new k ≢ unseen))
  pub weight : weight_of new ≤ weight_of old
  pub small : (k v : ℕ) → Came k v → v < unseen

-- a value comes to a name, whose pairs begin there, at these points
abbrev pub ComesTo : ℕ → List ℕ → ℕ → ℕ → ℕ → Type 0
ComesTo base points value k v = (point : ℕ) × Among points point × (k ≡ base + point) × (v ≡ value)

-- these targets get their values at these points, where a name has so many pairs
abbrev pub ComesAt : List ℕ → ℕ → List Target → ℕ → ℕ → Type 0
ComesAt points width targets k v = (target : Target) × Among targets target × ComesTo (target.name * width) points target.value k v

-- the first values of a list come to the names' first pairs
abbrev pub Enters : List ℕ → ℕ → ℕ → ℕ → ℕ → Type 0
Enters start width to k v = (name : ℕ) × (name < to) × (name < length start) × (k ≡ name * width) × (v ≡ slice_index start name)
