-- Two lists of members in order, which become one.
use Rattle.std.specs.Prelude.{◌≡◌, ◌⊎◌, ◌↔◌, ◌<◌, ℕ, ◌+◌, List, [], ◌∷◌, ◌++◌, length}
use Rattle.std.specs.declared.cmp.Ordering.{Ordering}
use Rattle.std.specs.declared.cmp.Ordering.TheVariants.{Less}
use Rattle.node_match.specs.Sets.{Among}
use Rattle.sorted_sets.specs.Ends.{EndsWith}
use Rattle.tree_match.specs.Ascending.{IsAscending}
use Rattle.tree_match.specs.Members.{Member, member_cmp}

-- the first comes after the second
abbrev pub turned_cmp : Member → Member → Ordering
turned_cmp x y = member_cmp y x

-- each member comes before the one in front of it, so that the last is the least
abbrev pub IsFalling : List Member → Type 0
IsFalling = IsAscending turned_cmp

-- each of the first comes before each of the others
abbrev pub AreBefore : List Member → List Member → Type 0
AreBefore xs ys = (x y : Member) → Among xs x → Among ys y → member_cmp x y ≡ Less

-- the last of the first list comes before that of the second, or the second has none
abbrev pub EndsBefore : List Member → List Member → Type 0
EndsBefore left right = (x : Member) × EndsWith left x × ((y : Member) → EndsWith right y → member_cmp x y ≡ Less)

-- both lists have the same last member, or none
abbrev pub EndsAlike : List Member → List Member → Type 0
EndsAlike left right = ((left ≡ []) × (right ≡ [])) ⊎ ((x : Member) × EndsWith left x × EndsWith right x)

-- the least member of two falling lists is taken off
pub record TakesLeast (left right left' right' : List Member) (x : Member) : Type 0 where
  pub left_falls : IsFalling left'
  pub right_falls : IsFalling right'
  pub least : (y : Member) → Among left' y ⊎ Among right' y → member_cmp x y ≡ Less
  pub same : (y : Member) → (Among left y ⊎ Among right y) ↔ ((x ≡ y) ⊎ (Among left' y ⊎ Among right' y))
  pub fewer : length left' + length right' < length left + length right

-- a list in order, and two that fall whose members all come behind it
pub record CanGoOn (done left right : List Member) : Type 0 where
  pub ordered : IsAscending member_cmp done
  pub left_falls : IsFalling left
  pub right_falls : IsFalling right
  pub left_behind : AreBefore done left
  pub right_behind : AreBefore done right
