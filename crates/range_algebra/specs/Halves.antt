-- Where the members with a range begin, among members in order.
use Rattle.std.specs.Prelude.{◌≡◌, ◌≤◌, ℕ, List, length, map, take, drop}
use Rattle.std.specs.declared.cmp.Ordering.TheVariants.{Less}
use Rattle.node_tree.specs.declared.span.Span.{Span}
use Rattle.node_tree.specs.Span.{span_cmp}
use Rattle.rx_text.specs.Searches.{FollowFrom}
use Rattle.tree_match.specs.Ascending.{IsAscending}
use Rattle.tree_match.specs.Members.{Member, member_cmp}
use Rattle.sorted_sets.specs.Sizes.{Each}
use Rattle.member_join.specs.Choices.{range_of}
use Rattle.range_algebra.specs.Trees.{Branch, without, outside, without_regex}

-- the member begins before the range, or begins there and ends before it
abbrev pub IsBefore : Span → Member → Type 0
IsBefore range m = span_cmp m.0 range ≡ Less

-- the members up to low are before the range, and none from high on
pub record IsBetween (range : Span) (members : List Member) (low high : ℕ) : Type 0 where
  pub ordered : low ≤ high
  pub within : high ≤ length members
  pub before : Each (IsBefore range) (take low members)
  pub after : Each (λ (m : Member). IsBefore range m → ⊥) (drop high members)

-- members in order, none of them before the range
pub record IsFrom (range : Span) (members : List Member) : Type 0 where
  pub ordered : IsAscending member_cmp members
  pub after : Each (λ (m : Member). IsBefore range m → ⊥) members

-- the ranges of the members follow one another
abbrev pub AreApart : List Member → Type 0
AreApart members = FollowFrom 0 (map range_of members)

-- the members of a formula that takes something away are in order, and matches follow one another
abbrev pub IsOrderedFor : Branch → List Member → Type 0
IsOrderedFor (without t) members = IsAscending member_cmp members
IsOrderedFor (outside t) members = IsAscending member_cmp members
IsOrderedFor (without_regex k) members = AreApart members
IsOrderedFor _ members = Unit {0}
