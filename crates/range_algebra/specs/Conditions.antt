-- What conditions ask of sets of members.
use Rattle.std.specs.Prelude.{◌≡◌, ℕ, List, All, IsTrue, MatchOption, slice_get}
use Rattle.node_tree.specs.declared.span.Span.{Span}
use Rattle.meta_bind.specs.declared.bound.Bound.{Bound}
use Rattle.meta_bind.specs.Bounds.{Agree}
use Rattle.tree_match.specs.Members.{Member}
use Rattle.meta_bind.specs.Places.{EndsLieIn}
use Rattle.meta_filter.specs.Values.{holds}
use Rattle.member_join.specs.Ranges.{IsWithin, ShareByte}
use Rattle.range_algebra.specs.Regexes.{matches_bound}
use Rattle.sorted_sets.specs.Sizes.{Any}
use Rattle.range_algebra.specs.Trees.{Branch, without, outside, without_regex, meta_regex, meta_compare, meta_pattern}

-- the member has the range, with a binding that agrees
abbrev pub IsEqualTo : Span → List Bound → Member → Type 0
IsEqualTo range b m = (m.0 ≡ range) × Agree b m.1

-- the range lies in the member's, with a binding that agrees
abbrev pub IsAround : Span → List Bound → Member → Type 0
IsAround range b m = IsWithin range m.0 × Agree b m.1

-- the ends of the bound spans cut no character of the text
abbrev pub AreBoundIn : List ℕ → Member → Type 0
AreBoundIn text m = All (λ (b : Bound). EndsLieIn text b.span) m.1

-- a byte lies in the range and in the member's
abbrev pub IsSharedWith : Span → Member → Type 0
IsSharedWith range m = ShareByte range m.0

-- the same of the member at that place
abbrev pub IsSharedAt : Span → List Member → ℕ → Type 0
IsSharedAt range members i = MatchOption (slice_get members i) ⊥ (IsSharedWith range)

-- What a child asks of a choice, where these are the members of its formula: that none has the range, or that it lies in none,
-- with a binding that agrees; of matches that none shares a byte; or that the condition on a text holds. No condition by a formula
-- holds here.
abbrev pub AllowsBy : List (List ℕ) → List ℕ → List Member → Member → Branch → Type 0
AllowsBy texts bytes members c (without t) = Any (IsEqualTo c.0 c.1) members → ⊥
AllowsBy texts bytes members c (outside t) = Any (IsAround c.0 c.1) members → ⊥
AllowsBy texts bytes members c (without_regex k) = Any (IsSharedWith c.0) members → ⊥
AllowsBy texts bytes members c (meta_regex name k) = IsTrue (matches_bound texts bytes k name c.1)
AllowsBy texts bytes members c (meta_compare x) = IsTrue (holds c.1 bytes x)
AllowsBy texts bytes members c (meta_pattern name t) = ⊥
AllowsBy texts bytes members c _ = Unit {0}
