-- Ranges that lie in ranges, and the bytes that ranges share.
use Rattle.std.specs.Prelude.{◌≡◌, ◌≤◌, ◌<◌, ℕ, List}
use Rattle.node_tree.specs.declared.span.Span.{Span}
use Rattle.node_match.specs.Sets.{Among}
use Rattle.sorted_sets.specs.Sizes.{Each}

-- the first range lies in the second
abbrev pub IsWithin : Span → Span → Type 0
IsWithin a b = (a.from ≤ a.to) × (b.from ≤ a.from) × (a.to ≤ b.to)

-- the range has a byte
abbrev pub HasBytes : Span → Type 0
HasBytes a = a.from < a.to

-- a byte lies in both ranges
abbrev pub ShareByte : Span → Span → Type 0
ShareByte a b = (at : ℕ) × (a.from ≤ at) × (at < a.to) × (b.from ≤ at) × (at < b.to)

-- the intersection of these ranges: it begins where the last of them begins, and ends where the first of them ends
pub record IsShared (shared : Span) (ranges : List Span) : Type 0 where
  pub begins_late : Each (λ (r : Span). r.from ≤ shared.from) ranges
  pub ends_early : Each (λ (r : Span). shared.to ≤ r.to) ranges
  pub begins : (r : Span) × Among ranges r × (r.from ≡ shared.from)
  pub ends : (r : Span) × Among ranges r × (r.to ≡ shared.to)
