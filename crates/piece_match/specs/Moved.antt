-- What begins some bytes later.
use Rattle.std.specs.Prelude.{◌≡◌, ℕ, ◌+◌, List, map}
use Rattle.node_tree.specs.declared.span.Span.{Span}
use Rattle.meta_bind.specs.declared.bound.Bound.{Bound}
use Rattle.tree_match.specs.declared.leaf.Leaf.{Leaf}
use Rattle.tree_match.specs.declared.leaf.Leaf.TheVariants.{Full, Crowded}
use Rattle.tree_match.specs.Members.{Member}

abbrev pub moved_span : ℕ → Span → Span
moved_span by s = record { from = s.from + by; to = s.to + by }

abbrev pub moved_bound : ℕ → Bound → Bound
moved_bound by b = record { name = b.name; span = moved_span by b.span; nodes = b.nodes }

abbrev pub moved_binding : ℕ → List Bound → List Bound
moved_binding by bs = map (moved_bound by) bs

-- the range and each bound span begin and end so much later
abbrev pub moved_member : ℕ → Member → Member
moved_member by m = (moved_span by m.0, moved_binding by m.1)

abbrev pub moved_members : ℕ → List Member → List Member
moved_members by ms = map (moved_member by) ms

abbrev pub moved_leaf : ℕ → Leaf → Leaf
moved_leaf by (Full members) = Full (moved_members by members)
moved_leaf by Crowded = Crowded

-- the set with each member moved
abbrev pub Moved : ℕ → (Member → Type 0) → Member → Type 0
Moved by Set m = (x : Member) × (m ≡ moved_member by x) × Set x

-- a place and the one so much later
abbrev pub Later : ℕ → ℕ → ℕ → Type 0
Later by x y = y ≡ x + by

abbrev pub Earlier : ℕ → ℕ → ℕ → Type 0
Earlier by x y = x ≡ y + by
