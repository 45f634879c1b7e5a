-- What is found among entries.
use Rattle.std.specs.Prelude.{◌≡◌, ℕ, List, All, Option, None, Some, Contains}
use Rattle.node_tree.specs.Span.{LiesIn}
use Rattle.meta_bind.specs.declared.bound.Bound.{Bound}
use Rattle.tree_match.specs.declared.leaf.Leaf.{Leaf}
use Rattle.tree_match.specs.declared.leaf.Leaf.TheVariants.{Full, Crowded}
use Rattle.tree_match.specs.Members.{Member}
use Rattle.store_file.specs.declared.digest.Digest.{Digest}
use Rattle.store_file.specs.declared.entry.Entry.{Entry}

-- the range and each bound span lie in the text, and cut no character of it
abbrev pub MemberLiesIn : List ℕ → Member → Type 0
MemberLiesIn text m = LiesIn text m.0 × All (λ (b : Bound). LiesIn text b.span) m.1

abbrev pub LeafLiesIn : List ℕ → Leaf → Type 0
LeafLiesIn text (Full members) = All (MemberLiesIn text) members
LeafLiesIn text Crowded = Unit {0}

-- the entry has these digests
abbrev pub IsWith : Digest → Digest → Entry → Type 0
IsWith piece pattern e = (e.piece ≡ piece) × (e.pattern ≡ pattern)

-- no entry has these digests
abbrev pub IsAbsent : Digest → Digest → List Entry → Type 0
IsAbsent piece pattern entries = (e : Entry) → Contains entries e → IsWith piece pattern e → ⊥

-- the leaf of an entry with these digests that lies in the text; nothing where no entry with these digests has such a leaf
abbrev pub IsFound : List ℕ → Digest → Digest → List Entry → Option Leaf → Type 0
IsFound text piece pattern entries None = (e : Entry) → Contains entries e → IsWith piece pattern e → LeafLiesIn text e.leaf → ⊥
IsFound text piece pattern entries (Some leaf) = (e : Entry) × Contains entries e × IsWith piece pattern e × (e.leaf ≡ leaf) × LeafLiesIn text leaf
