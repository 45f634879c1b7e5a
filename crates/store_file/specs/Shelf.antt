-- Leaves by the digests of their piece and pattern.
use Rattle.std.specs.Prelude.{ℕ, List}
use Rattle.std.specs.Borrow.{Bor}
use Rattle.tree_match.specs.declared.leaf.Leaf.{Leaf}
use Rattle.store_file.specs.declared.entry.Entry.{Entry}

-- a leaf with its digests as an entry
abbrev pub entry_in : (List ℕ × List ℕ) × Bor Leaf → Entry
entry_in p = record { piece = record { bytes = p.0.0 }; pattern = record { bytes = p.0.1 }; leaf = p.1.now }
