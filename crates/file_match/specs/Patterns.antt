-- Patterns that are ready for the search.
use Rattle.std.specs.Prelude.{ℕ, List, true, false}
use Rattle.node_tree.specs.declared.view.Pattern.{Pattern}
use Rattle.file_match.specs.Words.{ArePlaces}

-- the places of the words that the pattern needs where names hold nothing, and where they may hold literals
pub record IsReadyPattern (p : Pattern) (fixed held : List ℕ) : Type 0 where
  pub fixed_are : ArePlaces true p.shape p.tree fixed
  pub held_are : ArePlaces false p.shape p.tree held
