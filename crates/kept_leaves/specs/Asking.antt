-- What questions to a file make of what is kept.
use Rattle.std.specs.Prelude.{◌≡◌, ℕ, List}
use Rattle.node_tree.specs.declared.view.FileView.{FileView}
use Rattle.node_tree.specs.declared.view.Pattern.{Pattern}
use Rattle.file_parts.specs.Parts.{SeenPart}
use Rattle.file_search.specs.Asked.{Asks}
use Rattle.kept_leaves.specs.declared.leaf.OpenLeaves.{OpenLeaves}
use Rattle.kept_leaves.specs.Growth.{Meets}
use Rattle.kept_leaves.specs.Kept.{Map}
use Rattle.kept_leaves.specs.Opened.{open_map}
use Rattle.kept_leaves.specs.Pairs.{Pair, IsOneOf}
use Rattle.kept_leaves.specs.Ready.{pairs_of}

-- a search: what is kept, with the rows of the file's pieces in hand, and the file with its parts
pub record Search : Type 0 where
  pub leaves : OpenLeaves
  pub view : FileView
  pub parts : List SeenPart

-- the path of the file, and what is kept
abbrev pub path_of : Search → List ℕ
path_of search = search.leaves.store.path

abbrev pub kept_by : Search → Map
kept_by search = open_map search.leaves

-- the pairs of the file that a pattern needs
abbrev pub needed_pairs : Search → Pattern → List Pair
needed_pairs search pattern = pairs_of (path_of search) pattern search.parts

-- the path, the file and its parts stay
pub record StaysIn (old new : Search) : Type 0 where
  pub path : path_of new ≡ path_of old
  pub view : new.view ≡ old.view
  pub parts : new.parts ≡ old.parts

-- a question for a pattern leaves the file, and meets the pairs that the pattern needs there
abbrev pub AsksKept : Asks Search
AsksKept pattern old before new after = StaysIn old new × Meets (IsOneOf (needed_pairs old pattern)) (kept_by old) before (kept_by new) after

-- some pattern of the set needs the pair in the file
abbrev pub IsNeededBy : Search → (Pattern → Type 0) → Pair → Type 0
IsNeededBy search Set x = (p : Pattern) × Set p × IsOneOf (needed_pairs search p) x
