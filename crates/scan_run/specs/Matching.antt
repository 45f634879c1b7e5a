-- What `match` does: how it ends, and the lines that it prints.
use Rattle.std.specs.Prelude.{◌⊎◌, ℕ, ◌≤◌, List, [], length, map, Option}
use Rattle.node_tree.specs.declared.known.Known.{Known}
use Rattle.node_tree.specs.declared.node.Node.{Node}
use Rattle.node_tree.specs.declared.view.Pattern.{Pattern}
use Rattle.node_tree.specs.declared.view.Lang.{Lang}
use Rattle.pattern_read.specs.Patterns.{IsPatternOf}
use Rattle.tree_match.specs.declared.leaf.Leaf.{Leaf}
use Rattle.tree_match.specs.declared.leaf.Leaf.TheVariants.{Full, Crowded}
use Rattle.tree_match.specs.Leaf.{IsLeaf}
use Rattle.tree_match.specs.Members.{Member, IsMember}
use Rattle.file_match.specs.Trees.{known_in}
use Rattle.file_open.specs.Naming.{AreJustKnown}
use Rattle.languages.specs.Trees.{AreKnown}
use Rattle.run_status.specs.declared.status.Status.{Status}
use Rattle.run_status.specs.declared.status.Status.TheVariants.{OverLimit, TooMany, Done, BadTarget, BadPattern}
use Rattle.file_map.specs.declared.limit.LimitKind.TheVariants.{Target}
use Rattle.scan_run.specs.Reading.{IsFileOf, HasNoFile}
use Rattle.scan_run.specs.Lines.{line_of}
use Rattle.scan_run.specs.Streams.{Tells}

-- the text writes no pattern of the language
abbrev pub HasNoPattern : Lang → List ℕ → Type 0
HasNoPattern lang text = (pattern : Pattern) → IsPatternOf lang text pattern → ⊥

-- which members a pattern may be said to have
abbrev pub Having : Type 1
Having = Leaf → Type 0

-- the members that a pattern has in the tree itself, where these names and no others are known to hold literals
abbrev pub by_names : List Known → Node → Pattern → Having
by_names known tree pattern leaf = IsLeaf (IsMember pattern (known_in tree known)) leaf

-- the members of the pattern in a file of the language with that tree, by the names that are known in it; where names make no
-- difference, none need be known
abbrev pub has_members : Lang → Node → Pattern → Having
has_members lang tree pattern leaf = ((known : List Known) × AreKnown lang tree known × by_names known tree pattern leaf) ⊎ ((known : List Known) → by_names known tree pattern leaf)

-- by these names a pattern has the members that it has by those that are known in the file: they are just those, or names make
-- no difference to it
abbrev pub ServesPattern : Lang → Node → List Known → Pattern → Type 0
ServesPattern lang tree known pattern = AreJustKnown AreKnown lang tree known ⊎ ((some other : List Known) (leaf : Leaf) → by_names some tree pattern leaf → by_names other tree pattern leaf)

-- how a search ends: by the members, or by their number
pub data SearchEnds (Has : Having) : Status → List (List ℕ) → Type 0 where
  too_many : Has Crowded → SearchEnds Has (TooMany 10000) []
  done : (members : List Member) → Has (Full members) → SearchEnds Has Done (map line_of members)

-- How a match ends, by the text of its pattern and its whole input. The first cause decides.
pub data MatchEnds (lang : Lang) (text input : List ℕ) : Status → List (List ℕ) → Type 0 where
  bad_pattern : HasNoPattern lang text → MatchEnds lang text input BadPattern []
  over_limit : (pattern : Pattern) → IsPatternOf lang text pattern → 1000001 ≤ length input → MatchEnds lang text input (OverLimit Target 1000001) []
  bad_target : (pattern : Pattern) → IsPatternOf lang text pattern → length input ≤ 1000000 → HasNoFile lang input → MatchEnds lang text input BadTarget []
  searched : (pattern : Pattern) (tree : Node) (status : Status) (lines : List (List ℕ)) → IsPatternOf lang text pattern → IsFileOf lang input tree → SearchEnds (has_members lang tree pattern) status lines → MatchEnds lang text input status lines

-- the same on an input that the source tells of
abbrev pub Matches : Lang → List ℕ → Option (List ℕ) → Status → List (List ℕ) → Type 0
Matches lang text left status lines = (input : List ℕ) × Tells left input × MatchEnds lang text input status lines
