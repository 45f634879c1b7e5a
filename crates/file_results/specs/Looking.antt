-- Where rules look, and what they find there.
use Rattle.std.specs.Prelude.{◌≡◌, ◌⊎◌, ℕ, List, [], ◌∷◌, Some, Any, Contains}
use Rattle.node_tree.specs.declared.known.Known.{Known}
use Rattle.node_tree.specs.declared.node.Node.{Node}
use Rattle.node_tree.specs.declared.view.Lang.{Lang}
use Rattle.node_tree.specs.declared.view.Lang.TheVariants.{Regex}
use Rattle.node_tree.specs.declared.view.Pattern.{Pattern}
use Rattle.path_glob.specs.Segments.{segments, without_first, without_last}
use Rattle.path_glob.specs.Glob.{FitsSegment, FitsFront}
use Rattle.rule_form.specs.declared.rule.Rule.{Rule}
use Rattle.rule_form.specs.declared.rule.Part.{Part}
use Rattle.tree_match.specs.declared.leaf.Leaf.{Leaf}
use Rattle.node_match.specs.Sets.{Among}
use Rattle.file_match.specs.Trees.{known_in}
use Rattle.file_parts.specs.Seen.{seen_leaf}
use Rattle.file_open.specs.Naming.{Knows}
use Rattle.part_judge.specs.declared.outcome.Outcome.{Outcome}
use Rattle.part_judge.specs.Findings.{PartFinds}

-- a glob without a slash matches some segment of the path; another one matches from the root on
pub record GlobMatches (glob path : List ℕ) : Type 0 where
  pub somewhere : (Contains glob 47 → ⊥) → Any (FitsSegment glob) (segments path)
  pub from_the_root : Contains glob 47 → FitsFront (segments (without_last (without_first glob))) (segments path)

abbrev pub SomeMatches : List (List ℕ) → List ℕ → Type 0
SomeMatches globs path = (glob : List ℕ) × Among globs glob × GlobMatches glob path

-- the rule's globs allow the path
pub record Allows (rule : Rule) (path : List ℕ) : Type 0 where
  pub included : (rule.include ≡ []) ⊎ SomeMatches rule.include path
  pub not_excluded : SomeMatches rule.exclude path → ⊥

-- which members patterns have in a file with a tree
abbrev pub LeafIn : Type 1
LeafIn = Node → Pattern → Leaf → Type 0

-- the same in each language
abbrev pub LeafOf : Type 1
LeafOf = Lang → LeafIn

-- the members that a pattern has in a file with the tree, seen through its imports, where these names and no others are known to
-- hold literals
abbrev pub named_leaf : List Known → LeafOf
named_leaf known lang tree p leaf = seen_leaf lang (known_in tree known) p leaf

-- the members by the names that are known in the file; where names make no difference, none need be known
abbrev pub own_leaf : Knows → LeafOf
own_leaf knows lang tree p leaf = ((known : List Known) × knows lang tree known × named_leaf known lang tree p leaf) ⊎ ((known : List Known) → named_leaf known lang tree p leaf)

-- for each pattern its members in the file with that tree
abbrev pub AreLeaves : LeafIn → Node → List Pattern → List Leaf → Type 0
AreLeaves leaf_in tree [] leaves = leaves ≡ []
AreLeaves leaf_in tree (p ∷ ps) leaves = (leaf : Leaf) × leaf_in tree p leaf × ((rest : List Leaf) × AreLeaves leaf_in tree ps rest × (leaves ≡ leaf ∷ rest))

-- a part in a language looks at files of that language; one of the language `Regex` looks at all
abbrev pub LooksAt : Part → Lang → Type 0
LooksAt part lang = (part.lang ≡ lang) ⊎ (part.lang ≡ Regex)

-- what a part of a rule with these regular expressions finds in a text with that tree
abbrev pub PartFindsIn : LeafIn → List (List ℕ) → List ℕ → Node → Part → Outcome → Type 0
PartFindsIn leaf_in texts text tree part outcome = (leaves : List Leaf) × AreLeaves leaf_in tree part.patterns leaves × PartFinds leaves texts text tree (Some part) outcome

-- what some part of a rule finds in the file at a path, a text of that language with that tree
pub record RuleFinds (leaf_of : LeafOf) (path : List ℕ) (lang : Lang) (text : List ℕ) (tree : Node) (rule : Rule) (outcome : Outcome) : Type 0 where
  pub allows : Allows rule path
  pub part : Part
  pub has : Among rule.parts part
  pub looks : LooksAt part lang
  pub finds : PartFindsIn (leaf_of lang) rule.texts text tree part outcome
