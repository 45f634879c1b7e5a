-- Which pairs of a piece and a pattern rules need in files that were seen.
use Rattle.std.specs.Prelude.{◌≡◌, ℕ, List}
use Rattle.node_tree.specs.declared.view.FileView.{FileView}
use Rattle.node_tree.specs.declared.view.Pattern.{Pattern}
use Rattle.node_match.specs.Sets.{Among}
use Rattle.rule_form.specs.declared.rule.Rule.{Rule}
use Rattle.file_open.specs.declared.opened.Opened.{Opened}
use Rattle.file_open.specs.declared.opened.Opened.TheVariants.{NoTree, Read}
use Rattle.file_parts.specs.Parts.{SeenPart, ArePartsOf}
use Rattle.kept_leaves.specs.Pairs.{Pair, IsOneOf}
use Rattle.kept_leaves.specs.Ready.{pairs_of}
use Rattle.file_results.specs.Asking.{IsAskedFor}
use Rattle.seen_files.specs.declared.seen.SeenFile.{SeenFile}

-- it was opened as this file, which can be looked at
abbrev pub HasView : Opened → FileView → Type 0
HasView (Read view) file = view ≡ file
HasView (NoTree view) file = view ≡ file
HasView _ file = ⊥

-- the pair of a part of the file at a path and a pattern that one of the rules asks for there
pub record IsNeededIn (rules : List Rule) (path : List ℕ) (view : FileView) (x : Pair) : Type 0 where
  pub parts : List SeenPart
  pub are : ArePartsOf view parts
  pub pattern : Pattern
  pub asked : IsAskedFor path view.lang rules pattern
  pub one : IsOneOf (pairs_of path pattern parts) x

-- the same of a file that was seen, if it can be looked at
abbrev pub IsNeededAt : List Rule → SeenFile → Pair → Type 0
IsNeededAt rules s x = (view : FileView) × HasView s.opened view × IsNeededIn rules s.path view x

-- the same of one of these files
abbrev pub IsNeeded : List Rule → List SeenFile → Pair → Type 0
IsNeeded rules files x = (s : SeenFile) × Among files s × IsNeededAt rules s x
