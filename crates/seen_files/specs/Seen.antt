-- What a session has seen of its files at its last scan.
use Rattle.std.specs.Prelude.{◌≡◌, ◌↔◌, List, [], map}
use Rattle.node_tree.specs.declared.view.FileView.{FileView}
use Rattle.node_match.specs.Sets.{Among}
use Rattle.tree_match.specs.Ascending.{IsAscending}
use Rattle.rule_form.specs.declared.rule.Rule.{Rule}
use Rattle.file_open.specs.declared.opened.Opened.{Opened}
use Rattle.file_open.specs.declared.opened.Opened.TheVariants.{TooLarge, NotUtf8, NoTree, Read}
use Rattle.file_open.specs.Naming.{Knows}
use Rattle.file_open.specs.Reading.{Spells}
use Rattle.file_open.specs.Opening.{IsOpened, HasOnlyTree}
use Rattle.report_form.specs.declared.notice.Notice.{Notice}
use Rattle.kept_leaves.specs.Pairs.{Pair}
use Rattle.kept_leaves.specs.Kept.{map_of, IsKept, IsEmpty, IsNoneMet, AreRight}
use Rattle.running_rules.specs.Running.{AreApart}
use Rattle.file_results.specs.Sets.{IsExactly}
use Rattle.file_results.specs.Reports.{reported_cmp}
use Rattle.file_results.specs.Needing.{AreWanted, HasNoneOrAll}
use Rattle.file_results.specs.Quieted.{Grammars}
use Rattle.file_results.specs.Shown.{File, file_cmp, lang_at, IsResultIn, IsNoticeIn}
use Rattle.seen_files.specs.declared.seen.SeenFile.{SeenFile}
use Rattle.seen_files.specs.declared.seen.SeenFiles.{SeenFiles}
use Rattle.seen_files.specs.Needs.{HasView, IsNeeded}

-- its path and its bytes
abbrev pub file_of : SeenFile → File
file_of s = (s.path, s.bytes.value)

-- both are one file, whatever names are known in it
pub record IsSameFile (a b : FileView) : Type 0 where
  pub lang : b.lang ≡ a.lang
  pub bytes : b.bytes ≡ a.bytes
  pub tree : b.tree ≡ a.tree

-- both were opened alike, whatever names are known there
abbrev pub AreAlike : Opened → Opened → Type 0
AreAlike TooLarge TooLarge = Unit {0}
AreAlike NotUtf8 NotUtf8 = Unit {0}
AreAlike (NoTree a) (NoTree b) = IsSameFile a b
AreAlike (Read a) (Read b) = IsSameFile a b
AreAlike _ _ = ⊥

-- the file at a path, with these bytes, is opened so, whatever names are known in it
pub record IsOpenedSo (spells : Spells) (file : File) (o : Opened) : Type 0 where
  pub bare : Opened
  pub is : IsOpened spells (lang_at file.0) file.1 bare
  pub only : HasOnlyTree spells (lang_at file.0) file.1 bare
  pub alike : AreAlike bare o

-- if it can be looked at, it has just the names that are known in it where the rules may use names there, else none
abbrev pub IsNamedFor : Knows → List Rule → Opened → Type 0
IsNamedFor knows rules o = (view : FileView) → HasView o view → AreWanted knows view.lang view.tree rules view.known

-- if it can be looked at, it has none of its names, or just those that are known in it
abbrev pub HasOwnNames : Knows → Opened → Type 0
HasOwnNames knows o = (view : FileView) → HasView o view → HasNoneOrAll knows view

-- It was opened so, with the names that the rules want. Its results are those of the rules, in order, and its notices are those
-- that there are of it.
pub record IsSeen (grammars : Grammars) (rules : List Rule) (s : SeenFile) : Type 0 where
  pub opened : IsOpenedSo grammars.spells (file_of s) s.opened
  pub named : IsNamedFor grammars.knows rules s.opened
  pub results : IsExactly reported_cmp (IsResultIn grammars rules (file_of s)) s.results
  pub notices : (n : Notice) → Among s.notices n ↔ IsNoticeIn grammars rules (file_of s) n

-- These files were seen by the rules, in order of path. Leaves are kept of just the pairs that the rules need in them, and none
-- of these is met.
pub record HasSeen (grammars : Grammars) (rules : List Rule) (files : List File) (seen : SeenFiles) : Type 0 where
  pub files_are : map file_of seen.files ≡ files
  pub ordered : IsAscending file_cmp files
  pub all : (s : SeenFile) → Among seen.files s → IsSeen grammars rules s
  pub kept : (x : Pair) → IsKept (map_of seen.kept) x ↔ IsNeeded rules seen.files x
  pub unmet : IsNoneMet (map_of seen.kept)

-- no file was seen, and nothing is kept
pub record HasSeenNone (seen : SeenFiles) : Type 0 where
  pub files_are : seen.files ≡ []
  pub kept : IsEmpty (map_of seen.kept)

-- It holds of whichever files were seen before by those rules. No two of the rules that run now have one id.
abbrev pub AfterSeen : Grammars → List Rule → List Rule → SeenFiles → (List File → Type 0) → Type 0
AfterSeen grammars before running seen P = (old : List File) → HasSeen grammars before old seen → AreApart running → P old

-- each leaf that is kept has the members of its pattern in its piece
abbrev pub HasRightLeaves : SeenFiles → Type 0
HasRightLeaves seen = AreRight (map_of seen.kept)
