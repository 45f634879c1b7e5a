-- What it costs to see files where none was seen before.
use Rattle.std.specs.Prelude.{◌≡◌, ℕ, List, [], ◌∷◌, map}
use Rattle.node_match.specs.Sets.{Among}
use Rattle.rule_form.specs.declared.rule.Rule.{Rule}
use Rattle.kept_leaves.specs.Pairs.{Pair}
use Rattle.file_results.specs.Quieted.{Grammars}
use Rattle.file_results.specs.Shown.{File}
use Rattle.seen_files.specs.declared.seen.SeenFile.{SeenFile}
use Rattle.seen_files.specs.Needs.{IsNeededAt, IsNeeded}
use Rattle.seen_files.specs.Seen.{file_of, IsSeen}
use Rattle.seen_files.specs.Spends.{Spends}

-- there were no files, and no pair was needed
abbrev pub SpendsAll : List File → (Pair → Type 0) → ℕ → ℕ → Type 0
SpendsAll files Now before after = Spends [] files (λ x. ⊥) Now before after

-- one file took a step, and one for each pair that the rules need in it
abbrev pub SpendsOn : List Rule → SeenFile → ℕ → ℕ → Type 0
SpendsOn rules s before after = SpendsAll (file_of s ∷ []) (IsNeededAt rules s) before after

-- These files were seen by the rules. That took a step for each, and one for each pair that the rules need in them.
pub record SeesFresh (grammars : Grammars) (rules : List Rule) (files : List File) (before after : ℕ) : Type 0 where
  pub seen : List SeenFile
  pub files_are : map file_of seen ≡ files
  pub all : (s : SeenFile) → Among seen s → IsSeen grammars rules s
  pub spends : SpendsAll files (IsNeeded rules seen) before after

-- it can't take other steps
abbrev pub IsOneFreshCost : Grammars → Type 0
IsOneFreshCost grammars =
    (rules : List Rule) (files : List File) (before after other : ℕ)
    → SeesFresh grammars rules files before after → SeesFresh grammars rules files before other → other ≡ after
