-- What it costs to see files again follows from the files and the rules, those before and those now.
use Rattle.std.specs.Prelude.{◌≡◌, ℕ, List}
use Rattle.rule_form.specs.declared.rule.Rule.{Rule}
use Rattle.file_results.specs.Quieted.{Grammars}
use Rattle.file_results.specs.Shown.{File}
use Rattle.seen_files.specs.declared.seen.SeenFiles.{SeenFiles}
use Rattle.seen_files.specs.Needs.{IsNeeded}
use Rattle.seen_files.specs.Seen.{HasSeen}
use Rattle.seen_files.specs.Spends.{Spends}

-- some files were seen by some rules, then these by these, and this took the steps from the one count to the other
pub record SeesAgain (grammars : Grammars) (rules_before : List Rule) (files_before : List File) (rules : List Rule) (files : List File) (before after : ℕ) : Type 0 where
  pub old : SeenFiles
  pub new : SeenFiles
  pub was : HasSeen grammars rules_before files_before old
  pub seen : HasSeen grammars rules files new
  pub spends : Spends files_before files (IsNeeded rules_before old.files) (IsNeeded rules new.files) before after

-- it can't take other steps
abbrev pub IsOneCost : Grammars → Type 0
IsOneCost grammars =
    (rules_before rules : List Rule) (files_before files : List File) (before after other : ℕ)
    → SeesAgain grammars rules_before files_before rules files before after → SeesAgain grammars rules_before files_before rules files before other → other ≡ after
