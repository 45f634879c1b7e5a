-- What a scan of files by rule files reports, where texts have the trees and the comments that a reader gives.
use Rattle.std.specs.Prelude.{◌≡◌, ◌⊎◌, ℕ, List, [], ◌∷◌}
use Rattle.rule_form.specs.declared.rule.Rule.{Rule}
use Rattle.node_match.specs.Sets.{Among}
use Rattle.report_form.specs.declared.notice.Notice.{Notice}
use Rattle.report_form.specs.declared.report.Reported.{Reported}
use Rattle.report_form.specs.declared.report.Report.{Report}
use Rattle.rule_files.specs.declared.rule_file.RuleFile.{RuleFile}
use Rattle.file_results.specs.Sets.{IsExactly}
use Rattle.running_rules.specs.Notes.{notice, notice_cmp}
use Rattle.running_rules.specs.Running.{running, rule_notices}
use Rattle.file_results.specs.Quieted.{Grammars}
use Rattle.file_results.specs.Reports.{reported_cmp}
use Rattle.file_results.specs.Shown.{File, IsResultIn, IsNoticeIn}

-- one in one of the files
abbrev pub IsResult : Grammars → List Rule → List File → Reported → Type 0
IsResult grammars rules files r = (file : File) × Among files file × IsResultIn grammars rules file r

-- a notice of one of the files
abbrev pub IsFileNotice : Grammars → List Rule → List File → Notice → Type 0
IsFileNotice grammars rules files n = (file : File) × Among files file × IsNoticeIn grammars rules file n

-- The findings of the rules that run where these texts are refused, without those that comments quiet, and the notices of rule
-- files and files, each in order and each once.
pub record IsFresh (grammars : Grammars) (refused : List (List ℕ)) (files : List File) (rule_files : List RuleFile) (report : Report) : Type 0 where
  pub results : IsExactly reported_cmp (IsResult grammars (running refused rule_files) files) report.results
  pub notices : IsExactly notice_cmp (λ n. Among (rule_notices refused rule_files) n ⊎ IsFileNotice grammars (running refused rule_files) files n) report.notices
