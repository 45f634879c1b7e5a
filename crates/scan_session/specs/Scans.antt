-- Scans of files that come one after the other.
use Rattle.std.specs.Prelude.{◌≡◌, ◌⊎◌, ℕ, ◌<◌, ◌≤◌, List, ◌++◌, length}
use Rattle.node_match.specs.Sets.{Adds}
use Rattle.tree_match.specs.Ascending.{IsAscending}
use Rattle.rule_form.specs.declared.rule.Rule.{Rule}
use Rattle.report_form.specs.declared.notice.Notice.{Notice}
use Rattle.report_form.specs.declared.report.Reported.{Reported}
use Rattle.rule_files.specs.declared.rule_file.RuleFile.{RuleFile}
use Rattle.scan_session.specs.declared.scanner.Scanner.{Scanner}
use Rattle.file_results.specs.Sets.{IsExactly, HasMore}
use Rattle.file_results.specs.Reports.{reported_cmp}
use Rattle.running_rules.specs.Running.{running, rule_notices}
use Rattle.file_results.specs.Quieted.{Grammars}
use Rattle.scan_session.specs.Fresh.{IsResult, IsFileNotice}
use Rattle.file_results.specs.Shown.{File, file_cmp}

-- the findings of the rules in the files, which are not too many, and the notices of the files after those before
pub record AreAll (grammars : Grammars) (rules : List Rule) (before : List Notice) (most : ℕ) (files : List File) (results : List Reported) (notices : List Notice) : Type 0 where
  pub few : length results ≤ most
  pub findings : IsExactly reported_cmp (IsResult grammars rules files) results
  pub noted : Adds before notices (IsFileNotice grammars rules files)

-- too many findings, as the rules have more than that in the files
pub record AreTooMany (grammars : Grammars) (rules : List Rule) (most : ℕ) (files : List File) (results : List Reported) : Type 0 where
  pub many : most < length results
  pub more : HasMore reported_cmp (IsResult grammars rules files) most

-- The scan by the rules of these rule files, where these texts are refused, has looked at these files: it holds all that is to be
-- said of them, or too many findings.
pub record HasScanned {R : Type 0} (grammars : Grammars) (refused : List (List ℕ)) (rule_files : List RuleFile) (most : ℕ) (files : List File) (scanner : Scanner R) : Type 0 where
  pub limit : scanner.most ≡ most
  pub rules : scanner.running.items ≡ running refused rule_files
  pub found : AreAll grammars (running refused rule_files) (rule_notices refused rule_files) most files scanner.results scanner.notices.items ⊎ AreTooMany grammars (running refused rule_files) most files scanner.results

-- the files were scanned after all before, which stand below them in order of path
abbrev pub Scans : {R : Type 0} → Grammars → List File → Scanner R → Scanner R → Type 0
Scans grammars more old new =
    (refused : List (List ℕ)) (rule_files : List RuleFile) (most : ℕ) (files : List File) → IsAscending file_cmp (files ++ more) → HasScanned grammars refused rule_files most files old
    → HasScanned grammars refused rule_files most (files ++ more) new

-- it holds of what the scan has looked at
abbrev pub AfterScan : {R : Type 0} → Grammars → Scanner R → (Grammars → List (List ℕ) → List RuleFile → ℕ → List File → Type 0) → Type 0
AfterScan grammars scanner P = (refused : List (List ℕ)) (rule_files : List RuleFile) (most : ℕ) (files : List File) → HasScanned grammars refused rule_files most files scanner → P grammars refused rule_files most files
