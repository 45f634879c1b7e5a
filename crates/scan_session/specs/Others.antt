-- What files, and entries that are no rules, leave alone where some texts are refused.
use Rattle.std.specs.Prelude.{◌≡◌, ◌↔◌, ℕ, List, ◌∷◌, ◌++◌}
use Rattle.node_match.specs.Sets.{Among}
use Rattle.rule_entries.specs.declared.outcome.RuleFault.{RuleFault}
use Rattle.rule_entries.specs.declared.outcome.RuleOutcome.{RuleOutcome}
use Rattle.rule_entries.specs.declared.outcome.RuleOutcome.TheVariants.{Bad}
use Rattle.report_form.specs.declared.report.Report.{Report}
use Rattle.report_form.specs.declared.report.Reported.{Reported}
use Rattle.rule_files.specs.declared.rule_file.RuleContent.TheVariants.{Rules}
use Rattle.rule_files.specs.declared.rule_file.RuleFile.{RuleFile}
use Rattle.file_results.specs.Quieted.{Grammars}
use Rattle.scan_session.specs.Fresh.{IsFresh}
use Rattle.file_results.specs.Shown.{File}

-- Whatever a file holds, the findings in the others are those of a scan without it.
abbrev pub KeepsOtherFiles : Grammars → List (List ℕ) → List File → List RuleFile → Report → Type 0
KeepsOtherFiles grammars refused files rule_files report =
    (before after : List File) (file : File) (less : Report) → files ≡ before ++ file ∷ after → IsFresh grammars refused (before ++ after) rule_files less → (r : Reported) → (r.path ≡ file.0 → ⊥)
    → Among report.results r ↔ Among less.results r

-- a rule file with these entries
abbrev pub file_of : List ℕ → List RuleOutcome → RuleFile
file_of name outcomes = record { name = name; content = Rules outcomes }

-- Where an entry is no rule, the findings are those of a scan without it.
abbrev pub KeepsOtherRules : Grammars → List (List ℕ) → List File → List RuleFile → Report → Type 0
KeepsOtherRules grammars refused files rule_files report =
    (before after : List RuleFile) (name : List ℕ) (os ps : List RuleOutcome) (fault : RuleFault) (less : Report) → rule_files ≡ before ++ file_of name (os ++ Bad fault ∷ ps) ∷ after
    → IsFresh grammars refused files (before ++ file_of name (os ++ ps) ∷ after) less → report.results ≡ less.results
