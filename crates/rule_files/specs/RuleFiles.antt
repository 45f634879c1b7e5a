-- What the bytes of a rule file say, where texts write the patterns that a reader gives.
use Rattle.std.specs.Prelude.{◌≡◌, ℕ, List, [], None, Err}
use Rattle.yaml_lines.specs.declared.fault.Feature.{Feature}
use Rattle.yaml_lines.specs.declared.fault.YFault.TheVariants as faults
use Rattle.yaml_lines.specs.Lines.{lines_of}
use Rattle.yaml_cells.specs.declared.value.YValue.{YValue}
use Rattle.yaml_read.specs.Value.{IsValueOf}
use Rattle.rule_entries.specs.declared.outcome.RuleOutcome.{RuleOutcome}
use Rattle.rule_entries.specs.Finds.{Writes}
use Rattle.rule_entries.specs.Rules.{IsRulesOf, entries_in}
use Rattle.rule_files.specs.declared.rule_file.RuleContent.{RuleContent}
use Rattle.rule_files.specs.declared.rule_file.RuleContent.TheVariants.{Rules, NotUtf8, OutsideProfile, NoValue, NoRules}
use Rattle.rule_files.specs.declared.rule_file.RuleFile.{RuleFile}

-- the bytes are a text without a feature outside the profile, and it has no value
pub record HasNoValue (bytes : List ℕ) : Type 0 where
  pub utf8 : lines_of bytes ≡ Err faults.NotUtf8 → ⊥
  pub inside : (feature : Feature) (line : ℕ) → lines_of bytes ≡ Err (faults.OutsideProfile feature line) → ⊥
  pub none : (value : YValue) → IsValueOf bytes value → ⊥

-- what a rule file with that value says
abbrev pub IsContentOf : Writes → YValue → RuleContent → Type 0
IsContentOf writes value (Rules outcomes) = IsRulesOf writes value outcomes
IsContentOf writes value NoRules = entries_in value ≡ None
IsContentOf writes value _ = ⊥

-- The outcomes of the entries, where the text has a value with a list of rules; or else why there are none.
abbrev pub IsContent : Writes → List ℕ → RuleContent → Type 0
IsContent writes bytes (Rules outcomes) = (value : YValue) × IsValueOf bytes value × IsRulesOf writes value outcomes
IsContent writes bytes NotUtf8 = lines_of bytes ≡ Err faults.NotUtf8
IsContent writes bytes (OutsideProfile feature line) = lines_of bytes ≡ Err (faults.OutsideProfile feature line)
IsContent writes bytes NoValue = HasNoValue bytes
IsContent writes bytes NoRules = (value : YValue) × IsValueOf bytes value × (entries_in value ≡ None)

-- the rule file of that name with these bytes
pub record IsRuleFile (writes : Writes) (name bytes : List ℕ) (file : RuleFile) : Type 0 where
  pub name_is : file.name ≡ name
  pub content_is : IsContent writes bytes file.content

-- the outcomes of the entries, none where there are no rules
abbrev pub outcomes_of : RuleContent → List RuleOutcome
outcomes_of (Rules outcomes) = outcomes
outcomes_of _ = []
