-- What a scan of a workspace costs in steps.
use Rattle.std.specs.Prelude.{ℕ, List}
use Rattle.scan_world.specs.Files.{Files}
use Rattle.rule_form.specs.declared.rule.Rule.{Rule}
use Rattle.rule_files.specs.declared.rule_file.RuleFile.{RuleFile}
use Rattle.rule_map.specs.RuleMap.{AreRuleFiles}
use Rattle.running_rules.specs.Running.{running}
use Rattle.seen_files.specs.declared.seen.SeenFiles.{SeenFiles}
use Rattle.seen_files.specs.Needs.{IsNeeded}
use Rattle.seen_files.specs.Seen.{HasSeen}
use Rattle.seen_files.specs.Spends.{Spends}
use Rattle.seen_files.specs.Fresh.{SeesFresh}
use Rattle.workspace.specs.Reports.{Readings}

-- The files were seen by the rules that run. That took one step for each file whose bytes were not seen there at the scan before,
-- and one for each pair of a piece and a pattern that is needed now and wasn't then.
pub record Works (readings : Readings) (refused : List (List ℕ)) (files rules : Files) (old new : SeenFiles) (before after : ℕ) : Type 0 where
  pub contents : List RuleFile
  pub are : AreRuleFiles readings.writes rules contents
  pub seen : HasSeen readings.grammars (running refused contents) files new
  pub rules_before : List Rule
  pub files_before : Files
  pub was : HasSeen readings.grammars rules_before files_before old
  pub spends : Spends files_before files (IsNeeded rules_before old.files) (IsNeeded (running refused contents) new.files) before after

-- The files were seen by the rules that run, where none was seen before. That took one step for each file, and one for each pair of
-- a piece and a pattern that is needed.
pub record WorksOnce (readings : Readings) (refused : List (List ℕ)) (files rules : Files) (before after : ℕ) : Type 0 where
  pub contents : List RuleFile
  pub are : AreRuleFiles readings.writes rules contents
  pub sees : SeesFresh readings.grammars (running refused contents) files before after
