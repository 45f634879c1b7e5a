-- What a scan of a workspace reports.
use Rattle.std.specs.Prelude.{◌≡◌, ℕ, Bool, List, Option, ◌++◌, true, false}
use Rattle.scan_world.specs.Files.{Files}
use Rattle.rule_entries.specs.Finds.{Writes}
use Rattle.rule_files.specs.declared.rule_file.RuleFile.{RuleFile}
use Rattle.rule_map.specs.RuleMap.{AreRuleFiles}
use Rattle.node_match.specs.Sets.{Among}
use Rattle.report_form.specs.declared.report.Report.{Report}
use Rattle.decided_texts.specs.Decided.{Decisions, is_decided}
use Rattle.decided_texts.specs.Asking.{Settles}
use Rattle.scan_session.specs.Sets.{HasMore}
use Rattle.scan_session.specs.Reports.{reported_cmp}
use Rattle.running_rules.specs.Running.{running, texts_of, stated}
use Rattle.file_open.specs.Reading.{Spells}
use Rattle.file_open.specs.Naming.{Knows}
use Rattle.scan_session.specs.Quieted.{Comments, Grammars, grammars_of}
use Rattle.scan_session.specs.Fresh.{IsResult, IsFresh}

-- which trees, comments and members files have, whether findings have traces, and which patterns texts of rules write
pub record Readings : Type 1 where
  pub grammars : Grammars
  pub writes : Writes

-- the report of a fresh scan of these files by these rule files, where these texts are refused
pub record IsReport (readings : Readings) (refused : List (List ℕ)) (files rules : Files) (report : Report) : Type 0 where
  pub contents : List RuleFile
  pub are : AreRuleFiles readings.writes rules contents
  pub fresh : IsFresh readings.grammars refused files contents report

-- a fresh scan has more findings than that
pub record HasMoreResults (readings : Readings) (refused : List (List ℕ)) (files rules : Files) (most : ℕ) : Type 0 where
  pub contents : List RuleFile
  pub are : AreRuleFiles readings.writes rules contents
  pub more : HasMore reported_cmp (IsResult readings.grammars (running refused contents) files) most

-- there is one way to read the rule files
abbrev pub AreReadOnce : Writes → Files → Type 0
AreReadOnce writes rules = (c d : List RuleFile) → AreRuleFiles writes rules c → AreRuleFiles writes rules d → d ≡ c

-- a text of a regular expression of one of the good rules
abbrev pub IsRuleText : Writes → Files → List ℕ → Type 0
IsRuleText writes rules text = (contents : List RuleFile) → AreRuleFiles writes rules contents → Among (texts_of (stated contents)) text

-- each of these texts is one of the good rules', and was not decided
abbrev pub AreAsked : Writes → Files → Decisions → List (List ℕ) → Type 0
AreAsked writes rules before texts = (text : List ℕ) → Among texts text → IsRuleText writes rules text × (is_decided before text ≡ false)

-- the texts of all good rules are decided
abbrev pub AreAllDecided : Writes → Files → Decisions → Type 0
AreAllDecided writes rules decided =
    (contents : List RuleFile) (text : List ℕ) → AreRuleFiles writes rules contents → Among (texts_of (stated contents)) text → is_decided decided text ≡ true

-- what was decided stays so
abbrev pub StayDecided : Decisions → Decisions → Type 0
StayDecided old new = (text : List ℕ) → is_decided old text ≡ true → is_decided new text ≡ true

-- The builder was asked for the texts of the good rules that weren't decided, in order and each once, where it tells that, and
-- just these texts were decided then.
pub record SettlesRules (writes : Writes) (rules : Files) (old new : Decisions) (before after : Option (List (List ℕ))) : Type 0 where
  pub contents : List RuleFile
  pub are : AreRuleFiles writes rules contents
  pub settles : Settles (texts_of (stated contents)) old new before after

-- the list of refused texts is longer by some of these
pub record GainsSome (old new : Decisions) (texts : List (List ℕ)) : Type 0 where
  pub more : List (List ℕ)
  pub is : new.refused ≡ old.refused ++ more
  pub among : (text : List ℕ) → Among more text → Among texts text

-- those of what reads trees, known names, comments and patterns so, with traces or without
abbrev pub readings_of : Spells → Knows → Comments → Writes → Bool → Readings
readings_of spells knows comments writes traced = record { grammars = grammars_of spells knows comments traced; writes = writes }
