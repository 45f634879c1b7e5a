-- What a session knows of its rules and of what the last scan saw.
use Rattle.std.specs.Prelude.{Bool, List, refl}
use Rattle.std.specs.Coded.{Coded, code_by, coded×, coded_bool}
use Rattle.scan_world.specs.Files.{Files}
use Rattle.rule_form.specs.declared.rule.Rule.{Rule}
use Rattle.rule_map.specs.RuleMap.{RuleTexts, rule_texts_code}
use Rattle.decided_texts.specs.Decided.{Decisions}
use Rattle.scan_session.specs.Quieted.{Grammars}
use Rattle.seen_files.specs.declared.seen.SeenFiles.{SeenFiles}
use Rattle.seen_files.specs.Seen.{HasSeen}

-- the reader and the rule files, whether findings have their traces, which texts of regular expressions were decided, and what the
-- last scan saw
pub record Scanned (R : Type 0) : Type 0 where
  pub rules : RuleTexts R
  pub traced : Bool
  pub decided : Decisions
  pub seen : SeenFiles

-- some files were seen by those rules
pub record IsUpToDate (grammars : Grammars) (rules : List Rule) (seen : SeenFiles) : Type 0 where
  pub files_before : Files
  pub has_seen : HasSeen grammars rules files_before seen

abbrev pub scanned_code : {R : Type 0} → Coded R → Coded Decisions → Coded SeenFiles → Coded (Scanned R)
scanned_code {R} reader decided seen =
    code_by (RuleTexts R × (Bool × (Decisions × SeenFiles))) (coded× (rule_texts_code reader) (coded× coded_bool (coded× decided seen))) (λ s. (s.rules, (s.traced, (s.decided, s.seen)))) (λ p. record { rules = p.0; traced = p.1.0; decided = p.1.1.0; seen = p.1.1.1 }) (λ _. refl)
