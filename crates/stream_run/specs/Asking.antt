-- Which texts of regular expressions a session asks its builder for.
use Rattle.std.specs.Prelude.{◌≡◌, ℕ, false, List, [], ◌++◌, Option}
use Rattle.scan_world.specs.Files.{Files}
use Rattle.rx_text.specs.Asking.{AsksAll}
use Rattle.decided_texts.specs.Decided.{Decisions}
use Rattle.decided_texts.specs.Asking.{wanted}
use Rattle.rule_map.specs.RuleMap.{AreRuleFiles}
use Rattle.running_rules.specs.Running.{stated, texts_of}
use Rattle.run_status.specs.declared.status.Status.{Status}
use Rattle.wire_stream.specs.declared.wire.Wire.{Wire}
use Rattle.wire_stream.specs.declared.wire.Wire.TheVariants as wires
use Rattle.workspace.specs.Reports.{Readings, SettlesRules}
use Rattle.stream_run.specs.Doing.{Setting, Shelves}
use Rattle.stream_run.specs.Playing.{Plays, begun, more, SessionEnds, ended, bad, long, over, AreFirstLines, PrintsEnd, PrintsFront}

-- A scan and a fix decide the texts of the good rules, as `SettlesRules` says. Any other command decides none and asks for none.
abbrev pub Asks : Readings → Files → Wire → Decisions → Decisions → Option (List (List ℕ)) → Option (List (List ℕ)) → Type 0
Asks readings rules wires.Scan old new before after = SettlesRules readings.writes rules old new before after
Asks readings rules wires.Fix old new before after = SettlesRules readings.writes rules old new before after
Asks readings rules _ old new before after = (new ≡ old) × (after ≡ before)

-- the good rules have these texts, in order of rule file, entry and place
abbrev pub HaveTexts : Readings → Files → List (List ℕ) → Type 0
HaveTexts readings rules texts = (contents : _) × AreRuleFiles readings.writes rules contents × (texts ≡ texts_of (stated contents))

-- the texts that a command goes by: those of the good rules for a scan and a fix, and none for any other command
abbrev pub GoesBy : Readings → Files → Wire → List (List ℕ) → Type 0
GoesBy readings rules wires.Scan texts = HaveTexts readings rules texts
GoesBy readings rules wires.Fix texts = HaveTexts readings rules texts
GoesBy readings rules _ texts = texts ≡ []

-- the builder was asked for these texts, in order and each once, where it tells that
abbrev pub AsksOnce : Option (List (List ℕ)) → Option (List (List ℕ)) → List (List ℕ) → Type 0
AsksOnce before after texts = AsksAll before after (wanted (λ text. false) texts)

module _ {s : Setting} {stream : Option (List ℕ)} where
  -- the texts that the first commands go by, one command after the other
  abbrev pub GoBy : {place : ℕ} {lines : List (List ℕ)} {shelves : Shelves} {left : Option (List ℕ)} → Plays s stream place lines shelves left → List (List ℕ) → Type 0
  GoBy begun texts = texts ≡ []
  GoBy (more place count lines old shelves left rest wire reply plays goes some within does) texts =
      (first : List (List ℕ)) × (last : List (List ℕ)) × GoBy plays first × GoesBy s.readings old.rules wire last × (texts ≡ first ++ last)

  -- the texts that a session goes by which ends so: those of the commands that it did, and of the one that would have passed a limit
  abbrev pub EndGoesBy : {status : Status} {lines : List (List ℕ)} → SessionEnds s stream status lines → List (List ℕ) → Type 0
  EndGoesBy (ended place count lines shelves left rest plays goes within) texts = GoBy plays texts
  EndGoesBy (bad place lines shelves left plays none) texts = GoBy plays texts
  EndGoesBy (long place lines shelves left plays longer) texts = GoBy plays texts
  EndGoesBy (over place count lines shelves left rest wire kind n plays goes within passes) texts =
      (first : List (List ℕ)) × (last : List (List ℕ)) × GoBy plays first × GoesBy s.readings shelves.rules wire last × (texts ≡ first ++ last)

  -- the texts that the first commands go by that have these lines
  abbrev pub FirstGoBy : {lines : List (List ℕ)} → AreFirstLines s stream lines → List (List ℕ) → Type 0
  FirstGoBy first texts = GoBy first.3 texts

-- the session ended so, and the builder was asked once for each text that it went by
pub record EndsAsking (s : Setting) (stream written written_after : Option (List ℕ)) (status : Status) (before after : Option (List (List ℕ))) : Type 0 where
  pub prints : PrintsEnd s stream written written_after status
  pub texts : List (List ℕ)
  pub goes_by : EndGoesBy prints.ends texts
  pub asked : AsksOnce before after texts

-- what was written is a front of the lines of the first commands, and the builder was asked once for each text that these went by
pub record FrontAsking (s : Setting) (stream written written_after : Option (List ℕ)) (before after : Option (List (List ℕ))) : Type 0 where
  pub prints : PrintsFront s stream written written_after
  pub texts : List (List ℕ)
  pub go_by : FirstGoBy prints.first texts
  pub asked : AsksOnce before after texts
