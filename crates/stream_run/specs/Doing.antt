-- What each command of a session does.
use Rattle.std.specs.Prelude.{◌≡◌, ◌≤◌, ℕ, List, [], length, Option, None, Some}
use Rattle.std.specs.Option.{is_some}
use Rattle.scan_world.specs.Files.{Files}
use Rattle.file_map.specs.FileMap.{bytes_at, with_file, without_file, over_limit}
use Rattle.file_map.specs.Sync.{Syncs, SyncPasses}
use Rattle.file_map.specs.declared.limit.LimitKind.{LimitKind}
use Rattle.rule_map.specs.RuleMap.{PutRuleEnds}
use Rattle.report_form.specs.declared.report.Report.{Report}
use Rattle.fix_apply.specs.declared.fixed.FixReport.{FixReport}
use Rattle.wire_stream.specs.declared.wire.Wire.{Wire}
use Rattle.wire_stream.specs.declared.wire.Wire.TheVariants as wires
use Rattle.workspace.specs.State.{files_put}
use Rattle.workspace.specs.Reports.{Readings, IsReport, HasMoreResults}
use Rattle.workspace.specs.Fixes.{IsFixReport, FixesPass, files_fixed}
use Rattle.stream_run.specs.declared.reply.Reply.{Reply}
use Rattle.stream_run.specs.declared.reply.Reply.TheVariants as replies

-- what stays the same in a session: what reads the files and the rules, the files of the folder, as far as they are told, which
-- texts of regular expressions are refused, and how many findings a report may have
pub record Setting : Type 1 where
  pub readings : Readings
  pub told : Option Files
  pub refused : List (List ℕ)
  pub most : ℕ

abbrev pub setting_of : Readings → Option Files → List (List ℕ) → ℕ → Setting
setting_of readings told refused most = record { readings = readings; told = told; refused = refused; most = most }

-- the files and the rule files, each in order of path
pub record Shelves : Type 0 where
  pub files : Files
  pub rules : Files

-- neither files nor rules
abbrev pub empty_shelves : Shelves
empty_shelves = record { files = []; rules = [] }

-- A command does this to the files and the rules, and comes to this. The end of a session does nothing.
pub data Does (s : Setting) (old : Shelves) : Wire → Shelves → Reply → Type 0 where
  put : (path bytes : List ℕ) → over_limit (files_put old.files path bytes) ≡ None
      → Does s old (wires.Put path bytes) (record { files = files_put old.files path bytes; rules = old.rules }) replies.Done
  del : (path : List ℕ)
      → Does s old (wires.Del path) (record { files = without_file path old.files; rules = old.rules }) (replies.Removed (is_some (bytes_at path old.files)))
  rule : (name bytes : List ℕ) → PutRuleEnds s.readings.writes old.rules (name, bytes) None
      → Does s old (wires.Rule name bytes) (record { files = old.files; rules = with_file old.rules (name, bytes) }) replies.Done
  unrule : (name : List ℕ)
      → Does s old (wires.Unrule name) (record { files = old.files; rules = without_file name old.rules }) (replies.Removed (is_some (bytes_at name old.rules)))
  sync : (prefix : List ℕ) (files : Files) → Syncs s.told prefix old.files files → SyncPasses s.told prefix old.files None
      → Does s old (wires.Sync prefix) (record { files = files; rules = old.rules }) replies.Done
  scan : (report : Report) → IsReport s.readings s.refused old.files old.rules report → length report.results ≤ s.most
      → Does s old wires.Scan old (replies.Reported report)
  scan_many : HasMoreResults s.readings s.refused old.files old.rules s.most
      → Does s old wires.Scan old (replies.TooMany s.most)
  fix : (fixed : FixReport) → IsFixReport s.readings s.refused old.files old.rules fixed → length fixed.report.results ≤ s.most → over_limit (files_fixed old.files fixed.files) ≡ None
      → Does s old wires.Fix (record { files = files_fixed old.files fixed.files; rules = old.rules }) (replies.Fixed fixed)
  fix_many : HasMoreResults s.readings s.refused old.files old.rules s.most
      → Does s old wires.Fix old (replies.TooMany s.most)
  done : Does s old wires.End old replies.Done

-- A command ends the session, since this limit would be passed.
pub data Passes (s : Setting) (old : Shelves) (kind : LimitKind) (n : ℕ) : Wire → Type 0 where
  put_over : (path bytes : List ℕ) → over_limit (files_put old.files path bytes) ≡ Some (kind, n) → Passes s old kind n (wires.Put path bytes)
  rule_over : (name bytes : List ℕ) → PutRuleEnds s.readings.writes old.rules (name, bytes) (Some (kind, n)) → Passes s old kind n (wires.Rule name bytes)
  sync_over : (prefix : List ℕ) → SyncPasses s.told prefix old.files (Some (kind, n)) → Passes s old kind n (wires.Sync prefix)
  fix_over : FixesPass s.readings s.refused old.files old.rules s.most kind n → Passes s old kind n wires.Fix
