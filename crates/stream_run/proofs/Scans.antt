-- What scans and fixes do, whatever is refused later.
use Rattle.std.proofs.Common.{◌≡◌, ◌≤◌, ℕ, ◌++◌, length, sym, ap, ◌∙◌, subst}
use Rattle.std.specs.Prelude.{Option, None}
use Rattle.scan_world.specs.Files.{Files}
use Rattle.file_map.specs.FileMap.{over_limit}
use Rattle.file_map.specs.declared.limit.LimitKind.{LimitKind}
use Rattle.report_form.specs.declared.report.Report.{Report}
use Rattle.fix_apply.specs.declared.fixed.FixReport.{FixReport}
use Rattle.decided_texts.specs.Refused.{gained, Gains}
use Rattle.wire_stream.specs.declared.wire.Wire.TheVariants as wires
use Rattle.workspace.specs.State.{State, with_files, with_decided}
use Rattle.workspace.specs.Reports.{Readings, IsReport, HasMoreResults, AreAsked, AreAllDecided, StayDecided}
use Rattle.workspace.specs.Fixes.{IsFixReport, FixesPass, files_fixed}
use Rattle.workspace.proofs.Later.{report_still, more_still, fix_still}
use Rattle.stream_run.specs.declared.reply.Reply.TheVariants as replies
use Rattle.stream_run.specs.Doing.{Shelves, Does, scan, scan_many, fix, fix_many, fix_over}
use Rattle.stream_run.specs.Still.{setting, shelves_of, DoesStill, PassesNow, Keeps}
use Rattle.stream_run.proofs.Gained.{Texts}

module _ (readings : Readings) (old new : State) where
  module _ (same : new ≡ with_decided old new.decided) (all : AreAllDecided readings.writes old.rules new.decided) (told : Option Files) where
    pub scan_does : (report : Report) → IsReport readings new.decided.refused old.files old.rules report → length report.results ≤ old.most → DoesStill readings told old wires.Scan new (replies.Reported report)
    scan_does report is few more later =
        subst (λ (shelves : Shelves). Does (setting readings told old.most (new.decided.refused ++ more)) (shelves_of old) wires.Scan shelves (replies.Reported report)) (sym (ap shelves_of same))
        (scan report (report_still readings old.files old.rules new.decided more all later report is) few)

    pub scan_many_does : (n : ℕ) → n ≡ old.most → HasMoreResults readings new.decided.refused old.files old.rules n → DoesStill readings told old wires.Scan new (replies.TooMany n)
    scan_many_does n e has more later =
        let Q : ℕ → Type 0 = λ m. HasMoreResults readings new.decided.refused old.files old.rules m in
        let P : Shelves → ℕ → Type 0 = λ shelves m. Does (setting readings told old.most (new.decided.refused ++ more)) (shelves_of old) wires.Scan shelves (replies.TooMany m) in
        subst (λ (shelves : Shelves). P shelves n) (sym (ap shelves_of same)) (subst (P (shelves_of old)) (sym e) (scan_many (more_still readings old.files old.rules new.decided more all later old.most (subst Q e has))))

    pub fix_many_does : (n : ℕ) → n ≡ old.most → HasMoreResults readings new.decided.refused old.files old.rules n → DoesStill readings told old wires.Fix new (replies.TooMany n)
    fix_many_does n e has more later =
        let Q : ℕ → Type 0 = λ m. HasMoreResults readings new.decided.refused old.files old.rules m in
        let P : Shelves → ℕ → Type 0 = λ shelves m. Does (setting readings told old.most (new.decided.refused ++ more)) (shelves_of old) wires.Fix shelves (replies.TooMany m) in
        subst (λ (shelves : Shelves). P shelves n) (sym (ap shelves_of same)) (subst (P (shelves_of old)) (sym e) (fix_many (more_still readings old.files old.rules new.decided more all later old.most (subst Q e has))))

  -- a fix that is refused changes only what is decided
  pub unfixed : new ≡ with_decided (with_files old new.files) new.decided → new.files ≡ old.files → new ≡ with_decided old new.decided
  unfixed same files = same ∙ ap (λ (fs : Files). with_decided (with_files old fs) new.decided) files

  pub fix_does : new ≡ with_decided (with_files old new.files) new.decided → AreAllDecided readings.writes old.rules new.decided → (told : Option Files) (fixed : FixReport)
      → IsFixReport readings new.decided.refused old.files old.rules fixed → length fixed.report.results ≤ old.most → new.files ≡ files_fixed old.files fixed.files → over_limit (files_fixed old.files fixed.files) ≡ None
      → DoesStill readings told old wires.Fix new (replies.Fixed fixed)
  fix_does same all told fixed is few put within more later =
      let shelves_are : shelves_of new ≡ record { files = files_fixed old.files fixed.files; rules = old.rules } = ap shelves_of same ∙ ap (λ (files : Files). record { files = files; rules = old.rules }) put in
      subst (λ (shelves : Shelves). Does (setting readings told old.most (new.decided.refused ++ more)) (shelves_of old) wires.Fix shelves (replies.Fixed fixed)) (sym shelves_are)
      (fix fixed (fix_still readings old.files old.rules new.decided more all later fixed is) few within)

  pub fix_passes : (kind : LimitKind) (n : ℕ) → FixesPass readings new.decided.refused old.files old.rules old.most kind n → (told : Option Files) → PassesNow readings told old wires.Fix new kind n
  fix_passes kind n p told = fix_over p

  pub keeps : (texts texts_after : Texts) → new.most ≡ old.most → StayDecided old.decided new.decided → AreAsked readings.writes old.rules old.decided (gained texts texts_after) → Gains texts texts_after → Keeps old new texts texts_after
  keeps texts texts_after most stay asked grows = record { most = most; stay = stay; asked = λ text h. (asked text h).1; grows = grows }
