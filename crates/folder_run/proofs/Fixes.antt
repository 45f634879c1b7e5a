-- What fixing a folder comes to.
use Rattle.std.proofs.Common.{◌≡◌, ℕ, ◌≤◌, Bool, List, [], ◌∷◌, ◌++◌, length, refl, sym, ap, ◌∙◌, subst}
use Rattle.std.specs.Prelude.{Option, None, Some, Result, Ok, Err, if◌then◌else◌}
use Rattle.std.specs.List.{concat}
use Rattle.std.proofs.lemmas.List.{append-nil}
use Rattle.std.specs.Io.KnownBytes.{Appends}
use Rattle.scan_world.specs.Files.{Files}
use Rattle.scan_world.specs.Streams.{AppendsFront}
use Rattle.scan_world.specs.Trees.{KeepsFiles}
use Rattle.decided_texts.specs.Decided.{Decisions}
use Rattle.decided_texts.specs.Asking.{Settles}
use Rattle.file_map.specs.FileMap.{over_limit}
use Rattle.file_map.specs.declared.limit.LimitKind.{LimitKind}
use Rattle.fix_apply.specs.declared.fixed.FixedFile.{FixedFile}
use Rattle.fix_apply.specs.declared.fixed.FixReport.{FixReport}
use Rattle.run_status.specs.declared.status.Status.{Status}
use Rattle.run_status.specs.declared.status.Status.TheVariants as statuses
use Rattle.run_status.specs.Ways.{Printed, PrintedFront}
use Rattle.wire_words.specs.Commands.{Task}
use Rattle.stream_run.specs.FixFault.{FixFault}
use Rattle.stream_run.specs.FixFault.TheVariants as faults
use Rattle.stream_run.specs.State.{State}
use Rattle.wire_stream.specs.declared.wire.Wire.TheVariants as wires
use Rattle.stream_run.specs.Reports.{Readings, HasMoreResults, SettlesRules}
use Rattle.stream_run.specs.Work.{WorksOnce}
use Rattle.stream_run.specs.Fixes.{IsFixReport, FixesPass, files_fixed}
use Rattle.stream_run.specs.Printed.{fix_line}
use Rattle.stream_run.specs.Doing.{Setting}
use Rattle.stream_run.specs.Asking.{HaveTexts, AsksOnce}
use Rattle.stream_run.specs.Still.{setting, shelves_of, IsNew}
use Rattle.stream_run.proofs.Gained.{Texts}
use Rattle.stream_run.proofs.Asking.{Asked, none_decided, asks_once, asks_nothing, WentBy, went_by}
use Rattle.folder_run.specs.Taking.{Takes, TakesNone}
use Rattle.folder_run.specs.Ends.{FixEnds, none, too_many, over, fixed, FixPrints}
use Rattle.folder_run.specs.Costs.{ScansOnce, FixedAfter}
use Rattle.folder_run.specs.Asking.{FixGoesBy, FixedAsking}
use Rattle.folder_run.specs.Written.{WritesAll, WritesBut, LeavesOf, kept, all, some, Leaves, by_fixes, Wrote}
use Rattle.folder_run.proofs.Wrote.{kept_writes, writes_before}

pub nothing_written : (a : Option (List ℕ)) → Appends a a []
nothing_written None = tt
nothing_written (Some xs) = sym (append-nil xs)

-- ---- answers of a fix that aren't want of memory

pub not_memory : {A : Type 0} (r : Result A FixFault) (x : A) → r ≡ Ok x → r ≡ Err faults.Memory → ⊥
not_memory r x is e = let k : Ok x ≡ Err faults.Memory = sym is ∙ e in absurd cc

pub many_not_memory : {A : Type 0} (r : Result A FixFault) (fault : FixFault) (n : ℕ) → r ≡ Err fault → fault ≡ faults.TooMany n → r ≡ Err faults.Memory → ⊥
many_not_memory {A} r fault n is f e = let k : Err (faults.TooMany n) ≡ Err faults.Memory = ap (λ x. Err x) (sym f) ∙ sym is ∙ e in absurd cc

pub over_not_memory : {A : Type 0} (r : Result A FixFault) (fault : FixFault) (kind : LimitKind) (n : ℕ) → r ≡ Err fault → fault ≡ faults.OverLimit kind n → r ≡ Err faults.Memory → ⊥
over_not_memory {A} r fault kind n is f e = let k : Err (faults.OverLimit kind n) ≡ Err faults.Memory = ap (λ x. Err x) (sym f) ∙ sym is ∙ e in absurd cc

-- ---- what is written over files that a tree keeps

writes_but_before : (path : List ℕ) (told now new : Option Files) (files : List FixedFile) → KeepsFiles told now → WritesBut path now new files → WritesBut path told new files
writes_but_before path None now new files h w = tt
writes_but_before path (Some told) None new files h w = absurd h
writes_but_before path (Some told) (Some now) None files h w = w
writes_but_before path (Some told) (Some now) (Some new) files h w = let P : Files → Type 0 = λ fs. WritesBut path (Some fs) (Some new) files in subst P h w

keeps_before : (told now new : Option Files) → KeepsFiles told now → KeepsFiles now new → KeepsFiles told new
keeps_before None now new h k = tt
keeps_before (Some told) None new h k = absurd h
keeps_before (Some told) (Some now) None h k = k
keeps_before (Some told) (Some now) (Some new) h k = k ∙ h

leaves_before : (dry : Bool) (files : List FixedFile) (told now new : Option Files) → KeepsFiles told now → LeavesOf dry files now new → LeavesOf dry files told new
leaves_before dry files told now new h (kept k) = kept (keeps_before told now new h k)
leaves_before dry files told now new h (all e w) = all e (writes_before told now new files h w)
leaves_before dry files told now new h (some e w) = some e (record {
  first = w.first;
  refused = w.refused;
  rest = w.rest;
  are = w.are;
  written = writes_but_before w.refused.path told now new w.first h w.written;
})

-- ---- how fixing ends, with all that is said of it

-- it ended so, took these steps, and the builder was asked once for each text that it went by
pub record FixedSo (s : Setting) (task : Task) (written written_after : Option (List ℕ)) (status : Status) (before after : ℕ) (asked asked_after : Asked) : Type 0 where
  pub takes : FixedAfter s task written written_after status before after
  pub texts : Texts
  pub goes_by : FixGoesBy takes.prints.ends.1 texts
  pub once : AsksOnce asked asked_after texts

pub asking : (s : Setting) (task : Task) (written written_after : Option (List ℕ)) (status : Status) (before after : ℕ) (asked asked_after : Asked) → FixedSo s task written written_after status before after asked asked_after
    → FixedAsking s task written written_after status asked asked_after
asking s task written written_after status before after asked asked_after so = record { prints = so.takes.prints; texts = so.texts; goes_by = so.goes_by; asked = so.once }

-- ---- the rules and the files were not taken

module _ (s : Setting) (task : Task) (status : Status) (no : TakesNone s.readings s.told task.config task.prefix status) where
  pub none_after : (written : Option (List ℕ)) (steps : ℕ) (asked : Asked) → FixedSo s task written written status steps steps asked asked
  none_after written steps asked = record {
    takes = record { prints = record { lines = []; ends = ([], none status no); printed = nothing_written written }; takes = refl };
    texts = [];
    goes_by = refl;
    once = asks_nothing asked;
  }

  pub none_wrote : (now : Option Files) → KeepsFiles s.told now → Wrote s task now status
  none_wrote now h = record { lines = []; fixed = []; ends = none status no; wrote = kept_writes s.told now h }

-- ---- they were taken, and there was a fix

module _ {R : Type 0} (readings : R → Readings) (r r' : R) (same : r' ≡ r) (told now : Option Files) (kept-files : KeepsFiles told now) (task : Task) (start mid : State) (new : IsNew start)
    (takes : Takes (readings r) told task.config task.prefix (shelves_of mid)) (decided : mid.decided ≡ start.decided) (most : mid.most ≡ start.most) (after-fix : Decisions) (gained : List (List ℕ)) (refused : after-fix.refused ≡ mid.decided.refused ++ gained) where
  abbrev s : Setting
  s = setting (readings r) told start.most gained

  refused_is : after-fix.refused ≡ gained
  refused_is = refused ∙ ap (λ (d : Decisions). d.refused ++ gained) decided ∙ ap (λ (x : List (List ℕ)). x ++ gained) new.refused

  by_start : (P : R → List (List ℕ) → Type 0) → P r' after-fix.refused → P r gained
  by_start P h =
      let Q : R → Type 0 = λ x. P x after-fix.refused in
      let U : List (List ℕ) → Type 0 = λ x. P r x in
      subst U refused_is (subst Q same h)

  -- the one scan of what was taken
  pub scans_once : (before after : ℕ) → WorksOnce (readings r') after-fix.refused mid.files mid.rules before after → ScansOnce s (shelves_of mid) before after
  scans_once before after work = by_start (λ x t. WorksOnce (readings x) t mid.files mid.rules before after) work

  -- the builder was asked once for each text of the rules that were taken
  abbrev pub AsksTexts : Asked → Asked → Type 0
  AsksTexts asked asked_after = (texts : Texts) × HaveTexts s.readings mid.rules texts × AsksOnce asked asked_after texts

  pub texts_once : (asked asked_after : Asked) → SettlesRules (readings r').writes mid.rules mid.decided after-fix asked asked_after → AsksTexts asked asked_after
  texts_once asked asked_after settles =
      let by : WentBy (readings r') mid.rules wires.Fix mid.decided after-fix asked asked_after = went_by (readings r') mid.rules mid.decided after-fix asked asked_after wires.Fix settles in
      let H : R → Type 0 = λ x. HaveTexts (readings x) mid.rules by.texts in
      let S : Decisions → Type 0 = λ d. Settles by.texts d after-fix asked asked_after in
      (by.texts, subst H same by.goes_by, asks_once by.texts after-fix asked asked_after (subst S (decided ∙ none_decided start new) by.settles))

  -- too many findings, or too many bytes
  module _ (n : ℕ) (n-is : n ≡ mid.most) (more : HasMoreResults (readings r') after-fix.refused mid.files mid.rules n) where
    -- there are as many as that where the fix began
    many_is : n ≡ start.most
    many_is = n-is ∙ most

    many_more : HasMoreResults (readings r) gained mid.files mid.rules start.most
    many_more = let H : ℕ → Type 0 = λ m. HasMoreResults (readings r) gained mid.files mid.rules m in subst H many_is (by_start (λ x t. HasMoreResults (readings x) t mid.files mid.rules n) more)

    many_ends : FixEnds s task (statuses.TooMany n) [] []
    many_ends = let P : ℕ → Type 0 = λ m. FixEnds s task (statuses.TooMany m) [] [] in subst P (sym many_is) (too_many (shelves_of mid) takes many_more)

    pub many_after : (written : Option (List ℕ)) (steps steps_after : ℕ) (asked asked_after : Asked) → ScansOnce s (shelves_of mid) steps steps_after → AsksTexts asked asked_after → FixedSo s task written written (statuses.TooMany n) steps steps_after asked asked_after
    many_after written steps steps_after asked asked_after once by =
        let P : ℕ → Type 0 = λ m. FixedSo s task written written (statuses.TooMany m) steps steps_after asked asked_after in
        subst P (sym many_is) (record {
          takes = record { prints = record { lines = []; ends = ([], too_many (shelves_of mid) takes many_more); printed = nothing_written written }; takes = once };
          texts = by.0;
          goes_by = by.1;
          once = by.2;
        })

    pub many_wrote : Wrote s task now (statuses.TooMany n)
    many_wrote = record { lines = []; fixed = []; ends = many_ends; wrote = kept_writes told now kept-files }

  module _ (kind : LimitKind) (n : ℕ) (passes : FixesPass (readings r') after-fix.refused mid.files mid.rules mid.most kind n) where
    over_passes : FixesPass (readings r) gained mid.files mid.rules start.most kind n
    over_passes =
        let P : ℕ → Type 0 = λ m. FixesPass (readings r) gained mid.files mid.rules m kind n in
        subst P most (by_start (λ x t. FixesPass (readings x) t mid.files mid.rules mid.most kind n) passes)

    pub over_after : (written : Option (List ℕ)) (steps steps_after : ℕ) (asked asked_after : Asked) → ScansOnce s (shelves_of mid) steps steps_after → AsksTexts asked asked_after
        → FixedSo s task written written (statuses.OverLimit kind n) steps steps_after asked asked_after
    over_after written steps steps_after asked asked_after once by = record {
      takes = record { prints = record { lines = []; ends = ([], over (shelves_of mid) kind n takes over_passes); printed = nothing_written written }; takes = once };
      texts = by.0;
      goes_by = by.1;
      once = by.2;
    }

    pub over_wrote : Wrote s task now (statuses.OverLimit kind n)
    over_wrote = record { lines = []; fixed = []; ends = over (shelves_of mid) kind n takes over_passes; wrote = kept_writes told now kept-files }

  -- files that are changed
  module _ (changed : FixReport) (report : IsFixReport (readings r') after-fix.refused mid.files mid.rules changed) (few : length changed.report.results ≤ mid.most) (within : over_limit (files_fixed mid.files changed.files) ≡ None) where
    report_is : IsFixReport (readings r) gained mid.files mid.rules changed
    report_is = by_start (λ x t. IsFixReport (readings x) t mid.files mid.rules changed) report

    few_is : length changed.report.results ≤ start.most
    few_is = let P : ℕ → Type 0 = λ m. length changed.report.results ≤ m in subst P most few

    done_ends : FixEnds s task statuses.Done (fix_line changed ∷ []) (if task.flag then [] else changed.files)
    done_ends = fixed (shelves_of mid) changed takes report_is few_is within

    pub done_left : (after : Option Files) → LeavesOf task.flag changed.files now after → Leaves s task after
    done_left after left = by_fixes (shelves_of mid) changed takes report_is (leaves_before task.flag changed.files told now after kept-files left)

    pub done_after : (status : Status) (written written_after : Option (List ℕ)) (steps steps_after : ℕ) (asked asked_after : Asked) → ScansOnce s (shelves_of mid) steps steps_after → AsksTexts asked asked_after
        → Printed (λ st lines. (st ≡ statuses.Done) × (lines ≡ fix_line changed ∷ [])) written written_after status → FixedSo s task written written_after status steps steps_after asked asked_after
    done_after status written written_after steps steps_after asked asked_after once by p =
        let P : Status → Type 0 = λ st. FixedSo s task written written_after st steps steps_after asked asked_after in
        let Q : List (List ℕ) → Type 0 = λ ls. Appends written written_after (concat ls) in
        subst P (sym p.ends.0) (record {
          takes = record {
            prints = record {
              lines = fix_line changed ∷ [];
              ends = ((if task.flag then [] else changed.files), fixed (shelves_of mid) changed takes report_is few_is within);
              printed = subst Q p.ends.1 p.printed;
            };
            takes = once;
          };
          texts = by.0;
          goes_by = by.1;
          once = by.2;
        })

    pub done_wrote : (status : Status) (after : Option Files) → status ≡ statuses.Done → WritesAll now after (if task.flag then [] else changed.files) → Wrote s task after status
    done_wrote status after e w =
        let P : Status → Type 0 = λ st. FixEnds s task st (fix_line changed ∷ []) (if task.flag then [] else changed.files) in
        record { lines = fix_line changed ∷ []; fixed = if task.flag then [] else changed.files; ends = subst P (sym e) done_ends; wrote = writes_before told now after (if task.flag then [] else changed.files) kept-files w }

    pub done_front : (written written_after : Option (List ℕ)) → AppendsFront written written_after (fix_line changed) → PrintedFront (FixPrints s task) written written_after
    done_front written written_after front = record {
      status = statuses.Done;
      finished = tt;
      lines = fix_line changed ∷ [];
      ends = ((if task.flag then [] else changed.files), done_ends);
      printed = (let P : List ℕ → Type 0 = λ x. AppendsFront written written_after x in subst P (sym (append-nil (fix_line changed))) front);
    }
