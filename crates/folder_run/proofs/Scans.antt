-- What scanning a folder comes to.
use Rattle.std.proofs.Common.{◌≡◌, ℕ, ◌≤◌, Bool, true, false, List, [], ◌∷◌, ◌++◌, length, refl, sym, ap, ◌∙◌, subst}
use Rattle.std.specs.Prelude.{Option, Result, Ok, Err}
use Rattle.std.specs.List.{concat}
use Rattle.std.specs.Io.KnownBytes.{Appends}
use Rattle.std.proofs.lemmas.List.{append-nil}
use Rattle.scan_world.specs.Streams.{AppendsFront}
use Rattle.decided_texts.specs.Decided.{Decisions}
use Rattle.decided_texts.specs.Asking.{Settles}
use Rattle.scan_world.specs.Files.{Files}
use Rattle.report_form.specs.declared.report.Report.{Report}
use Rattle.report_form.specs.declared.report.Reported.{Reported}
use Rattle.scan_session.specs.declared.fault.ScanFault.{ScanFault}
use Rattle.scan_session.specs.declared.fault.ScanFault.TheVariants as faults
use Rattle.run_status.specs.declared.status.Status.{Status}
use Rattle.run_status.specs.declared.status.Status.TheVariants as statuses
use Rattle.run_status.specs.Status.{IsFinished}
use Rattle.run_status.specs.Ways.{Printed, PrintedFront}
use Rattle.wire_words.specs.Commands.{Task}
use Rattle.wire_stream.specs.declared.wire.Wire.TheVariants as wires
use Rattle.stream_run.specs.Reports.{Readings, IsReport, HasMoreResults, SettlesRules}
use Rattle.stream_run.specs.Work.{WorksOnce}
use Rattle.stream_run.specs.Printed.{report_line}
use Rattle.stream_run.specs.Doing.{Setting, Shelves}
use Rattle.stream_run.specs.Asking.{HaveTexts, AsksOnce}
use Rattle.stream_run.proofs.Gained.{Texts}
use Rattle.stream_run.proofs.Asking.{Asked, nothing_decided, asks_once, asks_nothing, WentBy, went_by}
use Rattle.folder_run.specs.Causes.{IsOfPrinting, IsOfReport}
use Rattle.folder_run.specs.Taking.{TakesNone}
use Rattle.folder_run.specs.Ends.{ScanEnds, none, too_many, reported, status_of, TakesFor}
use Rattle.folder_run.specs.Costs.{ScansOnce}
use Rattle.folder_run.specs.Asking.{ScannedSo, ScannedAsking}
use Rattle.folder_run.proofs.Fixes.{nothing_written}

-- ---- how findings show in the status

finished : (flag : Bool) (results : List Reported) → IsFinished (status_of flag results)
finished true [] = tt
finished true (r ∷ rs) = tt
finished false results = tt

of_status : (flag : Bool) (results : List Reported) → IsOfPrinting (status_of flag results)
of_status true [] = tt
of_status true (r ∷ rs) = tt
of_status false results = tt

pub of_printing : (flag : Bool) (results : List Reported) (status : Status) → status ≡ status_of flag results → IsOfPrinting status
of_printing flag results status e = subst IsOfPrinting (sym e) (of_status flag results)

pub of_report : (status : Status) → IsOfPrinting status → IsOfReport status
of_report statuses.Done h = h
of_report statuses.Findings h = h
of_report statuses.Memory h = h
of_report statuses.OutputFault h = h
of_report statuses.Usage h = absurd h
of_report statuses.InputFault h = absurd h
of_report statuses.TreeFault h = absurd h
of_report (statuses.OverLimit kind n) h = absurd h
of_report (statuses.TooMany n) h = absurd h
of_report statuses.NoSuchPath h = absurd h
of_report statuses.BadTarget h = absurd h
of_report statuses.BadPattern h = absurd h
of_report (statuses.BadCommand place) h = absurd h

-- ---- answers of a scan that aren't want of memory

pub not_memory : {A : Type 0} (r : Result A ScanFault) (x : A) → r ≡ Ok x → r ≡ Err faults.Memory → ⊥
not_memory r x is e = let k : Ok x ≡ Err faults.Memory = sym is ∙ e in absurd cc

pub many_not_memory : {A : Type 0} (r : Result A ScanFault) (fault : ScanFault) (n : ℕ) → r ≡ Err fault → fault ≡ faults.TooMany n → r ≡ Err faults.Memory → ⊥
many_not_memory {A} r fault n is f e = let k : Err (faults.TooMany n) ≡ Err faults.Memory = ap (λ x. Err x) (sym f) ∙ sym is ∙ e in absurd cc

-- ---- where no text was decided before

module _ (old new : Decisions) (none : old ≡ nothing_decided) where
  -- the refused ones are those that were refused since
  pub refused_since : (gained : Texts) → new.refused ≡ old.refused ++ gained → new.refused ≡ gained
  refused_since gained e = e ∙ ap (λ (d : Decisions). d.refused ++ gained) none

  module _ (readings : Readings) (rules : Files) (asked asked_after : Asked) where
    -- the builder was asked once for each text of the rules
    pub asks_texts : SettlesRules readings.writes rules old new asked asked_after → (texts : Texts) × HaveTexts readings rules texts × AsksOnce asked asked_after texts
    asks_texts settles =
        let by : WentBy readings rules wires.Scan old new asked asked_after = went_by readings rules old new asked asked_after wires.Scan settles in
        let S : Decisions → Type 0 = λ d. Settles by.texts d new asked asked_after in
        (by.texts, by.goes_by, asks_once by.texts new asked asked_after (subst S none by.settles))

-- ---- how a scan ends, with all that is said of it

pub asking : (s : Setting) (task : Task) (written written_after : Option (List ℕ)) (status : Status) (before after : ℕ) (asked asked_after : Asked) → ScannedSo s task written written_after status before after asked asked_after
    → ScannedAsking s task written written_after status asked asked_after
asking s task written written_after status before after asked asked_after so = record { prints = so.takes.prints; texts = so.texts; goes_by = so.goes_by; asked = so.once }

-- the rules and the files were not taken
module _ (s : Setting) (task : Task) (status : Status) (no : TakesNone s.readings s.told task.config task.prefix status) where
  pub none_scanned : (written : Option (List ℕ)) (steps : ℕ) (asked : Asked) → ScannedSo s task written written status steps steps asked asked
  none_scanned written steps asked = record {
    takes = record { prints = record { lines = []; ends = none status no; printed = nothing_written written }; takes = refl };
    texts = [];
    goes_by = refl;
    once = asks_nothing asked;
  }

-- they were taken, and scanned where these texts are refused
module _ (s : Setting) (task : Task) (shelves : Shelves) (takes : TakesFor s task shelves) (refused : Texts) (same : refused ≡ s.refused) where
  module _ (report : Report) (is : IsReport s.readings refused shelves.files shelves.rules report) (few : length report.results ≤ s.most) where
    report_ends : ScanEnds s task (status_of task.flag report.results) (report_line report ∷ [])
    report_ends = reported shelves report takes (let I : Texts → Type 0 = λ t. IsReport s.readings t shelves.files shelves.rules report in subst I same is) few

    pub front_scanned : (written written_after : Option (List ℕ)) → AppendsFront written written_after (report_line report) → PrintedFront (ScanEnds s task) written written_after
    front_scanned written written_after front = record {
      status = status_of task.flag report.results;
      finished = finished task.flag report.results;
      lines = report_line report ∷ [];
      ends = report_ends;
      printed = (let P : List ℕ → Type 0 = λ x. AppendsFront written written_after x in subst P (sym (append-nil (report_line report))) front);
    }

  module _ (asked asked_after : Asked) (asks : (texts : Texts) × HaveTexts s.readings shelves.rules texts × AsksOnce asked asked_after texts) (before after : ℕ) (work : WorksOnce s.readings refused shelves.files shelves.rules before after) where
    once : ScansOnce s shelves before after
    once = let W : Texts → Type 0 = λ t. WorksOnce s.readings t shelves.files shelves.rules before after in subst W same work

    pub many_scanned : (n : ℕ) → n ≡ s.most → HasMoreResults s.readings refused shelves.files shelves.rules n → (written : Option (List ℕ)) → ScannedSo s task written written (statuses.TooMany n) before after asked asked_after
    many_scanned n n-is more written =
        let T : Texts → Type 0 = λ t. HasMoreResults s.readings t shelves.files shelves.rules n in
        let H : ℕ → Type 0 = λ m. HasMoreResults s.readings s.refused shelves.files shelves.rules m in
        let P : ℕ → Type 0 = λ m. ScannedSo s task written written (statuses.TooMany m) before after asked asked_after in
        subst P (sym n-is) (record {
          takes = record { prints = record { lines = []; ends = too_many shelves takes (subst H n-is (subst T same more)); printed = nothing_written written }; takes = once };
          texts = asks.0;
          goes_by = asks.1;
          once = asks.2;
        })

    pub report_scanned : (report : Report) → IsReport s.readings refused shelves.files shelves.rules report → length report.results ≤ s.most → (status : Status) (written written_after : Option (List ℕ))
        → Printed (λ st lines. (st ≡ status_of task.flag report.results) × (lines ≡ report_line report ∷ [])) written written_after status → ScannedSo s task written written_after status before after asked asked_after
    report_scanned report is few status written written_after p =
        let P : Status → Type 0 = λ st. ScannedSo s task written written_after st before after asked asked_after in
        let Q : List (List ℕ) → Type 0 = λ ls. Appends written written_after (concat ls) in
        let I : Texts → Type 0 = λ t. IsReport s.readings t shelves.files shelves.rules report in
        subst P (sym p.ends.0) (record {
          takes = record { prints = record { lines = report_line report ∷ []; ends = reported shelves report takes (subst I same is) few; printed = subst Q p.ends.1 p.printed }; takes = once };
          texts = asks.0;
          goes_by = asks.1;
          once = asks.2;
        })
