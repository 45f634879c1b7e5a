-- How a drill ends, and what it prints then.
use Rattle.std.proofs.Common.{◌≡◌, ◌∙◌, ℕ, List, [], ◌∷◌, refl, sym, subst}
use Rattle.std.specs.Prelude.{Option}
use Rattle.std.specs.List.{concat}
use Rattle.std.specs.Io.KnownBytes.{Appends}
use Rattle.scan_world.specs.Streams.{AppendsFront}
use Rattle.report_form.specs.declared.report.Report.{Report}
use Rattle.run_status.specs.declared.status.Status.{Status}
use Rattle.run_status.specs.declared.status.Status.TheVariants.{Done}
use Rattle.run_status.specs.Ways.{PrintedFront, IsOnlyEnd}
use Rattle.stream_run.specs.Doing.{Setting}
use Rattle.stream_run.proofs.Streaming.{nothing_written, one_line, one_front}
use Rattle.stream_run.proofs.Asking.{Asked}
use Rattle.drill_run.specs.Drilling.{drill_line, DrillEnds, done, EndsOnlySo, EndsOnlyWith}
use Rattle.drill_run.specs.Costs.{HasDrilledAfter, DrilledAfter, EndsSo}
use Rattle.drill_run.specs.Asking.{HasDrilledAsking, DrilledAsking, EndsAskingSo}

module _ (s : Setting) (count before after : ℕ) (written : Option (List ℕ)) where
  module _ (reports : List Report) (drilled : HasDrilledAfter s count reports before after) (first second : Report) (are : reports ≡ first ∷ second ∷ []) (written_after : Option (List ℕ)) where
    both : HasDrilledAfter s count (first ∷ second ∷ []) before after
    both = subst (λ (rs : List Report). HasDrilledAfter s count rs before after) are drilled

    pub ends_after : (status : Status) → status ≡ Done → Appends written written_after (drill_line count first second) → DrilledAfter s count written written_after status before after
    ends_after status is put =
        subst (λ (st : Status). DrilledAfter s count written written_after st before after) (sym is)
        (record {
          prints = record {
            lines = drill_line count first second ∷ [];
            ends = done first second both.0;
            printed = one_line written written_after (drill_line count first second) (drill_line count first second) refl put;
          };
          takes = both.1;
        })

    pub ends_front : AppendsFront written written_after (drill_line count first second) → PrintedFront (DrillEnds s count) written written_after
    ends_front put = record {
      status = Done;
      finished = tt;
      lines = drill_line count first second ∷ [];
      ends = done first second both.0;
      printed = one_front written written_after (drill_line count first second) (drill_line count first second) refl put;
    }

  -- it came to no line
  pub ends_early : (status : Status) → EndsSo s count status [] before after → DrilledAfter s count written written status before after
  ends_early status ends = record { prints = record { lines = []; ends = ends.0; printed = nothing_written written }; takes = ends.1 }

-- ---- which texts the builder was asked for

module _ (s : Setting) (count : ℕ) (written : Option (List ℕ)) (asked asked_after : Asked) where
  pub asking_to_end : (reports : List Report) → HasDrilledAsking s count reports asked asked_after → (first second : Report) → reports ≡ first ∷ second ∷ [] → (written_after : Option (List ℕ)) (status : Status) → status ≡ Done
      → Appends written written_after (drill_line count first second) → DrilledAsking s count written written_after status asked asked_after
  asking_to_end reports drilled first second are written_after status is put =
      let both : HasDrilledAsking s count (first ∷ second ∷ []) asked asked_after = subst (λ (rs : List Report). HasDrilledAsking s count rs asked asked_after) are drilled in
      let line = drill_line count first second in
      subst (λ (st : Status). DrilledAsking s count written written_after st asked asked_after) (sym is)
      (record {
        prints = record { lines = line ∷ []; ends = done first second both.0; printed = one_line written written_after line line refl put };
        texts = both.1.0;
        goes_by = both.1.1;
        asked = both.1.2;
      })

  pub asking_early : (status : Status) → EndsAskingSo s count status [] asked asked_after → DrilledAsking s count written written status asked asked_after
  asking_early status ends = record { prints = record { lines = []; ends = ends.0; printed = nothing_written written }; texts = ends.1.0; goes_by = ends.1.1; asked = ends.1.2 }

-- ---- there is no other end

module _ (s : Setting) (count : ℕ) (written : Option (List ℕ)) where
  -- nor could it come to any
  pub only_early : (status : Status) → EndsOnlySo s count status [] → IsOnlyEnd (DrillEnds s count) written written status
  only_early status only other lines ends =
      let same = only other lines ends in
      (same.0, subst (λ (ls : List (List ℕ)). Appends written written (concat ls)) (sym same.1) (nothing_written written))

  pub only_after : (reports : List Report) → EndsOnlyWith s count reports → (first second : Report) → reports ≡ first ∷ second ∷ [] → (written_after : Option (List ℕ)) (status : Status) → status ≡ Done → Appends written written_after (drill_line count first second)
      → IsOnlyEnd (DrillEnds s count) written written_after status
  only_after reports only first second are written_after status is put other lines ends =
      let same = only first second are other lines ends in
      let line = drill_line count first second in
      (same.0 ∙ sym is, subst (λ (ls : List (List ℕ)). Appends written written_after (concat ls)) (sym same.1) (one_line written written_after line line refl put))
