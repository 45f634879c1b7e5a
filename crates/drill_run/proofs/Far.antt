-- How far a drill has come, and one more command of it.
use Rattle.std.proofs.Common.{◌≡◌, ℕ, ◌<◌, ◌+◌, List, [], ◌∷◌, ◌++◌, length, drop, get_or, refl, sym, ap, ◌∙◌, subst, append_assoc}
use Rattle.std.specs.Prelude.{None, Result, Err}
use Rattle.std.proofs.lemmas.List.{append-nil, drop_more}
use Rattle.scan_world.specs.Files.{Files}
use Rattle.decided_texts.specs.Decided.{AreUndecided}
use Rattle.decided_texts.specs.Refused.{gained, Gains}
use Rattle.decided_texts.specs.Asking.{Settles}
use Rattle.report_form.specs.declared.report.Report.{Report}
use Rattle.wire_stream.specs.declared.wire.Wire.{Wire}
use Rattle.wire_drill.specs.Drill.{drill}
use Rattle.run_status.specs.declared.status.Status.{Status}
use Rattle.run_status.specs.declared.status.Status.TheVariants as statuses
use Rattle.run_status.specs.Status.{IsAnswer}
use Rattle.stream_run.specs.SeenFiles.{SeenFiles}
use Rattle.stream_run.specs.Seen.{HasSeenNone}
use Rattle.stream_run.specs.State.{State}
use Rattle.stream_run.specs.Reports.{Readings}
use Rattle.stream_run.specs.declared.reply.Reply.{Reply}
use Rattle.stream_run.specs.declared.reply.Reply.TheVariants as replies
use Rattle.stream_run.specs.Doing.{Setting, Shelves, empty_shelves, Does, Passes}
use Rattle.stream_run.specs.Costs.{Costs}
use Rattle.stream_run.specs.Asking.{Asks, AsksOnce}
use Rattle.stream_run.specs.Reading.{ReadsOnce}
use Rattle.stream_run.specs.Still.{shelves_of, IsNew, DoesStill, CostsStill, Keeps, RefusesGained}
use Rattle.stream_run.proofs.Gained.{Texts, gained_none, gains_none, gained_on, gains_on, undecided_none, undecided_before, undecided_both}
use Rattle.drill_run.specs.Drilling.{Drills, begun, more, drill_line, DrillEnds, done, too_many, over, EndsOnlyWith}
use Rattle.drill_run.specs.Costs.{Take, HasDrilledAfter, EndTakes}
use Rattle.drill_run.specs.Asking.{GoBy, HasDrilledAsking, EndGoesBy}
use Rattle.drill_run.specs.Commands.{drill_setting, DoesNext, StopsAt}
use Rattle.stream_run.proofs.Sure.{Reads}
use Rattle.stream_run.proofs.Asking.{Asked, nothing_decided, none_asked, asks_once, WentBy, went_by, settles_more}
use Rattle.drill_run.proofs.Once.{AtEach, AtEnd, only_end}

-- the first commands were done, took the steps, each read its rule files in the one way that there is, and they went by these texts
abbrev pub DrillsSo : Setting → List Wire → ℕ → List Wire → Shelves → List Report → SeenFiles → ℕ → Texts → Type 0
DrillsSo s all before left shelves reports seen after rule_texts = (drills : Drills s all left shelves reports) × Take drills seen before after × AtEach (Reads s) drills × GoBy drills rule_texts

-- the drill ends so, takes these steps, each command read its rule files in the one way that there is, and the builder was asked
-- once for each text that they went by
abbrev pub EndsSurely : Setting → ℕ → Status → List (List ℕ) → ℕ → ℕ → Asked → Asked → Type 0
EndsSurely s count status lines before after asked asked_after =
    (ends : DrillEnds s count status lines) × EndTakes ends before after × AtEnd (Reads s) ends × ((texts : Texts) × EndGoesBy ends texts × AsksOnce asked asked_after texts)

-- The first commands were done, and no text that was not decided by then makes a difference. What is refused is what the
-- builder's list gained since the start, and it was asked once for each text that they went by.
pub record IsDrilling (readings : Readings) (most : ℕ) (start : Texts) (asked : Asked) (count before : ℕ) (state : State) (seen : SeenFiles) (steps : ℕ) (texts : Texts) (asked_now : Asked) (left : List Wire) (reports : List Report) : Type 0 where
  pub rule_texts : Texts
  pub drills : (later : Texts) → AreUndecided state.decided later → DrillsSo (drill_setting readings most (gained start texts ++ later)) (drill count) before left (shelves_of state) reports seen steps rule_texts
  pub refused : state.decided.refused ≡ gained start texts
  pub grows : Gains start texts
  pub most_is : state.most ≡ most
  pub settles : Settles rule_texts nothing_decided state.decided asked asked_now

module _ (readings : Readings) (most : ℕ) (start : Texts) (asked : Asked) (count before : ℕ) where
  -- nothing was done yet
  pub first_far : (state : State) → IsNew state → state.most ≡ most → (seen : SeenFiles) → HasSeenNone seen → (left : List Wire) (reports : List Report) → left ≡ drill count → reports ≡ [] → IsDrilling readings most start asked count before state seen before start asked left reports
  first_far state new most_is seen unseen left reports same none = record {
    rule_texts = [];
    drills = λ later free. at (drill_setting readings most (gained start start ++ later));
    refused = new.refused ∙ sym (gained_none start);
    grows = gains_none start;
    most_is = most_is;
    settles = none_asked state new asked;
  }
    where
      empty : shelves_of state ≡ empty_shelves
      empty = ap (λ (files : Files). record { files = files; rules = state.rules }) new.files ∙ ap (λ (rules : Files). record { files = []; rules = rules }) new.rules

      at : (s : Setting) → DrillsSo s (drill count) before left (shelves_of state) reports seen before []
      at s =
          let D : List Wire → Shelves → List Report → Type 0 = λ ws shelves rs. DrillsSo s (drill count) before ws shelves rs seen before [] in
          subst (λ (ws : List Wire). D ws (shelves_of state) reports) (sym same) (subst (λ (shelves : Shelves). D (drill count) shelves reports) (sym empty) (subst (λ (rs : List Report). D (drill count) empty_shelves rs) (sym none) (begun, (unseen, refl), tt, refl)))

  module _ (state : State) (seen : SeenFiles) (steps : ℕ) (texts : Texts) (asked_now : Asked) (wire : Wire) (left : List Wire) (reports : List Report) (far : IsDrilling readings most start asked count before state seen steps texts asked_now (wire ∷ left) reports) (state_after : State) (texts_after : Texts) (asked_after : Asked) (kept : Keeps state state_after texts texts_after) where
    abbrev more_texts : Asks readings state.rules wire state.decided state_after.decided asked_now asked_after → WentBy readings state.rules wire state.decided state_after.decided asked_now asked_after
    more_texts asks = went_by readings state.rules state.decided state_after.decided asked_now asked_after wire asks

    -- the builder was asked once for each text that the commands went by, with those of one more
    asks_more : (asks : Asks readings state.rules wire state.decided state_after.decided asked_now asked_after) → AsksOnce asked asked_after (far.rule_texts ++ (more_texts asks).texts)
    asks_more asks =
        asks_once (far.rule_texts ++ (more_texts asks).texts) state_after.decided asked asked_after
        (settles_more readings state.rules wire far.rule_texts state.decided state_after.decided asked asked_now asked_after far.settles (more_texts asks))

    more_gained : gained start texts_after ≡ gained start texts ++ gained texts texts_after
    more_gained = gained_on start texts texts_after far.grows kept.grows

    -- what was done so far, by what is refused after one more command and by what is refused later
    drills_later : (later : Texts) → AreUndecided state.decided later → DrillsSo (drill_setting readings most (gained start texts_after ++ later)) (drill count) before (wire ∷ left) (shelves_of state) reports seen steps far.rule_texts
    drills_later later free =
        let same : gained start texts ++ (gained texts texts_after ++ later) ≡ gained start texts_after ++ later =
        sym (append_assoc (gained start texts) (gained texts texts_after) later) ∙ ap (λ (l : Texts). l ++ later) (sym more_gained) in
        subst (λ (refused : Texts). DrillsSo (drill_setting readings most refused) (drill count) before (wire ∷ left) (shelves_of state) reports seen steps far.rule_texts) same
        (far.drills (gained texts texts_after ++ later) (undecided_both state.decided (gained texts texts_after) later kept.asked free))

    module _ (refuses : RefusesGained state state_after texts texts_after) where
      refused_then : state_after.decided.refused ≡ gained start texts_after
      refused_then = refuses ∙ ap (λ (l : Texts). l ++ gained texts texts_after) far.refused ∙ sym more_gained

      does_then : (reply : Reply) → DoesStill readings None state wire state_after reply → (later : Texts) → AreUndecided state_after.decided later
          → Does (drill_setting readings most (gained start texts_after ++ later)) (shelves_of state) wire (shelves_of state_after) reply
      does_then reply does later free =
          let P : ℕ → Texts → Type 0 = λ n refused. Does (drill_setting readings n (refused ++ later)) (shelves_of state) wire (shelves_of state_after) reply in
          subst (P most) refused_then (subst (λ (n : ℕ). P n state_after.decided.refused) far.most_is (does later free))

      module _ (seen_after : SeenFiles) (steps_after : ℕ) (costs : CostsStill readings state wire state_after seen seen_after steps steps_after) where
        costs_then : (later : Texts) → AreUndecided state_after.decided later → Costs readings (gained start texts_after ++ later) (shelves_of state) wire seen seen_after steps steps_after
        costs_then later free = subst (λ (refused : Texts). Costs readings (refused ++ later) (shelves_of state) wire seen seen_after steps steps_after) refused_then (costs later free)

        costs_now : Costs readings (gained start texts_after) (shelves_of state) wire seen seen_after steps steps_after
        costs_now =
            subst (λ (refused : Texts). Costs readings refused (shelves_of state) wire seen seen_after steps steps_after) (append-nil (gained start texts_after)) (costs_then [] (undecided_none state_after.decided))

        -- it was done
        pub one_far : ReadsOnce readings state.rules wire → Asks readings state.rules wire state.decided state_after.decided asked_now asked_after → (reports_after : List Report) → DoesNext readings state wire state_after reports reports_after → IsDrilling readings most start asked count before state_after seen_after steps_after texts_after asked_after left reports_after
        one_far once asks reports_after next = record {
          rule_texts = far.rule_texts ++ (more_texts asks).texts;
          drills = λ later free.
              let was = drills_later later (undecided_before state.decided state_after.decided later kept.stay free) in
              subst (λ (rs : List Report). DrillsSo (drill_setting readings most (gained start texts_after ++ later)) (drill count) before left (shelves_of state_after) rs seen_after steps_after (far.rule_texts ++ (more_texts asks).texts)) (sym next.added)
              (more wire left (shelves_of state) (shelves_of state_after) reports next.reply was.0 (does_then next.reply next.does later free) next.within, (seen, steps, was.1, costs_then later free), (was.2, once), (far.rule_texts, (more_texts asks).texts, was.3, (more_texts asks).goes_by, refl));
          refused = refused_then;
          grows = gains_on start texts texts_after far.grows kept.grows;
          most_is = kept.most ∙ far.most_is;
          settles = settles_more readings state.rules wire far.rule_texts state.decided state_after.decided asked asked_now asked_after far.settles (more_texts asks);
        }

      drills_then : DrillsSo (drill_setting readings most (gained start texts_after)) (drill count) before (wire ∷ left) (shelves_of state) reports seen steps far.rule_texts
      drills_then =
          subst (λ (refused : Texts). DrillsSo (drill_setting readings most refused) (drill count) before (wire ∷ left) (shelves_of state) reports seen steps far.rule_texts) (append-nil (gained start texts_after))
          (drills_later [] (undecided_none state.decided))

      -- it ends the drill
      module _ (seen_after : SeenFiles) (steps_after : ℕ) (costs : CostsStill readings state wire state_after seen seen_after steps steps_after) where
        pub stopped : ReadsOnce readings state.rules wire → Asks readings state.rules wire state.decided state_after.decided asked_now asked_after → (status : Status) → StopsAt readings state wire state_after status → IsAnswer status → EndsSurely (drill_setting readings most (gained start texts_after)) count status [] before steps_after asked asked_after
        stopped once asks statuses.Memory stops is = absurd is
        stopped once asks statuses.TreeFault stops is = absurd is
        stopped once asks (statuses.TooMany n) stops is = (
          too_many wire left (shelves_of state) (shelves_of state_after) reports n drills_then.0
              (subst (λ (refused : Texts). Does (drill_setting readings most refused) (shelves_of state) wire (shelves_of state_after) (replies.TooMany n)) (append-nil (gained start texts_after))
              (does_then (replies.TooMany n) stops [] (undecided_none state_after.decided))),
          (seen, seen_after, steps, drills_then.1, costs_now seen_after steps_after costs),
          (drills_then.2, once),
          (far.rule_texts ++ (more_texts asks).texts, (far.rule_texts, (more_texts asks).texts, drills_then.3, (more_texts asks).goes_by, refl), asks_more asks),
        )
        stopped once asks (statuses.OverLimit kind n) stops is =
            let P : ℕ → Texts → Type 0 = λ m texts. Passes (drill_setting readings m texts) (shelves_of state) kind n wire in (
              over wire left (shelves_of state) reports kind n drills_then.0 (subst (P most) refused_then (subst (λ (m : ℕ). P m state_after.decided.refused) far.most_is stops)),
              (seen, seen_after, steps, drills_then.1, costs_now seen_after steps_after costs),
              (drills_then.2, once),
              (far.rule_texts ++ (more_texts asks).texts, (far.rule_texts, (more_texts asks).texts, drills_then.3, (more_texts asks).goes_by, refl), asks_more asks),
            )
        stopped once asks statuses.Done stops is = absurd stops
        stopped once asks statuses.Findings stops is = absurd stops
        stopped once asks statuses.Usage stops is = absurd stops
        stopped once asks statuses.InputFault stops is = absurd stops
        stopped once asks statuses.OutputFault stops is = absurd stops
        stopped once asks (statuses.BadCommand place) stops is = absurd stops
        stopped once asks statuses.NoSuchPath stops is = absurd stops
        stopped once asks statuses.BadTarget stops is = absurd stops
        stopped once asks statuses.BadPattern stops is = absurd stops

-- a run that answers has had its memory
pub not_memory : (status : Status) (r : Result (Unit {0}) Status) → r ≡ Err status → IsAnswer status → r ≡ Err statuses.Memory → ⊥
not_memory status r e is h =
    let same : status ≡ statuses.Memory = cc in
    subst (λ (x : Status). IsAnswer x) same is

-- the next command by its place in the list
module _ (readings : Readings) (most : ℕ) (start : Texts) (asked : Asked) (count before : ℕ) (state : State) (seen : SeenFiles) (steps : ℕ) (texts : Texts) (asked_now : Asked) (wires : List Wire) (i : ℕ) (reports : List Report)
    (far : IsDrilling readings most start asked count before state seen steps texts asked_now (drop i wires) reports) (wire other : Wire) (lt : i < length wires) (is : wire ≡ get_or wires i other) (state_after : State) (texts_after : Texts) (asked_after : Asked)
    (kept : Keeps state state_after texts texts_after) (seen_after : SeenFiles) (steps_after : ℕ) where
  at_wire : IsDrilling readings most start asked count before state seen steps texts asked_now (wire ∷ drop (i + 1) wires) reports
  at_wire =
      subst (λ (left : List Wire). IsDrilling readings most start asked count before state seen steps texts asked_now left reports) (drop_more wires i other lt ∙ ap (λ (w : Wire). w ∷ drop (i + 1) wires) (sym is)) far

  pub next_far : ReadsOnce readings state.rules wire → Asks readings state.rules wire state.decided state_after.decided asked_now asked_after → RefusesGained state state_after texts texts_after → CostsStill readings state wire state_after seen seen_after steps steps_after → (reports_after : List Report) → DoesNext readings state wire state_after reports reports_after
      → IsDrilling readings most start asked count before state_after seen_after steps_after texts_after asked_after (drop (i + 1) wires) reports_after
  next_far once asks refuses costs reports_after next = one_far readings most start asked count before state seen steps texts asked_now wire (drop (i + 1) wires) reports at_wire state_after texts_after asked_after kept refuses seen_after steps_after costs once asks reports_after next

  pub next_ends : (status : Status) → (IsAnswer status → ReadsOnce readings state.rules wire) → (IsAnswer status → Asks readings state.rules wire state.decided state_after.decided asked_now asked_after) → (IsAnswer status → RefusesGained state state_after texts texts_after) → (IsAnswer status → CostsStill readings state wire state_after seen seen_after steps steps_after) → StopsAt readings state wire state_after status
      → IsAnswer status → EndsSurely (drill_setting readings most (gained start texts_after)) count status [] before steps_after asked asked_after
  next_ends status once asks refuses costs stops is =
      stopped readings most start asked count before state seen steps texts asked_now wire (drop (i + 1) wires) reports at_wire state_after texts_after asked_after kept (refuses is) seen_after steps_after (costs is) (once is) (asks is) status stops is

-- a drill that came to its end
module _ (readings : Readings) (most : ℕ) (start : Texts) (asked : Asked) (count before : ℕ) (state : State) (seen : SeenFiles) (steps : ℕ) (texts : Texts) (asked_now : Asked) (left : List Wire) (reports : List Report)
    (far : IsDrilling readings most start asked count before state seen steps texts asked_now left reports) (none : left ≡ []) where
  all_done : DrillsSo (drill_setting readings most (gained start texts)) (drill count) before [] (shelves_of state) reports seen steps far.rule_texts
  all_done =
      subst (λ (ws : List Wire). DrillsSo (drill_setting readings most (gained start texts)) (drill count) before ws (shelves_of state) reports seen steps far.rule_texts) none
      (subst (λ (refused : Texts). DrillsSo (drill_setting readings most refused) (drill count) before left (shelves_of state) reports seen steps far.rule_texts) (append-nil (gained start texts)) (far.drills [] (undecided_none state.decided)))

  -- its reports, and its steps
  pub all_far : HasDrilledAfter (drill_setting readings most (gained start texts)) count reports before steps
  all_far = ((shelves_of state, all_done.0), (seen, all_done.1))

  -- the builder was asked once for each text that its commands went by
  pub all_asking : HasDrilledAsking (drill_setting readings most (gained start texts)) count reports asked asked_now
  all_asking = ((shelves_of state, all_done.0), (far.rule_texts, all_done.3, asks_once far.rule_texts state.decided asked asked_now far.settles))

  -- it could come to no other end
  pub only_far : EndsOnlyWith (drill_setting readings most (gained start texts)) count reports
  only_far first second are =
      let s = drill_setting readings most (gained start texts) in
      let all = subst (λ (rs : List Report). DrillsSo s (drill count) before [] (shelves_of state) rs seen steps far.rule_texts) are all_done in
      only_end s count statuses.Done (drill_line count first second ∷ []) (done first second (shelves_of state, all.0)) all.2
