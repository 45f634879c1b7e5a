-- A session so far, and one more command of it.
use Rattle.std.proofs.Common.{◌≡◌, ◌≢◌, ◌≤◌, ◌+◌, ℕ, List, [], ◌++◌, refl, sym, ap, ◌∙◌, subst, append_assoc}
use Rattle.std.specs.Prelude.{Option}
use Rattle.std.specs.List.{concat}
use Rattle.std.specs.Io.KnownBytes.{Appends}
use Rattle.std.proofs.lemmas.List.{append-nil}
use Rattle.scan_world.specs.Files.{Files}
use Rattle.scan_world.specs.Trees.{KeepsFiles}
use Rattle.decided_texts.specs.Decided.{AreUndecided}
use Rattle.decided_texts.specs.Refused.{gained, Gains}
use Rattle.decided_texts.specs.Asking.{Settles}
use Rattle.wire_stream.specs.declared.wire.Wire.{Wire}
use Rattle.wire_stream.specs.declared.wire.Wire.TheVariants as wires
use Rattle.wire_stream.specs.Feeds.{FeedState, Next}
use Rattle.workspace.specs.SeenFiles.{SeenFiles}
use Rattle.workspace.specs.Seen.{HasSeenNone}
use Rattle.workspace.specs.State.{State}
use Rattle.workspace.specs.Reports.{Readings}
use Rattle.stream_run.specs.declared.reply.Reply.{Reply}
use Rattle.stream_run.specs.Printed.{lines_of}
use Rattle.stream_run.specs.Doing.{Setting, Shelves, empty_shelves, Does}
use Rattle.stream_run.specs.Playing.{Plays, begun, more}
use Rattle.stream_run.specs.Costs.{Costs, Take}
use Rattle.stream_run.specs.Asking.{Asks, GoBy}
use Rattle.stream_run.specs.Reading.{ReadsOnce}
use Rattle.stream_run.specs.Still.{setting, shelves_of, IsNew, DoesStill, CostsStill, Keeps, RefusesGained}
use Rattle.stream_run.proofs.Gained.{Texts, gained_none, gains_none, gained_on, gains_on, undecided_none, undecided_before, undecided_both}
use Rattle.stream_run.proofs.Streaming.{nothing_written, lines_on, left_of, left_first, used_left}
use Rattle.stream_run.proofs.Told.{does_before}
use Rattle.stream_run.proofs.Sure.{Sure}
use Rattle.stream_run.proofs.Asking.{Asked, nothing_decided, none_asked, WentBy, went_by, settles_more}

abbrev pub Bytes : Type 0
Bytes = Option (List ℕ)

-- the first commands were done, took the steps, each read its rule files in the one way that there is, and they went by these texts
abbrev pub PlaysSo : Setting → Bytes → ℕ → ℕ → List (List ℕ) → Shelves → Bytes → SeenFiles → ℕ → Texts → Type 0
PlaysSo s stream before place lines shelves left seen after rule_texts = (plays : Plays s stream place lines shelves left) × Take plays seen before after × Sure plays × GoBy plays rule_texts

-- The first commands were done, and no text that was not decided by then makes a difference. What was written are their lines,
-- what is refused is what the builder's list gained since the start, and it was asked once for each text that they went by.
pub record IsPlaying (readings : Readings) (told : Option Files) (most : ℕ) (stream : Bytes) (start : Texts) (asked : Asked) (written : Bytes) (before : ℕ) (state : State) (seen : SeenFiles) (steps : ℕ) (texts : Texts) (asked_now : Asked) (written_now : Bytes) (place : ℕ) (left : Bytes) : Type 0 where
  pub lines : List (List ℕ)
  pub rule_texts : Texts
  pub plays : (later : Texts) → AreUndecided state.decided later → PlaysSo (setting readings told most (gained start texts ++ later)) stream before place lines (shelves_of state) left seen steps rule_texts
  pub printed : Appends written written_now (concat lines)
  pub refused : state.decided.refused ≡ gained start texts
  pub grows : Gains start texts
  pub most_is : state.most ≡ most
  pub settles : Settles rule_texts nothing_decided state.decided asked asked_now

-- the same of a feed that has used so much of the stream
abbrev pub PlaysTo : Readings → Option Files → ℕ → Bytes → Texts → Asked → Bytes → ℕ → State → SeenFiles → ℕ → Texts → Asked → Bytes → FeedState → Bytes → Type 0
PlaysTo readings told most stream start asked written before state seen steps texts asked_now written_now feed source = IsPlaying readings told most stream start asked written before state seen steps texts asked_now written_now feed.place (left_of source feed.hand)

module _ (readings : Readings) (told : Option Files) (most : ℕ) (stream : Bytes) (start : Texts) (asked : Asked) (written : Bytes) (before : ℕ) where
  module _ (state : State) (new : IsNew state) (most_is : state.most ≡ most) (seen : SeenFiles) (unseen : HasSeenNone seen) where
    no_shelves : empty_shelves ≡ shelves_of state
    no_shelves = ap (λ (files : Files). record { files = files; rules = [] }) (sym new.files) ∙ ap (λ (rules : Files). record { files = state.files; rules = rules }) (sym new.rules)

    pub first_turn : (feed : FeedState) → feed.place ≡ 0 → feed.hand ≡ [] → PlaysTo readings told most stream start asked written before state seen before start asked written feed stream
    first_turn feed at none =
        let P : Shelves → ℕ → Bytes → Type 0 = λ shelves place left. (later : Texts) → AreUndecided state.decided later → PlaysSo (setting readings told most (gained start start ++ later)) stream before place [] shelves left seen before [] in
        let here : P empty_shelves 0 stream = λ later free. (begun, (unseen, refl), tt, refl) in
        let there : P (shelves_of state) 0 stream = subst (λ (s : Shelves). P s 0 stream) no_shelves here in
        let placed : P (shelves_of state) feed.place stream = subst (λ (n : ℕ). P (shelves_of state) n stream) (sym at) there in
        record {
          lines = [];
          rule_texts = [];
          plays = subst (P (shelves_of state) feed.place) (sym (left_first stream feed.hand none)) placed;
          printed = nothing_written written;
          refused = new.refused ∙ sym (gained_none start);
          grows = gains_none start;
          most_is = most_is;
          settles = none_asked state new asked;
        }

  module _ (state : State) (seen : SeenFiles) (steps : ℕ) (texts : Texts) (asked_now : Asked) (written_now : Bytes) (feed : FeedState) (source : Bytes) (far : PlaysTo readings told most stream start asked written before state seen steps texts asked_now written_now feed source) where
    -- what was done so far, by what is refused so far
    pub plays_now : PlaysSo (setting readings told most (gained start texts)) stream before feed.place far.lines (shelves_of state) (left_of source feed.hand) seen steps far.rule_texts
    plays_now =
        subst (λ (refused : Texts). PlaysSo (setting readings told most refused) stream before feed.place far.lines (shelves_of state) (left_of source feed.hand) seen steps far.rule_texts) (append-nil (gained start texts))
        (far.plays [] (undecided_none state.decided))

    module _ (state_after : State) (texts_after : Texts) (asked_after : Asked) (kept : Keeps state state_after texts texts_after) where
      pub grows_on : Gains start texts_after
      grows_on = gains_on start texts texts_after far.grows kept.grows

      more_gained : gained start texts_after ≡ gained start texts ++ gained texts texts_after
      more_gained = gained_on start texts texts_after far.grows kept.grows

      -- what was done so far, by what is refused after one more command and by what is refused later
      plays_later : (later : Texts) → AreUndecided state.decided later
          → PlaysSo (setting readings told most (gained start texts_after ++ later)) stream before feed.place far.lines (shelves_of state) (left_of source feed.hand) seen steps far.rule_texts
      plays_later later free =
          let same : gained start texts ++ (gained texts texts_after ++ later) ≡ gained start texts_after ++ later =
          sym (append_assoc (gained start texts) (gained texts texts_after) later) ∙ ap (λ (l : Texts). l ++ later) (sym more_gained) in
          subst (λ (refused : Texts). PlaysSo (setting readings told most refused) stream before feed.place far.lines (shelves_of state) (left_of source feed.hand) seen steps far.rule_texts) same
          (far.plays (gained texts texts_after ++ later) (undecided_both state.decided (gained texts texts_after) later kept.asked free))

      pub plays_then : PlaysSo (setting readings told most (gained start texts_after)) stream before feed.place far.lines (shelves_of state) (left_of source feed.hand) seen steps far.rule_texts
      plays_then =
          subst (λ (refused : Texts). PlaysSo (setting readings told most refused) stream before feed.place far.lines (shelves_of state) (left_of source feed.hand) seen steps far.rule_texts) (append-nil (gained start texts_after))
          (plays_later [] (undecided_none state.decided))

      module _ (refuses : RefusesGained state state_after texts texts_after) where
        pub refused_then : state_after.decided.refused ≡ gained start texts_after
        refused_then = refuses ∙ ap (λ (l : Texts). l ++ gained texts texts_after) far.refused ∙ sym more_gained

        module _ (wire : Wire) (seen_after : SeenFiles) (steps_after : ℕ) (costs : CostsStill readings state wire state_after seen seen_after steps steps_after) where
          costs_then : (later : Texts) → AreUndecided state_after.decided later → Costs readings (gained start texts_after ++ later) (shelves_of state) wire seen seen_after steps steps_after
          costs_then later free = subst (λ (refused : Texts). Costs readings (refused ++ later) (shelves_of state) wire seen seen_after steps steps_after) refused_then (costs later free)

          -- what the command took, by what is refused after it
          pub costs_now : Costs readings (gained start texts_after) (shelves_of state) wire seen seen_after steps steps_after
          costs_now =
              subst (λ (refused : Texts). Costs readings refused (shelves_of state) wire seen seen_after steps steps_after) (append-nil (gained start texts_after)) (costs_then [] (undecided_none state_after.decided))

        module _ (now : Option Files) (stays : KeepsFiles told now) (wire : Wire) (reply : Reply) (does : DoesStill readings now state wire state_after reply) (feed_after : FeedState) (source_after : Bytes)
            (next : Next source source_after feed feed_after wire) (goes : wire ≢ wires.End) (seen_after : SeenFiles) (steps_after : ℕ) (costs : CostsStill readings state wire state_after seen seen_after steps steps_after) (once : ReadsOnce readings state.rules wire)
            (asks : Asks readings state.rules wire state.decided state_after.decided asked_now asked_after) where
          abbrev more_texts : WentBy readings state.rules wire state.decided state_after.decided asked_now asked_after
          more_texts = went_by readings state.rules state.decided state_after.decided asked_now asked_after wire asks

          does_then : (later : Texts) → AreUndecided state_after.decided later → Does (setting readings told most (gained start texts_after ++ later)) (shelves_of state) wire (shelves_of state_after) reply
          does_then later free =
              let P : ℕ → Texts → Type 0 = λ n refused. Does (setting readings told n (refused ++ later)) (shelves_of state) wire (shelves_of state_after) reply in
              let here : P state.most state_after.decided.refused =
              does_before readings told now stays state.most (state_after.decided.refused ++ later) (shelves_of state) wire (shelves_of state_after) reply (does later free) in
              subst (P most) refused_then (subst (λ (n : ℕ). P n state_after.decided.refused) far.most_is here)

          plays_more : (later : Texts) → AreUndecided state_after.decided later
              → PlaysSo (setting readings told most (gained start texts_after ++ later)) stream before feed_after.place (far.lines ++ lines_of reply) (shelves_of state_after) (left_of source_after feed_after.hand) seen_after steps_after (far.rule_texts ++ more_texts.texts)
          plays_more later free =
              let P : ℕ → Type 0 = λ place. PlaysSo (setting readings told most (gained start texts_after ++ later)) stream before place (far.lines ++ lines_of reply) (shelves_of state_after) (left_of source_after feed_after.hand) seen_after steps_after (far.rule_texts ++ more_texts.texts) in
              let was = plays_later later (undecided_before state.decided state_after.decided later kept.stay free) in
              let within : feed.place + next.count ≤ 268435456 = subst (λ (n : ℕ). n ≤ 268435456) next.place next.within in
              subst P (sym next.place) (
                more feed.place next.count far.lines (shelves_of state) (shelves_of state_after) (left_of source feed.hand) (left_of source_after feed_after.hand) wire reply was.0
                    (used_left source source_after feed.hand feed_after.hand wire next.count next.used) goes within (does_then later free),
                (seen, steps, was.1, costs_then wire seen_after steps_after costs later free),
                (was.2, once),
                (far.rule_texts, more_texts.texts, was.3, more_texts.goes_by, refl),
              )

          pub one_turn : (written_after : Bytes) → Appends written_now written_after (concat (lines_of reply)) → PlaysTo readings told most stream start asked written before state_after seen_after steps_after texts_after asked_after written_after feed_after source_after
          one_turn written_after put = record {
            lines = far.lines ++ lines_of reply;
            rule_texts = far.rule_texts ++ more_texts.texts;
            plays = plays_more;
            printed = lines_on written written_now written_after far.lines (lines_of reply) far.printed put;
            refused = refused_then;
            grows = grows_on;
            most_is = kept.most ∙ far.most_is;
            settles = settles_more readings state.rules wire far.rule_texts state.decided state_after.decided asked asked_now asked_after far.settles more_texts;
          }

          -- the lines with the one that a failed write was to print
          pub plays_most : PlaysSo (setting readings told most (gained start texts_after)) stream before feed_after.place (far.lines ++ lines_of reply) (shelves_of state_after) (left_of source_after feed_after.hand) seen_after steps_after (far.rule_texts ++ more_texts.texts)
          plays_most =
              subst (λ (refused : Texts). PlaysSo (setting readings told most refused) stream before feed_after.place (far.lines ++ lines_of reply) (shelves_of state_after) (left_of source_after feed_after.hand) seen_after steps_after (far.rule_texts ++ more_texts.texts))
              (append-nil (gained start texts_after)) (plays_more [] (undecided_none state_after.decided))
