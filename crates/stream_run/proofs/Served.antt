-- How a session ends, at each place where it does.
use Rattle.std.proofs.Common.{◌≡◌, ◌≢◌, ◌≤◌, ◌+◌, ◌-◌, ℕ, List, [], ◌++◌, refl, sym, ◌∙◌, subst}
use Rattle.std.specs.Prelude.{Option, Err}
use Rattle.std.specs.List.{concat}
use Rattle.std.specs.Io.KnownBytes.{Appends}
use Rattle.scan_world.specs.Files.{Files}
use Rattle.scan_world.specs.Trees.{KeepsFiles}
use Rattle.scan_world.specs.Faults.{Rose}
use Rattle.scan_world.specs.Streams.{AppendsFront}
use Rattle.file_map.specs.declared.limit.LimitKind.TheVariants.{Stream}
use Rattle.decided_texts.specs.Refused.{gained}
use Rattle.run_status.specs.declared.status.Status.TheVariants as statuses
use Rattle.wire_stream.specs.declared.wire.Wire.{Wire}
use Rattle.wire_stream.specs.declared.wire.Wire.TheVariants as wires
use Rattle.wire_stream.specs.declared.wire.WireFault.{WireFault}
use Rattle.wire_stream.specs.declared.wire.WireFault.TheVariants as faults
use Rattle.wire_stream.specs.Commands.{BeginsNone}
use Rattle.wire_stream.specs.Fronts.{Waits}
use Rattle.wire_stream.specs.Feeds.{FeedState, Next, IsFault, BeginsLonger, HasWireCause}
use Rattle.workspace.specs.SeenFiles.{SeenFiles}
use Rattle.workspace.specs.State.{State}
use Rattle.workspace.specs.Reports.{Readings}
use Rattle.stream_run.specs.declared.fault.PlayFault.{PlayFault}
use Rattle.stream_run.specs.declared.fault.PlayFault.TheVariants as plays
use Rattle.stream_run.specs.declared.fault.PrintFault.{PrintFault}
use Rattle.stream_run.specs.declared.fault.PrintFault.TheVariants as prints
use Rattle.stream_run.specs.declared.reply.Reply.{Reply}
use Rattle.stream_run.specs.Printed.{lines_of}
use Rattle.stream_run.specs.Faults.{status_of_play, status_of_print, status_of_wire, TellsPassed, HasPlayCause}
use Rattle.stream_run.specs.Doing.{Setting, empty_shelves, Passes}
use Rattle.stream_run.specs.Playing.{GoesOn, begun, ended, bad, long, over, PrintsFirst, PrintsToSync}
use Rattle.stream_run.specs.Costs.{FrontAfter}
use Rattle.stream_run.specs.Asking.{Asks, AsksOnce, FrontAsking}
use Rattle.stream_run.specs.Reading.{ReadsOnce}
use Rattle.stream_run.specs.Still.{setting, shelves_of, IsSync, PassesNow, DoesStill, CostsStill, Keeps, RefusesGained}
use Rattle.stream_run.proofs.Gained.{Texts}
use Rattle.stream_run.proofs.Streaming.{nothing_written, whole_front, lines_front, left_of, used_left, of_left, waits_left}
use Rattle.stream_run.proofs.Told.{passes_before}
use Rattle.stream_run.proofs.Asking.{Asked, asks_once, WentBy, went_by, settles_more, sync_asks_none}
use Rattle.stream_run.proofs.Turns.{Bytes, PlaysSo, PlaysTo, plays_now, plays_then, refused_then, costs_now, plays_most}
use Rattle.stream_run.proofs.Ends.{EndsSurely, IsServed, answered, out_of_memory, tree_failed, input_failed, output_failed}

sync_of : (wire : Wire) → IsSync wire → (prefix : List ℕ) × (wire ≡ wires.Sync prefix)
sync_of (wires.Put path bytes) is = absurd is
sync_of (wires.Del path) is = absurd is
sync_of (wires.Rule name bytes) is = absurd is
sync_of (wires.Unrule name) is = absurd is
sync_of (wires.Sync prefix) is = (prefix, refl)
sync_of wires.Scan is = absurd is
sync_of wires.Fix is = absurd is
sync_of wires.End is = absurd is

module _ (readings : Readings) (told : Option Files) (most : ℕ) (stream : Bytes) (start : Texts) (asked : Asked) (written : Bytes) (before : ℕ) where
  -- memory ran out before anything was read
  pub served_new : (stream_after : Bytes) (source source_after sink sink_after tree tree_after after : ℕ) (asked_after : Asked) → IsServed (setting readings told most (gained start start)) stream stream_after written written source source_after sink sink_after tree tree_after before after asked asked_after statuses.Memory
  served_new stream_after source source_after sink sink_after tree tree_after after asked_after =
      out_of_memory (setting readings told most (gained start start)) stream stream_after written written source source_after sink sink_after tree tree_after before after asked asked_after
      (record { lines = []; first = (0, empty_shelves, stream, begun); printed = nothing_written written })

  module _ (state : State) (seen : SeenFiles) (steps : ℕ) (texts : Texts) (asked_now : Asked) (written_now : Bytes) (feed : FeedState) (left : Bytes) (far : PlaysTo readings told most stream start asked written before state seen steps texts asked_now written_now feed left)
      (source source_now sink sink_now tree tree_now : ℕ) (same_source : source_now ≡ source) (same_sink : sink_now ≡ sink) (same_tree : tree_now ≡ tree) where
    here : PlaysSo (setting readings told most (gained start texts)) stream before feed.place far.lines (shelves_of state) (left_of left feed.hand) seen steps far.rule_texts
    here = plays_now readings told most stream start asked written before state seen steps texts asked_now written_now feed left far

    first_now : PrintsFirst (setting readings told most (gained start texts)) stream written written_now
    first_now = record { lines = far.lines; first = (feed.place, shelves_of state, left_of left feed.hand, here.0); printed = far.printed }

    front_now : FrontAfter (setting readings told most (gained start texts)) stream written written_now before steps
    front_now = record {
      prints = record { lines = far.lines; first = (feed.place, shelves_of state, left_of left feed.hand, here.0); printed = whole_front written written_now (concat far.lines) far.printed };
      take = (seen, here.1);
    }

    once_now : AsksOnce asked asked_now far.rule_texts
    once_now = asks_once far.rule_texts state.decided asked asked_now far.settles

    asking_now : FrontAsking (setting readings told most (gained start texts)) stream written written_now asked asked_now
    asking_now = record {
      prints = record { lines = far.lines; first = (feed.place, shelves_of state, left_of left feed.hand, here.0); printed = whole_front written written_now (concat far.lines) far.printed };
      texts = far.rule_texts;
      go_by = here.3;
      asked = once_now;
    }

    -- the next command was not read
    pub served_unread : (left_after : Bytes) (source_after : ℕ) (fault : WireFault) → IsFault left feed fault → HasWireCause source_now source_after (Err fault)
        → (fault ≡ faults.Failed → Waits left left_after feed.hand) → IsServed (setting readings told most (gained start texts)) stream left_after written written_now source source_after sink sink_now tree tree_now before steps asked asked_now (status_of_wire fault)
    served_unread left_after source_after faults.Memory is cause waits =
        out_of_memory (setting readings told most (gained start texts)) stream left_after written written_now source source_after sink sink_now tree tree_now before steps asked asked_now first_now
    served_unread left_after source_after faults.Failed is cause waits =
        input_failed (setting readings told most (gained start texts)) stream left_after written written_now source source_after sink sink_now tree tree_now before steps asked asked_now
        (record { place = feed.place; lines = far.lines; shelves = shelves_of state; left = left_of left feed.hand; plays = here.0; waits = waits_left left left_after feed.hand (waits refl); printed = far.printed }) front_now asking_now
        (subst (λ (n : ℕ). Rose n source_after) same_source cause)
    served_unread left_after source_after (faults.Bad at) is cause waits =
        answered (setting readings told most (gained start texts)) stream left_after written written_now source source_after sink sink_now tree tree_now before steps asked asked_now (statuses.BadCommand at) tt
        (subst (λ (n : ℕ). EndsSurely (setting readings told most (gained start texts)) stream written written_now (statuses.BadCommand n) before steps asked asked_now) (sym is.0)
        (record {
          ends = record {
            prints = record { lines = far.lines; ends = bad feed.place far.lines (shelves_of state) (left_of left feed.hand) here.0 (of_left left feed.hand BeginsNone is.1); printed = far.printed };
            takes = (seen, here.1);
          };
          sure = here.2;
          texts = far.rule_texts;
          goes_by = here.3;
          once = once_now;
        }))
        (cause ∙ same_source) same_sink same_tree
    served_unread left_after source_after (faults.Stream n) is cause waits =
        answered (setting readings told most (gained start texts)) stream left_after written written_now source source_after sink sink_now tree tree_now before steps asked asked_now (statuses.OverLimit Stream n) tt
        (subst (λ (m : ℕ). EndsSurely (setting readings told most (gained start texts)) stream written written_now (statuses.OverLimit Stream m) before steps asked asked_now) (sym is.0)
        (record {
          ends = record {
            prints = record { lines = far.lines; ends = long feed.place far.lines (shelves_of state) (left_of left feed.hand) here.0 (of_left left feed.hand (BeginsLonger (268435456 - feed.place)) is.1); printed = far.printed };
            takes = (seen, here.1);
          };
          sure = here.2;
          texts = far.rule_texts;
          goes_by = here.3;
          once = once_now;
        }))
        (cause ∙ same_source) same_sink same_tree

    module _ (feed_after : FeedState) (left_after : Bytes) (wire : Wire) (next : Next left left_after feed feed_after wire) (source_after : ℕ) (source_kept : source_after ≡ source_now) where
      goes_on : GoesOn (left_of left feed.hand) wire next.count (left_of left_after feed_after.hand)
      goes_on = used_left left left_after feed.hand feed_after.hand wire next.count next.used

      within : feed.place + next.count ≤ 268435456
      within = subst (λ (n : ℕ). n ≤ 268435456) next.place next.within

      -- it is the end
      pub served_done : wire ≡ wires.End → IsServed (setting readings told most (gained start texts)) stream left_after written written_now source source_after sink sink_now tree tree_now before steps asked asked_now statuses.Done
      served_done e =
          answered (setting readings told most (gained start texts)) stream left_after written written_now source source_after sink sink_now tree tree_now before steps asked asked_now statuses.Done tt
          (record {
            ends = record {
              prints = record {
                lines = far.lines;
                ends = ended feed.place next.count far.lines (shelves_of state) (left_of left feed.hand) (left_of left_after feed_after.hand) here.0
                    (subst (λ (w : Wire). GoesOn (left_of left feed.hand) w next.count (left_of left_after feed_after.hand)) e goes_on) within;
                printed = far.printed;
              };
              takes = (seen, here.1);
            };
            sure = here.2;
            texts = far.rule_texts;
            goes_by = here.3;
            once = once_now;
          })
          (source_kept ∙ same_source) same_sink same_tree

      module _ (state_after : State) (texts_after : Texts) (asked_after : Asked) (kept : Keeps state state_after texts texts_after) where
        s : Setting
        s = setting readings told most (gained start texts_after)

        there : PlaysSo (setting readings told most (gained start texts_after)) stream before feed.place far.lines (shelves_of state) (left_of left feed.hand) seen steps far.rule_texts
        there = plays_then readings told most stream start asked written before state seen steps texts asked_now written_now feed left far state_after texts_after asked_after kept

        first_then : (written_after : Bytes) → written_after ≡ written_now → PrintsFirst (setting readings told most (gained start texts_after)) stream written written_after
        first_then written_after e = record {
          lines = far.lines;
          first = (feed.place, shelves_of state, left_of left feed.hand, there.0);
          printed = subst (λ (w : Bytes). Appends written w (concat far.lines)) (sym e) far.printed;
        }

        to_sync : IsSync wire → PrintsToSync (setting readings told most (gained start texts_after)) stream written written_now
        to_sync is =
            let a = sync_of wire is in
            record {
              place = feed.place;
              count = next.count;
              lines = far.lines;
              shelves = shelves_of state;
              left = left_of left feed.hand;
              rest = left_of left_after feed_after.hand;
              prefix = a.0;
              plays = there.0;
              goes = subst (λ (w : Wire). GoesOn (left_of left feed.hand) w next.count (left_of left_after feed_after.hand)) a.1 goes_on;
              within = within;
              printed = far.printed;
            }

        front_then : FrontAfter (setting readings told most (gained start texts_after)) stream written written_now before steps
        front_then = record {
          prints = record { lines = far.lines; first = (feed.place, shelves_of state, left_of left feed.hand, there.0); printed = whole_front written written_now (concat far.lines) far.printed };
          take = (seen, there.1);
        }

        asking_then : asked_after ≡ asked_now → FrontAsking (setting readings told most (gained start texts_after)) stream written written_now asked asked_after
        asking_then same = record {
          prints = record { lines = far.lines; first = (feed.place, shelves_of state, left_of left feed.hand, there.0); printed = whole_front written written_now (concat far.lines) far.printed };
          texts = far.rule_texts;
          go_by = there.3;
          asked = subst (λ (a : Asked). AsksOnce asked a far.rule_texts) (sym same) once_now;
        }

        module _ (seen_after : SeenFiles) (steps_after : ℕ) where
          -- it was not done
          pub served_unplayed : (now : Option Files) → KeepsFiles told now → (tree_after : ℕ) (fault : PlayFault) → TellsPassed (PassesNow readings now state wire state_after) fault → HasPlayCause {X = Reply} tree_now tree_after (Err fault)
              → ((fault ≡ plays.Memory → ⊥) → RefusesGained state state_after texts texts_after) → ((fault ≡ plays.Memory → ⊥) → CostsStill readings state wire state_after seen seen_after steps steps_after) → (fault ≡ plays.Failed → steps_after ≡ steps)
              → (fault ≡ plays.Failed → IsSync wire) → ((fault ≡ plays.Memory → ⊥) → ReadsOnce readings state.rules wire)
              → ((fault ≡ plays.Memory → ⊥) → Asks readings state.rules wire state.decided state_after.decided asked_now asked_after) → IsServed (setting readings told most (gained start texts_after)) stream left_after written written_now source source_after sink sink_now tree tree_after before steps_after asked asked_after (status_of_play fault)
          served_unplayed now stays tree_after plays.Memory passes cause refuses costs unspent fails once asks =
              out_of_memory (setting readings told most (gained start texts_after)) stream left_after written written_now source source_after sink sink_now tree tree_after before steps_after asked asked_after (first_then written_now refl)
          served_unplayed now stays tree_after plays.Failed passes cause refuses costs unspent fails once asks =
              tree_failed (setting readings told most (gained start texts_after)) stream left_after written written_now source source_after sink sink_now tree tree_after before steps_after asked asked_after (to_sync (fails refl))
              (subst (λ (n : ℕ). FrontAfter (setting readings told most (gained start texts_after)) stream written written_now before n) (sym (unspent refl)) front_then)
              (asking_then (sync_asks_none readings state.rules state.decided state_after.decided asked_now asked_after wire (fails refl) (asks (λ e. absurd cc)))) (subst (λ (n : ℕ). Rose n tree_after) same_tree cause)
          served_unplayed now stays tree_after (plays.OverLimit kind n) passes cause refuses costs unspent fails once asks =
              let got : plays.OverLimit kind n ≡ plays.Memory → ⊥ = λ e. absurd cc in
              let refused = refused_then readings told most stream start asked written before state seen steps texts asked_now written_now feed left far state_after texts_after asked_after kept (refuses got) in
              let P : ℕ → Texts → Type 0 = λ m texts. Passes (setting readings told m texts) (shelves_of state) kind n wire in
              let mine : P state.most state_after.decided.refused = passes_before readings told now stays state.most state_after.decided.refused (shelves_of state) kind n wire passes in
              let all : P most (gained start texts_after) = subst (P most) refused (subst (λ (m : ℕ). P m state_after.decided.refused) far.most_is mine) in
              let cost = costs_now readings told most stream start asked written before state seen steps texts asked_now written_now feed left far state_after texts_after asked_after kept (refuses got) wire seen_after steps_after (costs got) in
              let more : WentBy readings state.rules wire state.decided state_after.decided asked_now asked_after = went_by readings state.rules state.decided state_after.decided asked_now asked_after wire (asks got) in
              answered (setting readings told most (gained start texts_after)) stream left_after written written_now source source_after sink sink_now tree tree_after before steps_after asked asked_after (statuses.OverLimit kind n) tt
              (record {
                ends = record {
                  prints = record {
                    lines = far.lines;
                    ends = over feed.place next.count far.lines (shelves_of state) (left_of left feed.hand) (left_of left_after feed_after.hand) wire kind n there.0 goes_on within all;
                    printed = far.printed;
                  };
                  takes = (seen, seen_after, steps, there.1, cost);
                };
                sure = (there.2, once got);
                texts = far.rule_texts ++ more.texts;
                goes_by = (far.rule_texts, more.texts, there.3, more.goes_by, refl);
                once = asks_once (far.rule_texts ++ more.texts) state_after.decided asked asked_after (settles_more readings state.rules wire far.rule_texts state.decided state_after.decided asked asked_now asked_after far.settles more);
              })
              (source_kept ∙ same_source) same_sink (cause ∙ same_tree)

          module _ (now : Option Files) (stays : KeepsFiles told now) (reply : Reply) (does : DoesStill readings now state wire state_after reply) (refuses : RefusesGained state state_after texts texts_after) (goes : wire ≢ wires.End)
              (costs : CostsStill readings state wire state_after seen seen_after steps steps_after) (once : ReadsOnce readings state.rules wire) (asks : Asks readings state.rules wire state.decided state_after.decided asked_now asked_after) (tree_after : ℕ) where
            abbrev more_texts : WentBy readings state.rules wire state.decided state_after.decided asked_now asked_after
            more_texts = went_by readings state.rules state.decided state_after.decided asked_now asked_after wire asks

            most_now : PlaysSo (setting readings told most (gained start texts_after)) stream before feed_after.place (far.lines ++ lines_of reply) (shelves_of state_after) (left_of left_after feed_after.hand) seen_after steps_after (far.rule_texts ++ more_texts.texts)
            most_now = plays_most readings told most stream start asked written before state seen steps texts asked_now written_now feed left far state_after texts_after asked_after kept refuses now stays wire reply does feed_after left_after next goes seen_after steps_after costs once asks

            -- what it came to was not printed
            pub served_unprinted : (written_after : Bytes) (sink_after : ℕ) (fault : PrintFault) → (fault ≡ prints.Memory → written_after ≡ written_now) → (fault ≡ prints.Failed → AppendsFront written_now written_after (concat (lines_of reply)))
                → (fault ≡ prints.Failed → Rose sink_now sink_after)
                → IsServed (setting readings told most (gained start texts_after)) stream left_after written written_after source source_after sink sink_after tree tree_after before steps_after asked asked_after (status_of_print fault)
            served_unprinted written_after sink_after prints.Memory unwritten front rose =
                out_of_memory (setting readings told most (gained start texts_after)) stream left_after written written_after source source_after sink sink_after tree tree_after before steps_after asked asked_after (first_then written_after (unwritten refl))
            served_unprinted written_after sink_after prints.Failed unwritten front rose =
                output_failed (setting readings told most (gained start texts_after)) stream left_after written written_after source source_after sink sink_after tree tree_after before steps_after asked asked_after
                (record {
                  prints = record {
                    lines = far.lines ++ lines_of reply;
                    first = (feed_after.place, shelves_of state_after, left_of left_after feed_after.hand, most_now.0);
                    printed = lines_front written written_now written_after far.lines (lines_of reply) far.printed (front refl);
                  };
                  take = (seen_after, most_now.1);
                })
                (record {
                  prints = record {
                    lines = far.lines ++ lines_of reply;
                    first = (feed_after.place, shelves_of state_after, left_of left_after feed_after.hand, most_now.0);
                    printed = lines_front written written_now written_after far.lines (lines_of reply) far.printed (front refl);
                  };
                  texts = far.rule_texts ++ more_texts.texts;
                  go_by = most_now.3;
                  asked = asks_once (far.rule_texts ++ more_texts.texts) state_after.decided asked asked_after (settles_more readings state.rules wire far.rule_texts state.decided state_after.decided asked asked_now asked_after far.settles more_texts);
                })
                (subst (λ (n : ℕ). Rose n sink_after) same_sink (rose refl))
