-- What a command does, whatever a tree tells.
use Rattle.std.proofs.Common.{◌≡◌, List, ◌++◌, sym, subst}
use Rattle.std.specs.Prelude.{Option, None, Result, Ok, Err, OnOk, IfErr}
use Rattle.scan_world.specs.Files.{Files}
use Rattle.report_form.specs.declared.report.Report.{Report}
use Rattle.run_status.specs.declared.status.Status.{Status}
use Rattle.run_status.specs.declared.status.Status.TheVariants as statuses
use Rattle.wire_stream.specs.declared.wire.Wire.{Wire}
use Rattle.stream_run.specs.State.{State}
use Rattle.stream_run.specs.Reports.{Readings}
use Rattle.stream_run.specs.declared.fault.PlayFault.{PlayFault}
use Rattle.stream_run.specs.declared.fault.PlayFault.TheVariants as plays
use Rattle.stream_run.specs.declared.reply.Reply.{Reply}
use Rattle.stream_run.specs.Faults.{status_of_play, TellsPassed}
use Rattle.stream_run.specs.Still.{shelves_of, DoesStill, PassesNow}
use Rattle.stream_run.proofs.Told.{does_before, passes_before}
use Rattle.drill_run.specs.Drilling.{report_in, IsWithin}
use Rattle.drill_run.specs.Commands.{EndsAdding, DoesNext, StopsAt}

module _ (readings : Readings) (now : Option Files) (old : State) (wire : Wire) (new : State) where
  does_anyhow : (reply : Reply) → DoesStill readings now old wire new reply → DoesStill readings None old wire new reply
  does_anyhow reply does more free = does_before readings None now tt old.most (new.decided.refused ++ more) (shelves_of old) wire (shelves_of new) reply (does more free)

  module _ (reply : Reply) (does : DoesStill readings now old wire new reply) where
    -- it is done where its report is added
    pub next : (result : Result (Unit {0}) Status) (reports reports_after : List Report) → OnOk result (reports_after ≡ reports ++ report_in reply) → OnOk result (IsWithin reply) → OnOk result (DoesNext readings old wire new reports reports_after)
    next (Ok done) reports reports_after added within = record { reply = reply; does = does_anyhow reply does; within = within; added = added }
    next (Err status) reports reports_after added within = tt

    stops_adding : (status : Status) → EndsAdding reply status → StopsAt readings old wire new status
    stops_adding (statuses.TooMany most) ends = subst (λ (r : Reply). DoesStill readings None old wire new r) ends (does_anyhow reply does)
    stops_adding statuses.Memory ends = tt
    stops_adding statuses.TreeFault ends = absurd ends
    stops_adding (statuses.OverLimit kind n) ends = absurd ends
    stops_adding statuses.Done ends = absurd ends
    stops_adding statuses.Findings ends = absurd ends
    stops_adding statuses.Usage ends = absurd ends
    stops_adding statuses.InputFault ends = absurd ends
    stops_adding statuses.OutputFault ends = absurd ends
    stops_adding (statuses.BadCommand place) ends = absurd ends
    stops_adding statuses.NoSuchPath ends = absurd ends
    stops_adding statuses.BadTarget ends = absurd ends
    stops_adding statuses.BadPattern ends = absurd ends

    -- and ends the drill where that does
    pub stops_after : (result : Result (Unit {0}) Status) → IfErr result (EndsAdding reply) → IfErr result (StopsAt readings old wire new)
    stops_after (Ok done) ends = tt
    stops_after (Err status) ends = stops_adding status ends

  pub stops_anyhow : (fault : PlayFault) (status : Status) → status ≡ status_of_play fault → TellsPassed (PassesNow readings now old wire new) fault → StopsAt readings old wire new status
  stops_anyhow fault status is passes = subst (λ (s : Status). StopsAt readings old wire new s) (sym is) (stops fault passes)
    where
      stops : (f : PlayFault) → TellsPassed (PassesNow readings now old wire new) f → StopsAt readings old wire new (status_of_play f)
      stops plays.Memory p = tt
      stops plays.Failed p = tt
      stops (plays.OverLimit kind n) p = passes_before readings None now tt old.most new.decided.refused (shelves_of old) kind n wire p
