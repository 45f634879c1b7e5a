-- How faults come from one another, their causes, and how a run ends by them.
use Rattle.std.specs.Prelude.{◌≡◌, ℕ, ⊤, Result, Err}
use Rattle.scan_world.specs.Faults.{Rose}
use Rattle.file_map.specs.declared.limit.LimitKind.{LimitKind}
use Rattle.file_map.specs.declared.limit.LimitKind.TheVariants as kinds
use Rattle.file_map.specs.declared.fault.PutFault.{PutFault}
use Rattle.file_map.specs.declared.fault.PutFault.TheVariants as puts
use Rattle.file_map.specs.declared.fault.SyncFault.{SyncFault}
use Rattle.file_map.specs.declared.fault.SyncFault.TheVariants as syncs
use Rattle.wire_stream.specs.declared.wire.WireFault.{WireFault}
use Rattle.wire_stream.specs.declared.wire.WireFault.TheVariants as wires
use Rattle.run_status.specs.declared.status.Status.{Status}
use Rattle.run_status.specs.declared.status.Status.TheVariants as statuses
use Rattle.stream_run.specs.declared.fault.PlayFault.{PlayFault}
use Rattle.stream_run.specs.declared.fault.PlayFault.TheVariants as plays
use Rattle.stream_run.specs.declared.fault.PrintFault.{PrintFault}
use Rattle.stream_run.specs.declared.fault.PrintFault.TheVariants as prints

-- the same fault, of a command
abbrev pub of_put : PutFault → PlayFault
of_put puts.Memory = plays.Memory
of_put (puts.OverLimit kind number) = plays.OverLimit kind number

abbrev pub of_sync : SyncFault → PlayFault
of_sync syncs.Memory = plays.Memory
of_sync syncs.Failed = plays.Failed
of_sync (syncs.OverLimit kind number) = plays.OverLimit kind number

-- how a run ends whose command was not done
abbrev pub status_of_play : PlayFault → Status
status_of_play plays.Memory = statuses.Memory
status_of_play plays.Failed = statuses.TreeFault
status_of_play (plays.OverLimit kind number) = statuses.OverLimit kind number

-- how a run ends whose line was not printed
abbrev pub status_of_print : PrintFault → Status
status_of_print prints.Memory = statuses.Memory
status_of_print prints.Failed = statuses.OutputFault

-- how a run ends whose next command was not read
abbrev pub status_of_wire : WireFault → Status
status_of_wire wires.Memory = statuses.Memory
status_of_wire wires.Failed = statuses.InputFault
status_of_wire (wires.Bad at) = statuses.BadCommand at
status_of_wire (wires.Stream number) = statuses.OverLimit kinds.Stream number

-- where the fault tells a number that passes its limit, this holds of both
abbrev pub TellsPassed : (LimitKind → ℕ → Type 0) → PlayFault → Type 0
TellsPassed Holds (plays.OverLimit kind number) = Holds kind number
TellsPassed Holds _ = ⊤

-- a command that a failed call ended has raised the count of faults, and another one leaves it
abbrev pub HasPlayCause : {X : Type 0} → ℕ → ℕ → Result X PlayFault → Type 0
HasPlayCause old new (Err plays.Failed) = Rose old new
HasPlayCause old new _ = new ≡ old
