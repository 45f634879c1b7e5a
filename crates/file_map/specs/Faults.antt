-- How faults come from one another, and their causes.
use Rattle.std.specs.Prelude.{◌≡◌, ℕ, ⊤, Option, Some}
use Rattle.scan_world.specs.Faults.{Rose}
use Rattle.file_map.specs.declared.limit.LimitKind.{LimitKind}
use Rattle.file_map.specs.declared.fault.PutFault.{PutFault}
use Rattle.file_map.specs.declared.fault.PutFault.TheVariants as puts
use Rattle.file_map.specs.declared.fault.SyncFault.{SyncFault}
use Rattle.file_map.specs.declared.fault.SyncFault.TheVariants as syncs

-- the same fault, of a whole folder
abbrev pub sync_fault : PutFault → SyncFault
sync_fault puts.Memory = syncs.Memory
sync_fault (puts.OverLimit kind number) = syncs.OverLimit kind number

-- a call that failed has raised the count of faults, and any other left it
abbrev pub HasSyncCause : ℕ → ℕ → SyncFault → Type 0
HasSyncCause old new syncs.Failed = Rose old new
HasSyncCause old new _ = new ≡ old

-- where the fault tells a number that passes its limit, this holds of it
abbrev pub TellsLimit : (Option (LimitKind × ℕ) → Type 0) → SyncFault → Type 0
TellsLimit Holds (syncs.OverLimit kind number) = Holds (Some (kind, number))
TellsLimit Holds _ = ⊤
