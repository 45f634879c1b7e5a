-- What is said of a command of a drill, before it is known which texts will be refused later in it, and whatever a tree of files tells.
use Rattle.std.specs.Prelude.{◌≡◌, ℕ, List, ◌++◌, None}
use Rattle.scan_world.specs.Faults.{Rose}
use Rattle.report_form.specs.declared.report.Report.{Report}
use Rattle.run_status.specs.declared.status.Status.{Status}
use Rattle.run_status.specs.declared.status.Status.TheVariants as statuses
use Rattle.wire_stream.specs.declared.wire.Wire.{Wire}
use Rattle.stream_run.specs.State.{State}
use Rattle.stream_run.specs.Reports.{Readings}
use Rattle.stream_run.specs.declared.reply.Reply.{Reply}
use Rattle.stream_run.specs.declared.reply.Reply.TheVariants as replies
use Rattle.stream_run.specs.Doing.{Setting}
use Rattle.stream_run.specs.Still.{setting, DoesStill, PassesNow}
use Rattle.drill_run.specs.Drilling.{report_in, IsWithin}

-- the setting of a drill in which these texts are refused: nothing is told of a tree
abbrev pub drill_setting : Readings → ℕ → List (List ℕ) → Setting
drill_setting readings most refused = setting readings None most refused

-- the command was done, and the report that it came to, if it was a scan, was added
pub record DoesNext (readings : Readings) (old : State) (wire : Wire) (new : State) (reports reports_after : List Report) : Type 0 where
  pub reply : Reply
  pub does : DoesStill readings None old wire new reply
  pub within : IsWithin reply
  pub added : reports_after ≡ reports ++ report_in reply

-- adding what a command came to ends the drill: more findings than that, or want of memory
abbrev pub EndsAdding : Reply → Status → Type 0
EndsAdding reply (statuses.TooMany most) = reply ≡ replies.TooMany most
EndsAdding reply statuses.Memory = Unit {0}
EndsAdding reply _ = ⊥

-- The command ends the drill: memory or a fault of the tree, more findings than that, or a limit that would be passed.
abbrev pub StopsAt : Readings → State → Wire → State → Status → Type 0
StopsAt readings old wire new statuses.Memory = Unit {0}
StopsAt readings old wire new statuses.TreeFault = Unit {0}
StopsAt readings old wire new (statuses.TooMany most) = DoesStill readings None old wire new (replies.TooMany most)
StopsAt readings old wire new (statuses.OverLimit kind n) = PassesNow readings None old wire new kind n
StopsAt readings old wire new _ = ⊥

-- a failed call of the tree has raised the count of faults, and of any other end but want of memory it is as before
abbrev pub HasStopCause : ℕ → ℕ → Status → Type 0
HasStopCause faults faults_after statuses.TreeFault = Rose faults faults_after
HasStopCause faults faults_after statuses.Memory = Unit {0}
HasStopCause faults faults_after (statuses.TooMany most) = faults_after ≡ faults
HasStopCause faults faults_after (statuses.OverLimit kind n) = faults_after ≡ faults
HasStopCause faults faults_after _ = ⊥

-- how a drill ends that has its counts to print
abbrev pub IsOfPrinting : Status → Type 0
IsOfPrinting statuses.Done = Unit {0}
IsOfPrinting statuses.Memory = Unit {0}
IsOfPrinting statuses.OutputFault = Unit {0}
IsOfPrinting _ = ⊥
