-- How taking the rules and the files of a folder may end a run.
use Rattle.std.specs.Prelude.{◌≡◌, ℕ}
use Rattle.scan_world.specs.Faults.{Rose}
use Rattle.run_status.specs.declared.status.Status.{Status}
use Rattle.run_status.specs.declared.status.Status.TheVariants.{Done, Findings, Memory, TreeFault, OutputFault, OverLimit, TooMany, NoSuchPath}

-- By a limit, by memory, by a fault that the tree counted, or by an absence that it counted. The counts are before and after.
abbrev pub HasTakingCause : ℕ → ℕ → ℕ → ℕ → Status → Type 0
HasTakingCause faults faults_after absences absences_after (OverLimit kind count) = faults_after ≡ faults
HasTakingCause faults faults_after absences absences_after Memory = faults_after ≡ faults
HasTakingCause faults faults_after absences absences_after TreeFault = Rose faults faults_after
HasTakingCause faults faults_after absences absences_after NoSuchPath = (faults_after ≡ faults) × Rose absences absences_after
HasTakingCause faults faults_after absences absences_after _ = ⊥

-- By memory or by a fault that the tree counted, while files are written.
abbrev pub HasWritingCause : ℕ → ℕ → Status → Type 0
HasWritingCause faults faults_after Memory = faults_after ≡ faults
HasWritingCause faults faults_after TreeFault = Rose faults faults_after
HasWritingCause faults faults_after _ = ⊥

-- how a run ends that has fixes to write and a line to print
abbrev pub IsOfWriting : Status → Type 0
IsOfWriting Done = Unit {0}
IsOfWriting Memory = Unit {0}
IsOfWriting TreeFault = Unit {0}
IsOfWriting OutputFault = Unit {0}
IsOfWriting _ = ⊥

-- how a run ends that has a report to print
abbrev pub IsOfPrinting : Status → Type 0
IsOfPrinting Done = Unit {0}
IsOfPrinting Findings = Unit {0}
IsOfPrinting Memory = Unit {0}
IsOfPrinting OutputFault = Unit {0}
IsOfPrinting _ = ⊥

-- the same, where there may be too many findings for one
abbrev pub IsOfReport : Status → Type 0
IsOfReport (TooMany most) = Unit {0}
IsOfReport status = IsOfPrinting status
