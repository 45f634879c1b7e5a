-- The number that a run ends with, and what its end says.
use Rattle.std.specs.Prelude.{◌≡◌, ℕ}
use Rattle.run_status.specs.declared.status.Status.{Status}
use Rattle.run_status.specs.declared.status.Status.TheVariants.{Done, Findings, Usage, Memory, InputFault, OutputFault, TreeFault, BadCommand, OverLimit, TooMany, NoSuchPath, BadTarget, BadPattern}

abbrev pub number_of : Status → ℕ
number_of Done = 0
number_of Findings = 1
number_of Usage = 2
number_of Memory = 3
number_of InputFault = 4
number_of OutputFault = 5
number_of TreeFault = 6
number_of (BadCommand place) = 7
number_of (OverLimit kind count) = 8
number_of (TooMany most) = 9
number_of NoSuchPath = 10
number_of BadTarget = 11
number_of BadPattern = 12

-- the status is that of a run which met no fault and had its memory
abbrev pub IsAnswer : Status → Type 0
IsAnswer Memory = ⊥
IsAnswer InputFault = ⊥
IsAnswer OutputFault = ⊥
IsAnswer TreeFault = ⊥
IsAnswer _ = Unit {0}

-- the status is that of a run which did all that it was asked for
abbrev pub IsFinished : Status → Type 0
IsFinished Done = Unit {0}
IsFinished Findings = Unit {0}
IsFinished _ = ⊥

-- the status is that of a run which memory or a fault of its source or its tree cut short
abbrev pub IsCutShort : Status → Type 0
IsCutShort Memory = Unit {0}
IsCutShort InputFault = Unit {0}
IsCutShort TreeFault = Unit {0}
IsCutShort _ = ⊥
