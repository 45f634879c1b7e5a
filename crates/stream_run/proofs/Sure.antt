-- What holds at each command of a session, and at the one that ends it by a limit.
use Rattle.std.proofs.Common.{ℕ, List}
use Rattle.std.specs.Prelude.{Option}
use Rattle.run_status.specs.declared.status.Status.{Status}
use Rattle.wire_stream.specs.declared.wire.Wire.{Wire}
use Rattle.stream_run.specs.Doing.{Setting, Shelves}
use Rattle.stream_run.specs.Playing.{Plays, begun, more, SessionEnds, ended, bad, long, over}
use Rattle.stream_run.specs.Reading.{ReadsOnce}

-- something that is said of the files and the rules that are there, and of the command that is next
abbrev pub Saying : Type 1
Saying = Shelves → Wire → Type 0

-- it says nothing
abbrev pub Anything : Saying
Anything old wire = Unit {0}

-- there is one way to read the rule files that the command reads
abbrev pub Reads : Setting → Saying
Reads s old wire = ReadsOnce s.readings old.rules wire

module _ (Q : Saying) {s : Setting} {stream : Option (List ℕ)} where
  -- it holds at each of the first commands
  abbrev pub AtEach : {place : ℕ} {lines : List (List ℕ)} {shelves : Shelves} {left : Option (List ℕ)} → Plays s stream place lines shelves left → Type 0
  AtEach begun = Unit {0}
  AtEach (more place count lines old shelves left rest wire reply plays goes some within does) = AtEach plays × Q old wire

  -- and at the one that passes a limit
  abbrev pub AtEnd : {status : Status} {lines : List (List ℕ)} → SessionEnds s stream status lines → Type 0
  AtEnd (ended place count lines shelves left rest plays goes within) = AtEach plays
  AtEnd (bad place lines shelves left plays none) = AtEach plays
  AtEnd (long place lines shelves left plays longer) = AtEach plays
  AtEnd (over place count lines shelves left rest wire kind n plays goes within passes) = AtEach plays × Q shelves wire

module _ {s : Setting} {stream : Option (List ℕ)} where
  -- each of the first commands read its rule files in the one way that there is
  abbrev pub Sure : {place : ℕ} {lines : List (List ℕ)} {shelves : Shelves} {left : Option (List ℕ)} → Plays s stream place lines shelves left → Type 0
  Sure plays = AtEach (Reads s) plays

  abbrev pub SureEnd : {status : Status} {lines : List (List ℕ)} → SessionEnds s stream status lines → Type 0
  SureEnd ends = AtEnd (Reads s) ends

module _ (s : Setting) (stream : Option (List ℕ)) where
  anything_at_each : (place : ℕ) (lines : List (List ℕ)) (shelves : Shelves) (left : Option (List ℕ)) (plays : Plays s stream place lines shelves left) → AtEach Anything plays
  anything_at_each _ _ _ _ begun = tt
  anything_at_each _ _ _ _ (more place count lines old shelves left rest wire reply plays goes some within does) = (anything_at_each place lines old left plays, tt)

  pub anything_at_end : (status : Status) (lines : List (List ℕ)) (ends : SessionEnds s stream status lines) → AtEnd Anything ends
  anything_at_end _ _ (ended place count lines shelves left rest plays goes within) = anything_at_each place lines shelves left plays
  anything_at_end _ _ (bad place lines shelves left plays none) = anything_at_each place lines shelves left plays
  anything_at_end _ _ (long place lines shelves left plays longer) = anything_at_each place lines shelves left plays
  anything_at_end _ _ (over place count lines shelves left rest wire kind n plays goes within passes) = (anything_at_each place lines shelves left plays, tt)
