-- A run ends as what its words ask for ends.
use Rattle.std.proofs.Common.{◌≡◌, ◌⊎◌, inl, inr, ℕ, List, [], length, refl, sym, subst}
use Rattle.std.specs.Prelude.{Option, Bool}
use Rattle.std.specs.List.{concat}
use Rattle.std.specs.Io.KnownBytes.{Appends}
use Rattle.std.proofs.Math.Seq.{take-length}
use Rattle.node_tree.specs.declared.view.Lang.{Lang}
use Rattle.scan_world.specs.Files.{Files}
use Rattle.wire_words.specs.Commands.{Task, Request, Matching, Checking, Scanning, Fixing, Serving, Drilling}
use Rattle.run_status.specs.declared.status.Status.{Status}
use Rattle.run_status.specs.declared.status.Status.TheVariants.{Usage}
use Rattle.run_status.specs.Ways.{Ways, Printed, PrintedFront, PrintedSome, IsOnlyEnd}
use Rattle.scan_run.specs.Matching.{Matches}
use Rattle.scan_run.specs.Checking.{Checks}
use Rattle.stream_run.specs.Playing.{PrintsFirst, PrintsFront}
use Rattle.scan_run.specs.Serving.{setting, Serves, Scans, Fixes, Drills}
use Rattle.scan_run.specs.Run.{Asks, AreOtherWords, Ends, usage, matched, checked, scanned, fixed, served, drilled, whole, commands, WritesFront, WritesSome, WritesCommands, IsTold, AreTold, AskToMatch, AskToRead, AskToServe, AskForNoScan, ScansNothing}
use Rattle.scan_run.proofs.Streaming.{nothing_written}

module _ (words : List (List ℕ)) (left : Option (List ℕ)) (told : Option Files) (refused : List (List ℕ)) where
  -- ---- words that ask for nothing

  module _ (w : Option (List ℕ)) (other : AreOtherWords words) where
    pub ends_usage : Printed (Ends words left told refused) w w Usage
    ends_usage = record { lines = []; ends = usage other; printed = nothing_written w }

    pub only_usage : IsOnlyEnd (Ends words left told refused) w w Usage
    only_usage _ _ (usage _) = (refl, nothing_written w)
    only_usage _ _ (matched lang text _ _ is _) = absurd (other (Matching lang text) is)
    only_usage _ _ (checked _ _ is _) = absurd (other Checking is)
    only_usage _ _ (scanned task _ _ is _) = absurd (other (Scanning task) is)
    only_usage _ _ (fixed task _ _ is _) = absurd (other (Fixing task) is)
    only_usage _ _ (served most trace _ _ is _) = absurd (other (Serving most trace) is)
    only_usage _ _ (drilled count _ _ is _) = absurd (other (Drilling count) is)

  -- ---- words that ask for something

  -- how what is requested ends
  abbrev pub WaysOf : Request → Status → List (List ℕ) → Type 0
  WaysOf (Matching lang text) status lines = Matches lang text left status lines
  WaysOf Checking status lines = Checks left status lines
  WaysOf (Scanning task) status lines = Scans task told refused status lines
  WaysOf (Fixing task) status lines = Fixes task told refused status lines
  WaysOf (Serving most trace) status lines = Serves most trace told refused left status lines
  WaysOf (Drilling count) status lines = Drills count refused status lines

  -- words that ask for nothing else
  module _ (r : Request) (is : Asks words r) (only : (q : Request) → Asks words q → r ≡ q) where
    ends_as : (s : Status) (lines : List (List ℕ)) → Ends words left told refused s lines → WaysOf r s lines
    ends_as _ _ (usage other) = absurd (other r is)
    ends_as s lines (matched lang text _ _ is' m) = subst (λ (q : Request). WaysOf q s lines) (sym (only (Matching lang text) is')) m
    ends_as s lines (checked _ _ is' m) = subst (λ (q : Request). WaysOf q s lines) (sym (only Checking is')) m
    ends_as s lines (scanned task _ _ is' m) = subst (λ (q : Request). WaysOf q s lines) (sym (only (Scanning task) is')) m
    ends_as s lines (fixed task _ _ is' m) = subst (λ (q : Request). WaysOf q s lines) (sym (only (Fixing task) is')) m
    ends_as s lines (served most trace _ _ is' m) = subst (λ (q : Request). WaysOf q s lines) (sym (only (Serving most trace) is')) m
    ends_as s lines (drilled count _ _ is' m) = subst (λ (q : Request). WaysOf q s lines) (sym (only (Drilling count) is')) m

    -- end in no other way than what they ask for
    pub only_by : (w v : Option (List ℕ)) (s : Status) → AreTold words left told → (IsTold left told r → IsOnlyEnd (WaysOf r) w v s) → IsOnlyEnd (Ends words left told refused) w v s
    only_by w v s are one other lines ends = one (are r is) other lines (ends_as other lines ends)

  -- what is said of a command's end is said of the run's
  module _ (W : Ways) (run : (s : Status) (lines : List (List ℕ)) → W s lines → Ends words left told refused s lines) (w v : Option (List ℕ)) where
    ends_by : (s : Status) → Printed W w v s → Printed (Ends words left told refused) w v s
    ends_by s p = record { lines = p.lines; ends = run s p.lines p.ends; printed = p.printed }

    front_by : PrintedFront W w v → WritesFront words left told refused w v
    front_by p = (p.lines, whole p.status p.lines p.finished (run p.status p.lines p.ends), p.printed)

    some_by : (v ≡ w) ⊎ PrintedSome W w v → (v ≡ w) ⊎ WritesSome words left told refused w v
    some_by (inl e) = inl e
    some_by (inr p) = inr (p.lines, whole p.status p.lines p.finished (run p.status p.lines p.ends), p.printed)

  module _ (w v : Option (List ℕ)) where
    module _ (lang : Lang) (text : List ℕ) (is : Asks words (Matching lang text)) where
      run_match : (s : Status) (lines : List (List ℕ)) → Matches lang text left s lines → Ends words left told refused s lines
      run_match s lines m = matched lang text s lines is m

      pub ends_match : (s : Status) → Printed (Matches lang text left) w v s → Printed (Ends words left told refused) w v s
      ends_match = ends_by (Matches lang text left) run_match w v

      pub front_match : PrintedFront (Matches lang text left) w v → WritesFront words left told refused w v
      front_match = front_by (Matches lang text left) run_match w v

      pub some_match : (v ≡ w) ⊎ PrintedSome (Matches lang text left) w v → (v ≡ w) ⊎ WritesSome words left told refused w v
      some_match = some_by (Matches lang text left) run_match w v

    module _ (is : Asks words Checking) where
      run_check : (s : Status) (lines : List (List ℕ)) → Checks left s lines → Ends words left told refused s lines
      run_check s lines c = checked s lines is c

      pub ends_check : (s : Status) → Printed (Checks left) w v s → Printed (Ends words left told refused) w v s
      ends_check = ends_by (Checks left) run_check w v

      pub front_check : PrintedFront (Checks left) w v → WritesFront words left told refused w v
      front_check = front_by (Checks left) run_check w v

    module _ (task : Task) (is : Asks words (Scanning task)) where
      run_scan : (s : Status) (lines : List (List ℕ)) → Scans task told refused s lines → Ends words left told refused s lines
      run_scan s lines m = scanned task s lines is m

      pub ends_scan : (s : Status) → Printed (Scans task told refused) w v s → Printed (Ends words left told refused) w v s
      ends_scan = ends_by (Scans task told refused) run_scan w v

      pub front_scan : PrintedFront (Scans task told refused) w v → WritesFront words left told refused w v
      front_scan = front_by (Scans task told refused) run_scan w v

    module _ (task : Task) (is : Asks words (Fixing task)) where
      run_fix : (s : Status) (lines : List (List ℕ)) → Fixes task told refused s lines → Ends words left told refused s lines
      run_fix s lines f = fixed task s lines is f

      pub ends_fix : (s : Status) → Printed (Fixes task told refused) w v s → Printed (Ends words left told refused) w v s
      ends_fix = ends_by (Fixes task told refused) run_fix w v

      pub front_fix : PrintedFront (Fixes task told refused) w v → WritesFront words left told refused w v
      front_fix = front_by (Fixes task told refused) run_fix w v

    module _ (count : ℕ) (is : Asks words (Drilling count)) where
      run_drill : (s : Status) (lines : List (List ℕ)) → Drills count refused s lines → Ends words left told refused s lines
      run_drill s lines d = drilled count s lines is d

      pub ends_drill : (s : Status) → Printed (Drills count refused) w v s → Printed (Ends words left told refused) w v s
      ends_drill = ends_by (Drills count refused) run_drill w v

      pub front_drill : PrintedFront (Drills count refused) w v → WritesFront words left told refused w v
      front_drill = front_by (Drills count refused) run_drill w v

    module _ (most : ℕ) (trace : Bool) (is : Asks words (Serving most trace)) where
      run_session : (s : Status) (lines : List (List ℕ)) → Serves most trace told refused left s lines → Ends words left told refused s lines
      run_session s lines f = served most trace s lines is f

      pub ends_session : (s : Status) → Printed (Serves most trace told refused left) w v s → Printed (Ends words left told refused) w v s
      ends_session = ends_by (Serves most trace told refused left) run_session w v

      pub front_session : PrintsFront (setting most trace told refused) left w v → WritesFront words left told refused w v
      front_session p = (p.lines, commands most trace p.lines is p.first, p.printed)

      pub commands_session : PrintsFirst (setting most trace told refused) left w v → WritesCommands words left told refused w v
      commands_session p = (most, trace, is, (p.lines, p.first, p.printed))

      pub some_session : PrintsFirst (setting most trace told refused) left w v → WritesSome words left told refused w v
      some_session p =
          let P : List (List ℕ) → Type 0 = λ ls. Appends w v (concat ls) in
          (p.lines, commands most trace p.lines is p.first, (length p.lines, subst P (sym (take-length p.lines)) p.printed))

-- ---- what words don't ask for

module _ (words : List (List ℕ)) where
  -- words that ask for this ask for nothing else
  abbrev pub Only : Request → Type 0
  Only r = (q : Request) → Asks words q → r ≡ q

  module _ (r : Request) (only : Only r) (is : Asks words r) where
    -- what holds of what is requested holds of all that the words may ask for
    pub as_asked : (P : Request → Type 0) → P r → (q : Request) → Asks words q → P q
    as_asked P p q is' = subst P (only q is') p

    pub scans_something : (ScansNothing r → ⊥) → AskForNoScan words → ⊥
    scans_something some none = some (none r is)

  pub no_match_in_check : Only Checking → AskToMatch words → ⊥
  no_match_in_check only (lang, text, is) = let e : Checking ≡ Matching lang text = only (Matching lang text) is in absurd cc

  module _ (task : Task) (only : Only (Scanning task)) where
    pub no_match_in_scan : AskToMatch words → ⊥
    no_match_in_scan (lang, text, is) = let e : Scanning task ≡ Matching lang text = only (Matching lang text) is in absurd cc

    pub no_read_in_scan : AskToRead words → ⊥
    no_read_in_scan (inl match) = no_match_in_scan match
    no_read_in_scan (inr is) = let e : Scanning task ≡ Checking = only Checking is in absurd cc

  module _ (task : Task) (only : Only (Fixing task)) where
    pub no_match_in_fix : AskToMatch words → ⊥
    no_match_in_fix (lang, text, is) = let e : Fixing task ≡ Matching lang text = only (Matching lang text) is in absurd cc

    pub no_read_in_fix : AskToRead words → ⊥
    no_read_in_fix (inl match) = no_match_in_fix match
    no_read_in_fix (inr is) = let e : Fixing task ≡ Checking = only Checking is in absurd cc

    pub no_session_in_fix : AskToServe words → ⊥
    no_session_in_fix (most, trace, is) = let e : Fixing task ≡ Serving most trace = only (Serving most trace) is in absurd cc

    -- a fix that the words ask for is this one
    pub fix_asked : (P : Task → Type 0) → P task → (other : Task) → Asks words (Fixing other) → P other
    fix_asked P p other is =
        let e : Fixing task ≡ Fixing other = only (Fixing other) is in
        let same : task ≡ other = cc in
        subst P same p

  module _ (most : ℕ) (trace : Bool) (only : Only (Serving most trace)) where
    pub no_match_in_session : AskToMatch words → ⊥
    no_match_in_session (lang, text, is) = let e : Serving most trace ≡ Matching lang text = only (Matching lang text) is in absurd cc

    pub no_read_in_session : AskToRead words → ⊥
    no_read_in_session (inl match) = no_match_in_session match
    no_read_in_session (inr is) = let e : Serving most trace ≡ Checking = only Checking is in absurd cc

    pub no_fix_in_session : (task : Task) → Asks words (Fixing task) → ⊥
    no_fix_in_session task is = let e : Serving most trace ≡ Fixing task = only (Fixing task) is in absurd cc

  module _ (count : ℕ) (only : Only (Drilling count)) where
    pub no_match_in_drill : AskToMatch words → ⊥
    no_match_in_drill (lang, text, is) = let e : Drilling count ≡ Matching lang text = only (Matching lang text) is in absurd cc

    pub no_read_in_drill : AskToRead words → ⊥
    no_read_in_drill (inl match) = no_match_in_drill match
    no_read_in_drill (inr is) = let e : Drilling count ≡ Checking = only Checking is in absurd cc

    pub no_fix_in_drill : (task : Task) → Asks words (Fixing task) → ⊥
    no_fix_in_drill task is = let e : Drilling count ≡ Fixing task = only (Fixing task) is in absurd cc

    pub no_session_in_drill : AskToServe words → ⊥
    no_session_in_drill (most, trace, is) = let e : Drilling count ≡ Serving most trace = only (Serving most trace) is in absurd cc

  -- nor do words for a match, a check or a scan ask for fixes or a session
  pub no_fix_in_match : (lang : Lang) (text : List ℕ) → Only (Matching lang text) → (task : Task) → Asks words (Fixing task) → ⊥
  no_fix_in_match lang text only task is = let e : Matching lang text ≡ Fixing task = only (Fixing task) is in absurd cc

  pub no_session_in_match : (lang : Lang) (text : List ℕ) → Only (Matching lang text) → AskToServe words → ⊥
  no_session_in_match lang text only (most, trace, is) = let e : Matching lang text ≡ Serving most trace = only (Serving most trace) is in absurd cc

  pub no_fix_in_check : Only Checking → (task : Task) → Asks words (Fixing task) → ⊥
  no_fix_in_check only task is = let e : Checking ≡ Fixing task = only (Fixing task) is in absurd cc

  pub no_session_in_check : Only Checking → AskToServe words → ⊥
  no_session_in_check only (most, trace, is) = let e : Checking ≡ Serving most trace = only (Serving most trace) is in absurd cc

  pub no_fix_in_scan : (task : Task) → Only (Scanning task) → (other : Task) → Asks words (Fixing other) → ⊥
  no_fix_in_scan task only other is = let e : Scanning task ≡ Fixing other = only (Fixing other) is in absurd cc

  pub no_session_in_scan : (task : Task) → Only (Scanning task) → AskToServe words → ⊥
  no_session_in_scan task only (most, trace, is) = let e : Scanning task ≡ Serving most trace = only (Serving most trace) is in absurd cc
