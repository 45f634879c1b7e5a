-- What a session that begins with nothing makes of the settings of a run.
use Rattle.std.proofs.Common.{◌≡◌, ℕ, Bool, List, [], refl, sym, ap, subst}
use Rattle.std.specs.Prelude.{Option}
use Rattle.scan_world.specs.Files.{Files}
use Rattle.run_status.specs.declared.status.Status.{Status}
use Rattle.run_status.specs.declared.status.Status.TheVariants as statuses
use Rattle.run_status.specs.Status.{IsAnswer, IsCutShort}
use Rattle.run_status.specs.Ways.{Printed}
use Rattle.stream_run.specs.State.{State}
use Rattle.stream_run.specs.Doing.{Setting}
use Rattle.stream_run.specs.Playing.{SessionEnds, ended, bad, long, over, PrintsEnd, PrintsFirst, PrintsWhole, PrintsToSync}
use Rattle.stream_run.specs.Still.{IsNew}
use Rattle.scan_run.specs.Serving.{setting}

-- a session that holds nothing
abbrev pub nothing : ℕ → State
nothing most = record { files = []; rules = []; decided = record { refused = []; built = [] }; most = most }

pub is_new : (most : ℕ) (state : State) → state ≡ nothing most → IsNew state
is_new most state e =
    record {
      files = ap (λ (s : State). s.files) e;
      rules = ap (λ (s : State). s.rules) e;
      refused = ap (λ (s : State). s.decided.refused) e;
      built = ap (λ (s : State). s.decided.built) e;
    }

-- what holds of the setting of the session holds of that of the run
pub of_setting : (told : Option Files) (refused : List (List ℕ)) (most : ℕ) (traced : Bool) (state : State) (its : Bool) → state ≡ nothing most → its ≡ traced → (P : Setting → Type 0)
    → P (setting state.most its told refused) → P (setting most traced told refused)
of_setting told refused most traced state its e f P p =
    let Q : ℕ → Type 0 = λ n. P (setting n its told refused) in
    let R : Bool → Type 0 = λ t. P (setting most t told refused) in
    subst R f (subst Q (ap (λ (s : State). s.most) e) p)

module _ (s : Setting) (stream w v : Option (List ℕ)) where
  pub printed_of : (status : Status) → PrintsEnd s stream w v status → Printed (SessionEnds s stream) w v status
  printed_of status p = record { lines = p.lines; ends = p.ends; printed = p.printed }

  -- the commands that were handed over are the first ones
  first_of : (after : Option (List ℕ)) → PrintsWhole s stream after w v → PrintsFirst s stream w v
  first_of after p = record { lines = p.lines; first = (p.place, p.shelves, p.left, p.plays); printed = p.printed }

  before_of : PrintsToSync s stream w v → PrintsFirst s stream w v
  before_of p = record { lines = p.lines; first = (p.place, p.shelves, p.left, p.plays); printed = p.printed }

  -- so where a session is cut short, the lines of its first commands were written
  pub first_lines : (after : Option (List ℕ)) (status : Status) → (status ≡ statuses.Memory → PrintsFirst s stream w v) → (status ≡ statuses.TreeFault → PrintsToSync s stream w v) → (status ≡ statuses.InputFault → PrintsWhole s stream after w v) → IsCutShort status → PrintsFirst s stream w v
  first_lines after statuses.Memory f g h cut = f refl
  first_lines after statuses.TreeFault f g h cut = before_of (g refl)
  first_lines after statuses.InputFault f g h cut = first_of after (h refl)
  first_lines after statuses.Done f g h cut = absurd cut
  first_lines after statuses.Findings f g h cut = absurd cut
  first_lines after statuses.Usage f g h cut = absurd cut
  first_lines after statuses.OutputFault f g h cut = absurd cut
  first_lines after (statuses.BadCommand place) f g h cut = absurd cut
  first_lines after (statuses.OverLimit kind n) f g h cut = absurd cut
  first_lines after (statuses.TooMany n) f g h cut = absurd cut
  first_lines after statuses.NoSuchPath f g h cut = absurd cut
  first_lines after statuses.BadTarget f g h cut = absurd cut
  first_lines after statuses.BadPattern f g h cut = absurd cut

  no_end : (status : Status) (lines : List (List ℕ)) → SessionEnds s stream status lines → status ≡ statuses.NoSuchPath → ⊥
  no_end _ _ (ended place count lines shelves left rest plays on short) e = cc
  no_end _ _ (bad place lines shelves left plays none) e = cc
  no_end _ _ (long place lines shelves left plays longer) e = cc
  no_end _ _ (over place count lines shelves left rest wire kind n plays on short passes) e = cc

  -- no session ends for want of a file
  pub no_absence : (status : Status) → (IsAnswer status → PrintsEnd s stream w v status) → status ≡ statuses.NoSuchPath → ⊥
  no_absence status f e =
      let p = f (subst (λ (x : Status). IsAnswer x) (sym e) tt) in
      no_end status p.lines p.ends e
