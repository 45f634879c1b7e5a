-- A session of a told stream over a told folder ends in one way, where each command reads its rule files in one way.
use Rattle.std.proofs.Common.{◌≡◌, ◌≢◌, ◌≤◌, ◌+◌, ◌-◌, ℕ, suc, List, [], ◌++◌, length, refl, sym, ap, ◌∙◌, subst, arith}
use Rattle.std.specs.Prelude.{Option, Some, None, IsSome}
use Rattle.std.specs.List.{concat}
use Rattle.std.specs.Io.KnownBytes.{Appends}
use Rattle.file_map.specs.declared.limit.LimitKind.{LimitKind}
use Rattle.file_map.specs.declared.limit.LimitKind.TheVariants.{Stream}
use Rattle.run_status.specs.declared.status.Status.{Status}
use Rattle.run_status.specs.declared.status.Status.TheVariants.{Done, BadCommand, OverLimit}
use Rattle.run_status.specs.Ways.{IsOnlyEnd}
use Rattle.wire_stream.specs.declared.wire.Wire.{Wire}
use Rattle.wire_stream.specs.declared.wire.Wire.TheVariants as wires
use Rattle.wire_stream.specs.Lines.{Line}
use Rattle.wire_stream.specs.Commands.{command_bytes, wire_of, Begins, BeginsNone}
use Rattle.wire_stream.specs.Streams.{OfStream}
use Rattle.wire_stream.specs.Feeds.{BeginsLonger}
use Rattle.wire_stream.proofs.Commands.{same_command}
use Rattle.stream_run.specs.declared.reply.Reply.{Reply}
use Rattle.stream_run.specs.declared.reply.Reply.TheVariants as replies
use Rattle.stream_run.specs.Printed.{lines_of}
use Rattle.stream_run.specs.Doing.{Setting, Shelves, empty_shelves, Does, done, Passes}
use Rattle.stream_run.specs.Playing.{GoesOn, Plays, begun, more, SessionEnds, ended, bad, long, over, PrintsEnd}
use Rattle.stream_run.specs.Reading.{ReadsOnce}
use Rattle.stream_run.proofs.Chains.{Reach, chains_once}
use Rattle.stream_run.proofs.Settled.{does_once, passes_once, apart}
use Rattle.stream_run.proofs.Synced.{one_whole}
use Rattle.stream_run.proofs.Sure.{Saying, Anything, Reads, AtEach, AtEnd, SureEnd, anything_at_end}

-- ---- a stream begins with one command at most

goes_begins : (l r : List ℕ) (w : Wire) (n : ℕ) → (g : GoesOn (Some l) w n (Some r)) → Begins l g.line g.body r
goes_begins l r w n g = record { good = g.good; whole = g.whole; are = g.uses }

goes_once : (l : List ℕ) (w v : Wire) (m n : ℕ) (a b : Option (List ℕ)) → GoesOn (Some l) w m a → GoesOn (Some l) v n b → (v ≡ w) × (n ≡ m) × (b ≡ a)
goes_once l w v m n None b g h = absurd g.uses
goes_once l w v m n (Some x) None g h = absurd h.uses
goes_once l w v m n (Some x) (Some y) g h =
    let e = same_command l g.line h.line g.body h.body x y (goes_begins l x w m g) (goes_begins l y v n h) in (
      h.is ∙ ap (λ (k : List ℕ). wire_of h.line k) (sym e.1) ∙ ap (λ (k : Line). wire_of k g.body) (sym e.0) ∙ sym g.is,
      h.counted ∙ ap (λ (k : List ℕ). length (command_bytes h.line k)) (sym e.1) ∙ ap (λ (k : Line). length (command_bytes k g.body)) (sym e.0) ∙ sym g.counted,
      ap (λ (k : List ℕ). Some k) (sym e.2),
    )

no_command : (l : List ℕ) (w : Wire) (n : ℕ) (rest : Option (List ℕ)) → GoesOn (Some l) w n rest → BeginsNone l → ⊥
no_command l w n None g none = g.uses
no_command l w n (Some r) g none = none g.line g.body r (goes_begins l r w n g)

no_longer : (l : List ℕ) (w : Wire) (n most : ℕ) (rest : Option (List ℕ)) → GoesOn (Some l) w n rest → BeginsLonger most l → n ≤ most → ⊥
no_longer l w n most None g b few = g.uses
no_longer l w n most (Some r) g b few =
    let e = same_command l g.line b.line g.body b.body r b.rest (goes_begins l r w n g) b.begins in
    let same : length (command_bytes b.line b.body) ≡ length (command_bytes g.line g.body) =
    ap (λ (k : List ℕ). length (command_bytes b.line k)) (sym e.1) ∙ ap (λ (k : Line). length (command_bytes k g.body)) (sym e.0) in
    let count = g.counted in
    let longer = b.longer in
    omega (arith, same, count, longer, few)

-- ---- a session as a chain of commands

-- how far a session has come, with what is left of its stream
record Far : Type 0 where
  place : ℕ
  lines : List (List ℕ)
  shelves : Shelves
  left : List ℕ

abbrev far_at : ℕ → List (List ℕ) → Shelves → List ℕ → Far
far_at place lines shelves left = record { place = place; lines = lines; shelves = shelves; left = left }

abbrev start : List ℕ → Far
start stream = far_at 0 [] empty_shelves stream

far_same : (a b : Far) → b.place ≡ a.place → b.lines ≡ a.lines → b.shelves ≡ a.shelves → b.left ≡ a.left → b ≡ a
far_same a b e f g h =
    ap (λ (x : ℕ). far_at x b.lines b.shelves b.left) e ∙ ap (λ (x : List (List ℕ)). far_at a.place x b.shelves b.left) f
    ∙ ap (λ (x : Shelves). far_at a.place a.lines x b.left) g ∙ ap (λ (x : List ℕ). far_at a.place a.lines a.shelves x) h

-- one more command, of which this is said
record Turn (Q : Saying) (s : Setting) (a b : Far) : Type 0 where
  count : ℕ
  wire : Wire
  reply : Reply
  goes : GoesOn (Some a.left) wire count (Some b.left)
  some : wire ≢ wires.End
  within : a.place + count ≤ 268435456
  does : Does s a.shelves wire b.shelves reply
  place_is : b.place ≡ a.place + count
  lines_are : b.lines ≡ a.lines ++ lines_of reply
  said : Q a.shelves wire

-- an end there, at a command of which this is said where it passes a limit
data Stops (Q : Saying) (s : Setting) (a : Far) : Status → Type 0 where
  at_end : (count : ℕ) (rest : Option (List ℕ)) → GoesOn (Some a.left) wires.End count rest → a.place + count ≤ 268435456 → Stops Q s a Done
  at_bad : BeginsNone a.left → Stops Q s a (BadCommand a.place)
  at_long : BeginsLonger (268435456 - a.place) a.left → Stops Q s a (OverLimit Stream 268435457)
  at_over : (count : ℕ) (rest : Option (List ℕ)) (wire : Wire) (kind : LimitKind) (n : ℕ) → GoesOn (Some a.left) wire count rest → a.place + count ≤ 268435456 → Passes s a.shelves kind n wire → Q a.shelves wire
      → Stops Q s a (OverLimit kind n)

abbrev Stopped : Saying → Setting → Far → Type 0
Stopped Q s a = (status : Status) × Stops Q s a status

-- a session as a chain: so many commands, and its end there
record Chained (Q : Saying) (s : Setting) (stream : List ℕ) (status : Status) (lines : List (List ℕ)) : Type 0 where
  far : Far
  count : ℕ
  reach : Reach (start stream) (Turn Q s) count far
  stops : Stops Q s far status
  are : lines ≡ far.lines

-- so many commands come so far, and what is left is told
record Reached (Q : Saying) (s : Setting) (stream : List ℕ) (place : ℕ) (lines : List (List ℕ)) (shelves : Shelves) (left : Option (List ℕ)) : Type 0 where
  rest : List ℕ
  told : left ≡ Some rest
  count : ℕ
  reach : Reach (start stream) (Turn Q s) count (far_at place lines shelves rest)

module _ (Q : Saying) (s : Setting) (stream : List ℕ) where
  told_after : (l : List ℕ) (w : Wire) (n : ℕ) (rest : Option (List ℕ)) → GoesOn (Some l) w n rest → (r : List ℕ) × (rest ≡ Some r)
  told_after l w n (Some r) g = (r, refl)
  told_after l w n None g = absurd g.uses

  reached : (place : ℕ) (lines : List (List ℕ)) (shelves : Shelves) (left : Option (List ℕ)) (plays : Plays s (Some stream) place lines shelves left) → AtEach Q plays → Reached Q s stream place lines shelves left
  reached _ _ _ _ begun said = record { rest = stream; told = refl; count = 0; reach = refl }
  reached _ _ _ _ (more place count lines old shelves left rest wire reply plays goes some within does) said =
      let r = reached place lines old left plays said.0 in
      let on = subst (λ (x : Option (List ℕ)). GoesOn x wire count rest) r.told goes in
      let t = told_after r.rest wire count rest on in
      record {
        rest = t.0;
        told = t.1;
        count = suc r.count;
        reach = (
          far_at place lines old r.rest,
          r.reach,
          record {
            count = count;
            wire = wire;
            reply = reply;
            goes = subst (λ (x : Option (List ℕ)). GoesOn (Some r.rest) wire count x) t.1 on;
            some = some;
            within = within;
            does = does;
            place_is = refl;
            lines_are = refl;
            said = said.1;
          },
        );
      }

  chained : (status : Status) (lines : List (List ℕ)) (ends : SessionEnds s (Some stream) status lines) → AtEnd Q ends → Chained Q s stream status lines
  chained _ _ (ended place count lines shelves left rest plays goes within) said =
      let r = reached place lines shelves left plays said in
      record {
        far = far_at place lines shelves r.rest;
        count = r.count;
        reach = r.reach;
        stops = at_end count rest (subst (λ (x : Option (List ℕ)). GoesOn x wires.End count rest) r.told goes) within;
        are = refl;
      }
  chained _ _ (bad place lines shelves left plays none) said =
      let r = reached place lines shelves left plays said in
      record { far = far_at place lines shelves r.rest; count = r.count; reach = r.reach; stops = at_bad (subst (λ (x : Option (List ℕ)). OfStream x [] BeginsNone) r.told none); are = refl }
  chained _ _ (long place lines shelves left plays longer) said =
      let r = reached place lines shelves left plays said in
      record { far = far_at place lines shelves r.rest; count = r.count; reach = r.reach; stops = at_long (subst (λ (x : Option (List ℕ)). OfStream x [] (BeginsLonger (268435456 - place))) r.told longer); are = refl }
  chained _ _ (over place count lines shelves left rest wire kind n plays goes within passes) said =
      let r = reached place lines shelves left plays said.0 in
      record {
        far = far_at place lines shelves r.rest;
        count = r.count;
        reach = r.reach;
        stops = at_over count rest wire kind n (subst (λ (x : Option (List ℕ)). GoesOn x wire count rest) r.told goes) within passes said.1;
        are = refl;
      }

-- ---- two chains of one session, of one of which it is said that its commands read in one way

module _ (s : Setting) (told : IsSome s.told) (Q R : Saying) (either : (old : Shelves) (wire : Wire) → Q old wire → R old wire → ReadsOnce s.readings old.rules wire) where
  turn_once : (a b c : Far) → Turn Q s a b → Turn R s a c → c ≡ b
  turn_once a b c t u =
      let same = goes_once a.left t.wire u.wire t.count u.count (Some b.left) (Some c.left) t.goes u.goes in
      let once = either a.shelves t.wire t.said (subst (R a.shelves) same.0 u.said) in
      let one = does_once s a.shelves t.wire (λ _. told) once b.shelves c.shelves t.reply u.reply t.does (subst (λ (w : Wire). Does s a.shelves w c.shelves u.reply) same.0 u.does) in
      far_same b c (u.place_is ∙ ap (λ (n : ℕ). a.place + n) same.1 ∙ sym t.place_is) (u.lines_are ∙ ap (λ (r : Reply). a.lines ++ lines_of r) one.1 ∙ sym t.lines_are) one.0 (one_whole c.left b.left same.2)

  stops_no_turn : (a b : Far) (status : Status) → Stops Q s a status → Turn R s a b → ⊥
  stops_no_turn a b _ (at_end count rest goes within) t = t.some ((goes_once a.left wires.End t.wire count t.count rest (Some b.left) goes t.goes).0)
  stops_no_turn a b _ (at_bad none) t = no_command a.left t.wire t.count (Some b.left) t.goes none
  stops_no_turn a b _ (at_long longer) t = let within = t.within in no_longer a.left t.wire t.count (268435456 - a.place) (Some b.left) t.goes longer (omega (arith, within))
  stops_no_turn a b _ (at_over count rest wire kind n goes within passes said) t =
      let same = goes_once a.left wire t.wire count t.count rest (Some b.left) goes t.goes in
      let once = either a.shelves wire said (subst (R a.shelves) same.0 t.said) in
      apart s a.shelves wire (λ _. told) once b.shelves t.reply kind n (subst (λ (w : Wire). Does s a.shelves w b.shelves t.reply) same.0 t.does) passes

  end_passes : (shelves : Shelves) (kind : LimitKind) (n : ℕ) (w : Wire) → w ≡ wires.End → Passes s shelves kind n w → ⊥
  end_passes shelves kind n w e p = apart s shelves wires.End (λ _. told) tt shelves replies.Done kind n done (subst (λ (x : Wire). Passes s shelves kind n x) e p)

  module _ (a : Far) where
    stops_once : (st other : Status) → Stops Q s a st → Stops R s a other → other ≡ st
    stops_once _ _ (at_end m x g w) (at_end n y h v) = refl
    stops_once _ _ (at_end m x g w) (at_bad none) = absurd (no_command a.left wires.End m x g none)
    stops_once _ _ (at_end m x g w) (at_long longer) = absurd (no_longer a.left wires.End m (268435456 - a.place) x g longer (omega (arith, w)))
    stops_once _ _ (at_end m x g w) (at_over n y wire kind k h v p r) = absurd (end_passes a.shelves kind k wire ((goes_once a.left wires.End wire m n x y g h).0) p)
    stops_once _ _ (at_bad none) (at_end n y h v) = absurd (no_command a.left wires.End n y h none)
    stops_once _ _ (at_bad none) (at_bad none') = refl
    stops_once _ _ (at_bad none) (at_long longer) = absurd (none longer.line longer.body longer.rest longer.begins)
    stops_once _ _ (at_bad none) (at_over n y wire kind k h v p r) = absurd (no_command a.left wire n y h none)
    stops_once _ _ (at_long longer) (at_end n y h v) = absurd (no_longer a.left wires.End n (268435456 - a.place) y h longer (omega (arith, v)))
    stops_once _ _ (at_long longer) (at_bad none) = absurd (none longer.line longer.body longer.rest longer.begins)
    stops_once _ _ (at_long longer) (at_long longer') = refl
    stops_once _ _ (at_long longer) (at_over n y wire kind k h v p r) = absurd (no_longer a.left wire n (268435456 - a.place) y h longer (omega (arith, v)))
    stops_once _ _ (at_over m x w j i g v q said) (at_end n y h u) = absurd (end_passes a.shelves j i w ((goes_once a.left wires.End w n m y x h g).0) q)
    stops_once _ _ (at_over m x w j i g v q said) (at_bad none) = absurd (no_command a.left w m x g none)
    stops_once _ _ (at_over m x w j i g v q said) (at_long longer) = absurd (no_longer a.left w m (268435456 - a.place) x g longer (omega (arith, v)))
    stops_once _ _ (at_over m x w j i g v q said) (at_over n y wire kind k h u p r) =
        let same = goes_once a.left w wire m n x y g h in
        let once = either a.shelves w said (subst (R a.shelves) same.0 r) in
        let e = passes_once s a.shelves w (λ _. told) once j kind i k q (subst (λ (z : Wire). Passes s a.shelves kind k z) same.0 p) in
        ap (λ (z : LimitKind). OverLimit z k) e.0 ∙ ap (λ (z : ℕ). OverLimit j z) e.1

module _ (s : Setting) (told : IsSome s.told) (stream : List ℕ) where
  sure_first : (old : Shelves) (wire : Wire) → Reads s old wire → Anything old wire → ReadsOnce s.readings old.rules wire
  sure_first old wire sure _ = sure

  sure_second : (old : Shelves) (wire : Wire) → Anything old wire → Reads s old wire → ReadsOnce s.readings old.rules wire
  sure_second old wire _ sure = sure

  pub only_end : (st other : Status) (lines others : List (List ℕ)) (ends : SessionEnds s (Some stream) st lines) → SureEnd ends → SessionEnds s (Some stream) other others → (other ≡ st) × (others ≡ lines)
  only_end st other lines others ends sure other_ends =
      let x = chained (Reads s) s stream st lines ends sure in
      let y = chained Anything s stream other others other_ends (anything_at_end s (Some stream) other others other_ends) in
      let same : y.far ≡ x.far =
      chains_once (start stream) (Turn (Reads s) s) (Turn Anything s) (turn_once s told (Reads s) Anything sure_first) (Stopped (Reads s) s) (Stopped Anything s)
      (λ a b h t. stops_no_turn s told (Reads s) Anything sure_first a b h.0 h.1 t) (λ a b t h. stops_no_turn s told Anything (Reads s) sure_second a b h.0 h.1 t)
      x.count y.count x.far y.far x.reach (st, x.stops) y.reach (other, y.stops) in (
        stops_once s told (Reads s) Anything sure_first x.far st other x.stops (subst (λ (a : Far). Stops Anything s a other) same y.stops),
        y.are ∙ ap (λ (a : Far). a.lines) same ∙ sym x.are,
      )

-- the lines of a session that are those of its end are those of its only end
pub only_way : (s : Setting) (stream written written_after : Option (List ℕ)) (status : Status) (prints : PrintsEnd s stream written written_after status) → SureEnd prints.ends → IsSome stream → IsSome s.told
    → IsOnlyEnd (SessionEnds s stream) written written_after status
only_way s None written written_after status prints sure some told other others ends = absurd (no_stream some)
  where
    no_stream : IsSome {T = List ℕ} None → ⊥
    no_stream e = absurd cc
only_way s (Some stream) written written_after status prints sure some told other others ends =
    let same = only_end s told stream status other prints.lines others prints.ends sure ends in
    (same.0, subst (λ (lines : List (List ℕ)). Appends written written_after (concat lines)) (sym same.1) prints.printed)
