-- A drill ends in one way, where each command reads its rule files in one way.
use Rattle.std.proofs.Common.{◌≡◌, ℕ, suc, List, [], ◌∷◌, ◌++◌, map, codes, refl, sym, ap, ◌∙◌, subst}
use Rattle.std.specs.List.{range_with_len}
use Rattle.file_map.specs.declared.limit.LimitKind.{LimitKind}
use Rattle.report_form.specs.declared.report.Report.{Report}
use Rattle.run_status.specs.declared.status.Status.{Status}
use Rattle.run_status.specs.declared.status.Status.TheVariants.{Done, TooMany, OverLimit}
use Rattle.wire_stream.specs.declared.wire.Wire.{Wire}
use Rattle.wire_stream.specs.declared.wire.Wire.TheVariants as wires
use Rattle.wire_drill.specs.Drill.{file, drill, put_file, rules_text}
use Rattle.stream_run.specs.declared.reply.Reply.{Reply}
use Rattle.stream_run.specs.declared.reply.Reply.TheVariants as replies
use Rattle.stream_run.specs.Doing.{Setting, Shelves, empty_shelves, Does, Passes}
use Rattle.stream_run.specs.Reading.{ReadsOnce}
use Rattle.stream_run.specs.Still.{IsSync}
use Rattle.stream_run.proofs.Chains.{Reach, chains_once}
use Rattle.stream_run.proofs.Settled.{does_once, passes_once, apart}
use Rattle.stream_run.proofs.Sure.{Saying, Anything, Reads}
use Rattle.drill_run.specs.Drilling.{report_in, IsWithin, Drills, begun, more, drill_line, DrillEnds, done, too_many, over, EndsOnlySo}

-- ---- what holds at each command of a drill, and at the one that ends it early

module _ (Q : Saying) {s : Setting} {all : List Wire} where
  abbrev pub AtEach : {left : List Wire} {shelves : Shelves} {reports : List Report} → Drills s all left shelves reports → Type 0
  AtEach begun = Unit {0}
  AtEach (more wire left old new reports reply drills does within) = AtEach drills × Q old wire

module _ (Q : Saying) {s : Setting} {count : ℕ} where
  abbrev pub AtEnd : {status : Status} {lines : List (List ℕ)} → DrillEnds s count status lines → Type 0
  AtEnd (done first second drilled) = AtEach Q drilled.1
  AtEnd (too_many wire left old new reports most drills does) = AtEach Q drills × Q old wire
  AtEnd (over wire left old reports kind n drills passes) = AtEach Q drills × Q old wire

module _ (s : Setting) where
  anything_at_each : (all left : List Wire) (shelves : Shelves) (reports : List Report) (drills : Drills s all left shelves reports) → AtEach Anything drills
  anything_at_each all _ _ _ begun = tt
  anything_at_each all _ _ _ (more wire left old new reports reply drills does within) = (anything_at_each all (wire ∷ left) old reports drills, tt)

  anything_at_end : (count : ℕ) (status : Status) (lines : List (List ℕ)) (ends : DrillEnds s count status lines) → AtEnd Anything ends
  anything_at_end count _ _ (done first second drilled) = anything_at_each (drill count) [] drilled.0 (first ∷ second ∷ []) drilled.1
  anything_at_end count _ _ (too_many wire left old new reports most drills does) = (anything_at_each (drill count) (wire ∷ left) old reports drills, tt)
  anything_at_end count _ _ (over wire left old reports kind n drills passes) = (anything_at_each (drill count) (wire ∷ left) old reports drills, tt)

-- ---- no command of a drill looks into a folder

abbrev LookAway : List Wire → Type 0
LookAway [] = Unit {0}
LookAway (wire ∷ left) = (IsSync wire → ⊥) × LookAway left

files_look_away : (numbers : List ℕ) (left : List Wire) → LookAway left → LookAway (map file numbers ++ left)
files_look_away [] left away = away
files_look_away (n ∷ ns) left away = ((λ h. h), files_look_away ns left away)

drill_looks_away : (count : ℕ) → LookAway (drill count)
drill_looks_away count =
    let away : LookAway (wires.Rule (codes "r") rules_text ∷ wires.Scan ∷ put_file 0 (codes "clean(read())") ∷ wires.Scan ∷ []) = ((λ h. h), ((λ h. h), ((λ h. h), ((λ h. h), tt)))) in
    files_look_away (range_with_len 0 count) (wires.Rule (codes "r") rules_text ∷ wires.Scan ∷ put_file 0 (codes "clean(read())") ∷ wires.Scan ∷ []) away

-- ---- a drill as a chain of commands

-- how far a drill has come: the commands that are left, what is there, and the reports
record Far : Type 0 where
  left : List Wire
  shelves : Shelves
  reports : List Report

abbrev far_at : List Wire → Shelves → List Report → Far
far_at left shelves reports = record { left = left; shelves = shelves; reports = reports }

far_same : (a b : Far) → b.left ≡ a.left → b.shelves ≡ a.shelves → b.reports ≡ a.reports → b ≡ a
far_same a b e f g = ap (λ (x : List Wire). far_at x b.shelves b.reports) e ∙ ap (λ (x : Shelves). far_at a.left x b.reports) f ∙ ap (λ (x : List Report). far_at a.left a.shelves x) g

-- one more command, of which this is said
record Turn (Q : Saying) (s : Setting) (a b : Far) : Type 0 where
  wire : Wire
  reply : Reply
  first : a.left ≡ wire ∷ b.left
  away : IsSync wire → ⊥
  does : Does s a.shelves wire b.shelves reply
  within : IsWithin reply
  reports_are : b.reports ≡ a.reports ++ report_in reply
  said : Q a.shelves wire

-- an end there, at a command of which this is said where one ends it early
data Stops (Q : Saying) (s : Setting) (count : ℕ) (a : Far) : Status → List (List ℕ) → Type 0 where
  at_end : (first second : Report) → a.left ≡ [] → a.reports ≡ first ∷ second ∷ [] → Stops Q s count a Done (drill_line count first second ∷ [])
  at_many : (wire : Wire) (left : List Wire) (new : Shelves) (most : ℕ) → a.left ≡ wire ∷ left → (IsSync wire → ⊥) → Does s a.shelves wire new (replies.TooMany most) → Q a.shelves wire → Stops Q s count a (TooMany most) []
  at_over : (wire : Wire) (left : List Wire) (kind : LimitKind) (n : ℕ) → a.left ≡ wire ∷ left → (IsSync wire → ⊥) → Passes s a.shelves kind n wire → Q a.shelves wire → Stops Q s count a (OverLimit kind n) []

abbrev Stopped : Saying → Setting → ℕ → Far → Type 0
Stopped Q s count a = (status : Status) × (lines : List (List ℕ)) × Stops Q s count a status lines

-- a drill as a chain: so many commands, and its end there
record Chained (Q : Saying) (s : Setting) (count : ℕ) (status : Status) (lines : List (List ℕ)) : Type 0 where
  far : Far
  steps : ℕ
  reach : Reach (far_at (drill count) empty_shelves []) (Turn Q s) steps far
  stops : Stops Q s count far status lines

-- so many commands come so far, and none of those that are left looks into a folder
record Reached (Q : Saying) (s : Setting) (all left : List Wire) (shelves : Shelves) (reports : List Report) : Type 0 where
  steps : ℕ
  reach : Reach (far_at all empty_shelves []) (Turn Q s) steps (far_at left shelves reports)
  away : LookAway left

module _ (Q : Saying) (s : Setting) where
  reached : (all left : List Wire) (shelves : Shelves) (reports : List Report) (drills : Drills s all left shelves reports) → LookAway all → AtEach Q drills → Reached Q s all left shelves reports
  reached all _ _ _ begun away said = record { steps = 0; reach = refl; away = away }
  reached all _ _ _ (more wire left old new reports reply drills does within) away said =
      let r = reached all (wire ∷ left) old reports drills away said.0 in
      record {
        steps = suc r.steps;
        reach = (far_at (wire ∷ left) old reports, r.reach, record { wire = wire; reply = reply; first = refl; away = r.away.0; does = does; within = within; reports_are = refl; said = said.1 });
        away = r.away.1;
      }

  chained : (count : ℕ) (status : Status) (lines : List (List ℕ)) (ends : DrillEnds s count status lines) → AtEnd Q ends → Chained Q s count status lines
  chained count _ _ (done first second drilled) said =
      let r = reached (drill count) [] drilled.0 (first ∷ second ∷ []) drilled.1 (drill_looks_away count) said in
      record { far = far_at [] drilled.0 (first ∷ second ∷ []); steps = r.steps; reach = r.reach; stops = at_end first second refl refl }
  chained count _ _ (too_many wire left old new reports most drills does) said =
      let r = reached (drill count) (wire ∷ left) old reports drills (drill_looks_away count) said.0 in
      record { far = far_at (wire ∷ left) old reports; steps = r.steps; reach = r.reach; stops = at_many wire left new most refl r.away.0 does said.1 }
  chained count _ _ (over wire left old reports kind n drills passes) said =
      let r = reached (drill count) (wire ∷ left) old reports drills (drill_looks_away count) said.0 in
      record { far = far_at (wire ∷ left) old reports; steps = r.steps; reach = r.reach; stops = at_over wire left kind n refl r.away.0 passes said.1 }

-- ---- two chains of one drill, of one of which it is said that its commands read in one way

first_same : (w v : Wire) (xs ys : List Wire) → w ∷ xs ≡ v ∷ ys → w ≡ v
first_same w v xs ys e = cc

rest_same : (w v : Wire) (xs ys : List Wire) → w ∷ xs ≡ v ∷ ys → xs ≡ ys
rest_same w v xs ys e = cc

none_or_first : (w : Wire) (xs left : List Wire) → left ≡ [] → left ≡ w ∷ xs → ⊥
none_or_first w xs left e f = let h : w ∷ xs ≡ [] = sym f ∙ e in absurd cc

same_line : (count : ℕ) (a b c d : Report) → a ∷ b ∷ [] ≡ c ∷ d ∷ [] → drill_line count a b ∷ [] ≡ drill_line count c d ∷ []
same_line count a b c d e =
    let first : a ≡ c = cc in
    let second : b ≡ d = cc in
    ap (λ (r : Report). drill_line count r b ∷ []) first ∙ ap (λ (r : Report). drill_line count c r ∷ []) second

same_many : (n m : ℕ) → replies.TooMany n ≡ replies.TooMany m → TooMany n ≡ TooMany m
same_many n m e = let same : n ≡ m = cc in ap TooMany same

module _ (s : Setting) (Q R : Saying) (either : (old : Shelves) (wire : Wire) → Q old wire → R old wire → ReadsOnce s.readings old.rules wire) where
  turn_once : (a b c : Far) → Turn Q s a b → Turn R s a c → c ≡ b
  turn_once a b c t u =
      let both = sym u.first ∙ t.first in
      let same = first_same u.wire t.wire c.left b.left both in
      let once = either a.shelves t.wire t.said (subst (R a.shelves) same u.said) in
      let one = does_once s a.shelves t.wire (λ h. absurd (t.away h)) once b.shelves c.shelves t.reply u.reply t.does (subst (λ (w : Wire). Does s a.shelves w c.shelves u.reply) same u.does) in
      far_same b c (rest_same u.wire t.wire c.left b.left both) one.0 (u.reports_are ∙ ap (λ (r : Reply). a.reports ++ report_in r) one.1 ∙ sym t.reports_are)

  stops_no_turn : (count : ℕ) (a b : Far) (status : Status) (lines : List (List ℕ)) → Stops Q s count a status lines → Turn R s a b → ⊥
  stops_no_turn count a b _ _ (at_end first second none are) t = none_or_first t.wire b.left a.left none t.first
  stops_no_turn count a b _ _ (at_many wire left new most first away does said) t =
      let same = first_same t.wire wire b.left left (sym t.first ∙ first) in
      let once = either a.shelves wire said (subst (R a.shelves) same t.said) in
      let one = does_once s a.shelves wire (λ h. absurd (away h)) once new b.shelves (replies.TooMany most) t.reply does (subst (λ (w : Wire). Does s a.shelves w b.shelves t.reply) same t.does) in
      subst IsWithin one.1 t.within
  stops_no_turn count a b _ _ (at_over wire left kind n first away passes said) t =
      let same = first_same t.wire wire b.left left (sym t.first ∙ first) in
      let once = either a.shelves wire said (subst (R a.shelves) same t.said) in
      apart s a.shelves wire (λ h. absurd (away h)) once b.shelves t.reply kind n (subst (λ (w : Wire). Does s a.shelves w b.shelves t.reply) same t.does) passes

  module _ (count : ℕ) (a : Far) where
    stops_once : (st other : Status) (ls os : List (List ℕ)) → Stops Q s count a st ls → Stops R s count a other os → (other ≡ st) × (os ≡ ls)
    stops_once _ _ _ _ (at_end first second none are) (at_end first' second' none' are') = (refl, same_line count first' second' first second (sym are' ∙ are))
    stops_once _ _ _ _ (at_end first second none are) (at_many wire left new most f away does r) = absurd (none_or_first wire left a.left none f)
    stops_once _ _ _ _ (at_end first second none are) (at_over wire left kind n f away passes r) = absurd (none_or_first wire left a.left none f)
    stops_once _ _ _ _ (at_many wire left new most f away does q) (at_end first second none are) = absurd (none_or_first wire left a.left none f)
    stops_once _ _ _ _ (at_many wire left new most f away does q) (at_many wire' left' new' most' f' away' does' r) =
        let same = first_same wire' wire left' left (sym f' ∙ f) in
        let once = either a.shelves wire q (subst (R a.shelves) same r) in
        let one = does_once s a.shelves wire (λ h. absurd (away h)) once new new' (replies.TooMany most) (replies.TooMany most') does (subst (λ (w : Wire). Does s a.shelves w new' (replies.TooMany most')) same does') in
        (same_many most' most one.1, refl)
    stops_once _ _ _ _ (at_many wire left new most f away does q) (at_over wire' left' kind n f' away' passes r) =
        let same = first_same wire' wire left' left (sym f' ∙ f) in
        let once = either a.shelves wire q (subst (R a.shelves) same r) in
        absurd (apart s a.shelves wire (λ h. absurd (away h)) once new (replies.TooMany most) kind n does (subst (λ (w : Wire). Passes s a.shelves kind n w) same passes))
    stops_once _ _ _ _ (at_over wire left kind n f away passes q) (at_end first second none are) = absurd (none_or_first wire left a.left none f)
    stops_once _ _ _ _ (at_over wire left kind n f away passes q) (at_many wire' left' new most f' away' does r) =
        let same = first_same wire' wire left' left (sym f' ∙ f) in
        let once = either a.shelves wire q (subst (R a.shelves) same r) in
        absurd (apart s a.shelves wire (λ h. absurd (away h)) once new (replies.TooMany most) kind n (subst (λ (w : Wire). Does s a.shelves w new (replies.TooMany most)) same does) passes)
    stops_once _ _ _ _ (at_over wire left kind n f away passes q) (at_over wire' left' kind' n' f' away' passes' r) =
        let same = first_same wire' wire left' left (sym f' ∙ f) in
        let once = either a.shelves wire q (subst (R a.shelves) same r) in
        let e = passes_once s a.shelves wire (λ h. absurd (away h)) once kind kind' n n' passes (subst (λ (w : Wire). Passes s a.shelves kind' n' w) same passes') in
        (ap (λ (k : LimitKind). OverLimit k n') e.0 ∙ ap (λ (m : ℕ). OverLimit kind m) e.1, refl)

module _ (s : Setting) where
  sure_first : (old : Shelves) (wire : Wire) → Reads s old wire → Anything old wire → ReadsOnce s.readings old.rules wire
  sure_first old wire sure _ = sure

  sure_second : (old : Shelves) (wire : Wire) → Anything old wire → Reads s old wire → ReadsOnce s.readings old.rules wire
  sure_second old wire _ sure = sure

  pub only_end : (count : ℕ) (status : Status) (lines : List (List ℕ)) (ends : DrillEnds s count status lines) → AtEnd (Reads s) ends → EndsOnlySo s count status lines
  only_end count status lines ends sure other others other_ends =
      let start = far_at (drill count) empty_shelves [] in
      let x = chained (Reads s) s count status lines ends sure in
      let y = chained Anything s count other others other_ends (anything_at_end s count other others other_ends) in
      let same : y.far ≡ x.far =
      chains_once start (Turn (Reads s) s) (Turn Anything s) (turn_once s (Reads s) Anything sure_first) (Stopped (Reads s) s count) (Stopped Anything s count)
      (λ a b h t. stops_no_turn s (Reads s) Anything sure_first count a b h.0 h.1 h.2 t) (λ a b t h. stops_no_turn s Anything (Reads s) sure_second count a b h.0 h.1 h.2 t)
      x.steps y.steps x.far y.far x.reach (status, lines, x.stops) y.reach (other, others, y.stops) in
      stops_once s (Reads s) Anything sure_first count x.far status other lines others x.stops (subst (λ (a : Far). Stops Anything s count a other others) same y.stops)
