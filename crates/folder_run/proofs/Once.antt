-- Scanning and fixing a told folder end in one way, where there is one way to read its rules.
use Rattle.std.proofs.Common.{◌≡◌, ℕ, Bool, List, [], ◌∷◌, refl, sym, ap, ◌∙◌, subst}
use Rattle.std.specs.Prelude.{Option, None, IsSome}
use Rattle.std.specs.List.{concat}
use Rattle.std.specs.Io.KnownBytes.{Appends}
use Rattle.scan_world.specs.Files.{Files}
use Rattle.file_map.specs.declared.limit.LimitKind.{LimitKind}
use Rattle.rule_map.specs.RuleMap.{PutRuleEnds}
use Rattle.fix_apply.specs.declared.fixed.FixedFile.{FixedFile}
use Rattle.run_status.specs.declared.status.Status.{Status}
use Rattle.run_status.specs.declared.status.Status.TheVariants as statuses
use Rattle.run_status.specs.Ways.{Printed, IsOnlyEnd}
use Rattle.wire_stream.specs.declared.wire.Wire.TheVariants as wires
use Rattle.wire_words.specs.Commands.{Task}
use Rattle.stream_run.specs.Reports.{AreReadOnce}
use Rattle.stream_run.specs.declared.reply.Reply.{Reply}
use Rattle.stream_run.specs.declared.reply.Reply.TheVariants as replies
use Rattle.stream_run.specs.Printed.{lines_of}
use Rattle.stream_run.specs.Doing.{Setting, Shelves, Does, scan, scan_many, fix, fix_many, Passes, fix_over}
use Rattle.stream_run.proofs.Synced.{syncs_once, sync_ends_once, fronts_once, front_or_none}
use Rattle.stream_run.proofs.Settled.{Limit, limit, does_once, passes_once, apart, one_limit, none_or_some}
use Rattle.folder_run.specs.Taking.{TakesNone, no_config, rules_over, files_over, RulesEndOnce}
use Rattle.folder_run.specs.Ends.{TakesFor, ScanEnds, FixEnds, none, too_many, reported, over, fixed, FixPrints, status_of}
use Rattle.folder_run.proofs.Fixes.{nothing_written}

-- the status of a scan that comes to this
abbrev status_by : Bool → Reply → Status
status_by flag (replies.Reported report) = status_of flag report.results
status_by flag _ = statuses.Done

module _ (s : Setting) (told : IsSome s.told) (task : Task) (rules_once : RulesEndOnce s.readings s.told task.config) where
  -- nothing is taken, and the run ends so
  abbrev HasNone : Status → Type 0
  HasNone status = TakesNone s.readings s.told task.config task.prefix status

  -- putting the rules with these bytes ends so
  abbrev PutEnds : List ℕ → Limit → Type 0
  PutEnds bytes passed = PutRuleEnds s.readings.writes [] (task.config, bytes) passed

  same_status : (k j : LimitKind) (n m : ℕ) → (j ≡ k) × (m ≡ n) → statuses.OverLimit j m ≡ statuses.OverLimit k n
  same_status k j n m e = ap (λ (x : LimitKind). statuses.OverLimit x m) e.0 ∙ ap (λ (x : ℕ). statuses.OverLimit k x) e.1

  -- ---- what is taken

  none_or_takes : (status : Status) → HasNone status → (shelves : Shelves) → TakesFor s task shelves → ⊥
  none_or_takes _ (no_config lacks) shelves t = front_or_none s.told told task.config 262145 t.bytes t.read.0 lacks
  none_or_takes _ (rules_over bytes kind n is e) shelves t =
      let same = fronts_once s.told told task.config 262145 bytes t.bytes is t.read.0 in
      none_or_some kind n (limit kind n) (rules_once bytes is None (limit kind n) (subst (λ (b : List ℕ). PutEnds b None) same t.read.1) e) refl
  none_or_takes _ (files_over bytes kind n read e) shelves t = none_or_some kind n (limit kind n) (sync_ends_once s.told told task.prefix [] None (limit kind n) t.within e) refl

  none_once : (a b : Status) → HasNone a → HasNone b → b ≡ a
  none_once _ _ (no_config lacks) (no_config lacks') = refl
  none_once _ _ (no_config lacks) (rules_over bytes kind n is e) = absurd (front_or_none s.told told task.config 262145 bytes is lacks)
  none_once _ _ (no_config lacks) (files_over bytes kind n read e) = absurd (front_or_none s.told told task.config 262145 bytes read.0 lacks)
  none_once _ _ (rules_over bytes kind n is e) (no_config lacks) = absurd (front_or_none s.told told task.config 262145 bytes is lacks)
  none_once _ _ (rules_over bytes kind n is e) (rules_over bytes' kind' n' is' e') =
      let same = fronts_once s.told told task.config 262145 bytes bytes' is is' in
      same_status kind kind' n n' (one_limit kind kind' n n' (rules_once bytes is (limit kind n) (limit kind' n') e (subst (λ (b : List ℕ). PutEnds b (limit kind' n')) same e')))
  none_once _ _ (rules_over bytes kind n is e) (files_over bytes' kind' n' read e') =
      let same = fronts_once s.told told task.config 262145 bytes bytes' is read.0 in
      absurd (none_or_some kind n None refl (rules_once bytes is (limit kind n) None e (subst (λ (b : List ℕ). PutEnds b None) same read.1)))
  none_once _ _ (files_over bytes kind n read e) (no_config lacks) = absurd (front_or_none s.told told task.config 262145 bytes read.0 lacks)
  none_once _ _ (files_over bytes kind n read e) (rules_over bytes' kind' n' is e') =
      let same = fronts_once s.told told task.config 262145 bytes' bytes is read.0 in
      absurd (none_or_some kind' n' None refl (rules_once bytes' is (limit kind' n') None e' (subst (λ (b : List ℕ). PutEnds b None) same read.1)))
  none_once _ _ (files_over bytes kind n read e) (files_over bytes' kind' n' read' e') =
      same_status kind kind' n n' (one_limit kind kind' n n' (sync_ends_once s.told told task.prefix [] (limit kind n) (limit kind' n') e e'))

  takes_once : (x y : Shelves) → TakesFor s task x → TakesFor s task y → y ≡ x
  takes_once x y t u =
      let bytes = fronts_once s.told told task.config 262145 t.bytes u.bytes t.read.0 u.read.0 in
      let files = syncs_once s.told told task.prefix [] x.files y.files t.synced u.synced in
      let rules = u.rules ∙ ap (λ (b : List ℕ). (task.config, b) ∷ []) bytes ∙ sym t.rules in
      ap (λ (fs : Files). record { files = fs; rules = y.rules }) files ∙ ap (λ (fs : Files). record { files = x.files; rules = fs }) rules

  -- what is read once where this was taken is read once in all that is taken
  pub one_taken : (x : Shelves) → TakesFor s task x → AreReadOnce s.readings.writes x.rules → (y : Shelves) → TakesFor s task y → AreReadOnce s.readings.writes y.rules
  one_taken x t once y u = subst (λ (z : Shelves). AreReadOnce s.readings.writes z.rules) (sym (takes_once x y t u)) once

  -- ---- how a scan and fixing end

  module _ (read_once : (x : Shelves) → TakesFor s task x → AreReadOnce s.readings.writes x.rules) where
    -- a fix of what was taken does one thing, or passes one limit
    did_once : (x y a b : Shelves) (p q : Reply) → TakesFor s task x → TakesFor s task y → Does s x wires.Fix a p → Does s y wires.Fix b q → q ≡ p
    did_once x y a b p q t u h k = (does_once s x wires.Fix (λ _. told) (read_once x t) a b p q h (subst (λ (z : Shelves). Does s z wires.Fix b q) (takes_once x y t u) k)).1

    -- and so does a scan
    scanned_once : (x y a b : Shelves) (p q : Reply) → TakesFor s task x → TakesFor s task y → Does s x wires.Scan a p → Does s y wires.Scan b q → q ≡ p
    scanned_once x y a b p q t u h k = (does_once s x wires.Scan (λ _. told) (read_once x t) a b p q h (subst (λ (z : Shelves). Does s z wires.Scan b q) (takes_once x y t u) k)).1

    scans_once : (st other : Status) (ls os : List (List ℕ)) → ScanEnds s task st ls → ScanEnds s task other os → (other ≡ st) × (os ≡ ls)
    scans_once _ _ _ _ (none st t) (none other u) = (none_once st other t u, refl)
    scans_once _ _ _ _ (none st t) (too_many y u more) = absurd (none_or_takes st t y u)
    scans_once _ _ _ _ (none st t) (reported y r u is few) = absurd (none_or_takes st t y u)
    scans_once _ _ _ _ (too_many x t more) (none other u) = absurd (none_or_takes other u x t)
    scans_once _ _ _ _ (too_many x t more) (too_many y u more') = (refl, refl)
    scans_once _ _ _ _ (too_many x t more) (reported y r u is few) =
        let e = scanned_once x y x y (replies.TooMany s.most) (replies.Reported r) t u (scan_many more) (scan r is few) in
        absurd cc
    scans_once _ _ _ _ (reported x r t is few) (none other u) = absurd (none_or_takes other u x t)
    scans_once _ _ _ _ (reported x r t is few) (too_many y u more) =
        let e = scanned_once y x y x (replies.TooMany s.most) (replies.Reported r) u t (scan_many more) (scan r is few) in
        absurd cc
    scans_once _ _ _ _ (reported x r t is few) (reported y q u is' few') =
        let e = scanned_once x y x y (replies.Reported r) (replies.Reported q) t u (scan r is few) (scan q is' few') in
        (ap (status_by task.flag) e, ap lines_of e)

    pub only_scan : (written written_after : Option (List ℕ)) (status : Status) → Printed (ScanEnds s task) written written_after status → IsOnlyEnd (ScanEnds s task) written written_after status
    only_scan written written_after status p other lines ends =
        let same = scans_once status other p.lines lines p.ends ends in
        (same.0, subst (λ (ls : List (List ℕ)). Appends written written_after (concat ls)) (sym same.1) p.printed)

    passed_once : (x y : Shelves) (k j : LimitKind) (n m : ℕ) → TakesFor s task x → TakesFor s task y → Passes s x k n wires.Fix → Passes s y j m wires.Fix → (j ≡ k) × (m ≡ n)
    passed_once x y k j n m t u h i = passes_once s x wires.Fix (λ _. told) (read_once x t) k j n m h (subst (λ (z : Shelves). Passes s z j m wires.Fix) (takes_once x y t u) i)

    not_both : (x y a : Shelves) (p : Reply) (k : LimitKind) (n : ℕ) → TakesFor s task x → TakesFor s task y → Does s x wires.Fix a p → Passes s y k n wires.Fix → ⊥
    not_both x y a p k n t u h i = apart s x wires.Fix (λ _. told) (read_once x t) a p k n h (subst (λ (z : Shelves). Passes s z k n wires.Fix) (takes_once x y t u) i)

    ends_once : (st other : Status) (ls os : List (List ℕ)) (fs gs : List FixedFile) → FixEnds s task st ls fs → FixEnds s task other os gs → (other ≡ st) × (os ≡ ls)
    ends_once _ _ _ _ _ _ (none st t) (none other u) = (none_once st other t u, refl)
    ends_once _ _ _ _ _ _ (none st t) (too_many y u more) = absurd (none_or_takes st t y u)
    ends_once _ _ _ _ _ _ (none st t) (over y k n u p) = absurd (none_or_takes st t y u)
    ends_once _ _ _ _ _ _ (none st t) (fixed y f u is few w) = absurd (none_or_takes st t y u)
    ends_once _ _ _ _ _ _ (too_many x t more) (none other u) = absurd (none_or_takes other u x t)
    ends_once _ _ _ _ _ _ (too_many x t more) (too_many y u more') = (refl, refl)
    ends_once _ _ _ _ _ _ (too_many x t more) (over y k n u p) = absurd (not_both x y x (replies.TooMany s.most) k n t u (fix_many more) (fix_over p))
    ends_once _ _ _ _ _ _ (too_many x t more) (fixed y f u is few w) =
        let e = did_once x y x _ (replies.TooMany s.most) (replies.Fixed f) t u (fix_many more) (fix f is few w) in
        absurd cc
    ends_once _ _ _ _ _ _ (over x k n t p) (none other u) = absurd (none_or_takes other u x t)
    ends_once _ _ _ _ _ _ (over x k n t p) (too_many y u more) = absurd (not_both y x y (replies.TooMany s.most) k n u t (fix_many more) (fix_over p))
    ends_once _ _ _ _ _ _ (over x k n t p) (over y j m u q) = (same_status k j n m (passed_once x y k j n m t u (fix_over p) (fix_over q)), refl)
    ends_once _ _ _ _ _ _ (over x k n t p) (fixed y f u is few w) = absurd (not_both y x _ (replies.Fixed f) k n u t (fix f is few w) (fix_over p))
    ends_once _ _ _ _ _ _ (fixed x f t is few w) (none other u) = absurd (none_or_takes other u x t)
    ends_once _ _ _ _ _ _ (fixed x f t is few w) (too_many y u more) =
        let e = did_once y x y _ (replies.TooMany s.most) (replies.Fixed f) u t (fix_many more) (fix f is few w) in
        absurd cc
    ends_once _ _ _ _ _ _ (fixed x f t is few w) (over y k n u p) = absurd (not_both x y _ (replies.Fixed f) k n t u (fix f is few w) (fix_over p))
    ends_once _ _ _ _ _ _ (fixed x f t is few w) (fixed y h u is' few' w') = (refl, ap lines_of (did_once x y _ _ (replies.Fixed f) (replies.Fixed h) t u (fix f is few w) (fix h is' few' w')))

    pub only_fix : (written written_after : Option (List ℕ)) (status : Status) → Printed (FixPrints s task) written written_after status → IsOnlyEnd (FixPrints s task) written written_after status
    only_fix written written_after status p other lines ends =
        let same = ends_once status other p.lines lines p.ends.0 ends.0 p.ends.1 ends.1 in
        (same.0, subst (λ (ls : List (List ℕ)). Appends written written_after (concat ls)) (sym same.1) p.printed)

  -- the only end where nothing was taken
  pub none_scanned_only : (written : Option (List ℕ)) (status : Status) → HasNone status → IsOnlyEnd (ScanEnds s task) written written status
  none_scanned_only written status taken =
      only_scan (λ x t. absurd (none_or_takes status taken x t)) written written status (record { lines = []; ends = none status taken; printed = nothing_written written })

  pub only_none : (written : Option (List ℕ)) (status : Status) → HasNone status → IsOnlyEnd (FixPrints s task) written written status
  only_none written status taken =
      only_fix (λ x t. absurd (none_or_takes status taken x t)) written written status (record { lines = []; ends = ([], none status taken); printed = nothing_written written })
