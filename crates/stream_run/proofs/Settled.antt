-- A command does one thing, where a folder that it looks into is told, and there is one way to read the rule files that it reads.
use Rattle.std.proofs.Common.{◌≡◌, ℕ, refl, sym, ap, ◌∙◌}
use Rattle.std.specs.Prelude.{Option, Some, None, IsSome}
use Rattle.scan_world.specs.Files.{Files}
use Rattle.file_map.specs.declared.limit.LimitKind.{LimitKind}
use Rattle.file_map.specs.declared.fault.PutFault.{PutFault}
use Rattle.file_map.specs.declared.fault.PutFault.TheVariants as puts
use Rattle.file_map.specs.FileMap.{File, over_limit, TellsPut}
use Rattle.rule_map.specs.RuleMap.{PutRuleEnds}
use Rattle.fix_apply.specs.declared.fixed.FixReport.{FixReport}
use Rattle.report_form.specs.declared.report.Report.{Report}
use Rattle.wire_stream.specs.declared.wire.Wire.{Wire}
use Rattle.workspace.specs.Reports.{Readings}
use Rattle.workspace.specs.Fixes.{files_fixed}
use Rattle.workspace.proofs.Once.{report_once, fix_report_once, not_more}
use Rattle.stream_run.specs.declared.reply.Reply.{Reply}
use Rattle.stream_run.specs.declared.reply.Reply.TheVariants as replies
use Rattle.stream_run.specs.Doing.{Setting, Shelves, Does, put, del, rule, unrule, sync, scan, scan_many, fix, fix_many, done, Passes, put_over, rule_over, sync_over, fix_over}
use Rattle.stream_run.specs.Reading.{PutEndsOnce, ReadsOnce}
use Rattle.stream_run.specs.Still.{IsSync}
use Rattle.stream_run.proofs.Synced.{syncs_once, sync_ends_once}

-- a limit that is passed, with its number, if there is one
abbrev pub Limit : Type 0
Limit = Option (LimitKind × ℕ)

abbrev kind_or : LimitKind → Limit → LimitKind
kind_or kind None = kind
kind_or kind (Some over) = over.0

abbrev number_in : Limit → ℕ
number_in None = 0
number_in (Some over) = over.1

-- that limit, with that number
abbrev pub limit : LimitKind → ℕ → Limit
limit kind n = Some (kind, n)

pub one_limit : (kind j : LimitKind) (n m : ℕ) → limit j m ≡ limit kind n → (j ≡ kind) × (m ≡ n)
one_limit kind j n m e = (ap (kind_or kind) e, ap number_in e)

same_limit : (kind j : LimitKind) (n m : ℕ) (over : Limit) → over ≡ limit kind n → over ≡ limit j m → (j ≡ kind) × (m ≡ n)
same_limit kind j n m over e f = one_limit kind j n m (sym f ∙ e)

pub none_or_some : (kind : LimitKind) (n : ℕ) (over : Limit) → over ≡ None → over ≡ limit kind n → ⊥
none_or_some kind n over e f = let h : limit kind n ≡ None = sym f ∙ e in absurd cc

-- ---- a rule file that was put

module _ (readings : Readings) (rules : Files) (file : File) where
  pub told_once : (told : Limit) → ((over : Limit) → PutRuleEnds readings.writes rules file over → told ≡ over) → PutEndsOnce readings rules file
  told_once told only a b h k = sym (only b k) ∙ only a h

  pub refused_once : (fault : PutFault) → ((over : Limit) → PutRuleEnds readings.writes rules file over → TellsPut (λ told. told ≡ over) fault) → (fault ≡ puts.Memory → ⊥) → PutEndsOnce readings rules file
  refused_once puts.Memory only some = absurd (some refl)
  refused_once (puts.OverLimit kind n) only some = told_once (Some (kind, n)) only

-- ---- commands

module _ (s : Setting) (old : Shelves) where
  pub does_once : (wire : Wire) → (IsSync wire → IsSome s.told) → ReadsOnce s.readings old.rules wire → (a b : Shelves) (p q : Reply) → Does s old wire a p → Does s old wire b q → (b ≡ a) × (q ≡ p)
  does_once _ told once _ _ _ _ (put path bytes w) (put _ _ w') = (refl, refl)
  does_once _ told once _ _ _ _ (del path) (del _) = (refl, refl)
  does_once _ told once _ _ _ _ (rule name bytes w) (rule _ _ w') = (refl, refl)
  does_once _ told once _ _ _ _ (unrule name) (unrule _) = (refl, refl)
  does_once _ told once _ _ _ _ (sync prefix files are w) (sync _ files' are' w') =
      (ap (λ (fs : Files). record { files = fs; rules = old.rules }) (syncs_once s.told (told tt) prefix old.files files files' are are'), refl)
  does_once _ told once _ _ _ _ (scan report is few) (scan report' is' few') = (refl, ap (λ (r : Report). replies.Reported r) (report_once s.readings s.refused old.files old.rules once report report' is is'))
  does_once _ told once _ _ _ _ (scan report is few) (scan_many more) = absurd (not_more s.readings s.refused old.files old.rules once report s.most is few more)
  does_once _ told once _ _ _ _ (scan_many more) (scan report is few) = absurd (not_more s.readings s.refused old.files old.rules once report s.most is few more)
  does_once _ told once _ _ _ _ (scan_many more) (scan_many more') = (refl, refl)
  does_once _ told once _ _ _ _ (fix fixed is few w) (fix fixed' is' few' w') =
      let same = fix_report_once s.readings s.refused old.files old.rules once fixed fixed' is is' in
      (ap (λ (f : FixReport). record { files = files_fixed old.files f.files; rules = old.rules }) same, ap (λ (f : FixReport). replies.Fixed f) same)
  does_once _ told once _ _ _ _ (fix fixed is few w) (fix_many more) = absurd (not_more s.readings s.refused old.files old.rules once fixed.report s.most is.report few more)
  does_once _ told once _ _ _ _ (fix_many more) (fix fixed is few w) = absurd (not_more s.readings s.refused old.files old.rules once fixed.report s.most is.report few more)
  does_once _ told once _ _ _ _ (fix_many more) (fix_many more') = (refl, refl)
  does_once _ told once _ _ _ _ done done = (refl, refl)

  pub passes_once : (wire : Wire) → (IsSync wire → IsSome s.told) → ReadsOnce s.readings old.rules wire → (k j : LimitKind) (n m : ℕ) → Passes s old k n wire → Passes s old j m wire → (j ≡ k) × (m ≡ n)
  passes_once _ told once k j n m (put_over path bytes e) (put_over _ _ f) = same_limit k j n m _ e f
  passes_once _ told once k j n m (rule_over name bytes e) (rule_over _ _ f) = one_limit k j n m (once (Some (k, n)) (Some (j, m)) e f)
  passes_once _ told once k j n m (sync_over prefix e) (sync_over _ f) = one_limit k j n m (sync_ends_once s.told (told tt) prefix old.files (Some (k, n)) (Some (j, m)) e f)
  passes_once _ told once k j n m (fix_over p) (fix_over q) =
      let same = fix_report_once s.readings s.refused old.files old.rules once p.fixed q.fixed p.is q.is in
      same_limit k j n m (over_limit (files_fixed old.files p.fixed.files)) p.passes (sym (ap (λ (f : FixReport). over_limit (files_fixed old.files f.files)) same) ∙ q.passes)

  pub apart : (wire : Wire) → (IsSync wire → IsSome s.told) → ReadsOnce s.readings old.rules wire → (new : Shelves) (reply : Reply) (k : LimitKind) (n : ℕ) → Does s old wire new reply → Passes s old k n wire → ⊥
  apart _ told once _ _ k n (del path) passes = elim passes [ ]
  apart _ told once _ _ k n (unrule name) passes = elim passes [ ]
  apart _ told once _ _ k n (scan report is few) passes = elim passes [ ]
  apart _ told once _ _ k n (scan_many more) passes = elim passes [ ]
  apart _ told once _ _ k n done passes = elim passes [ ]
  apart _ told once _ _ k n (put path bytes w) (put_over _ _ e) = none_or_some k n _ w e
  apart _ told once _ _ k n (rule name bytes w) (rule_over _ _ e) = none_or_some k n (Some (k, n)) (once None (Some (k, n)) w e) refl
  apart _ told once _ _ k n (sync prefix files are w) (sync_over _ e) = none_or_some k n (Some (k, n)) (sync_ends_once s.told (told tt) prefix old.files None (Some (k, n)) w e) refl
  apart _ told once _ _ k n (fix fixed is few w) (fix_over p) =
      let same = fix_report_once s.readings s.refused old.files old.rules once fixed p.fixed is p.is in
      none_or_some k n (over_limit (files_fixed old.files fixed.files)) w (sym (ap (λ (f : FixReport). over_limit (files_fixed old.files f.files)) same) ∙ p.passes)
  apart _ told once _ _ k n (fix_many more) (fix_over p) = not_more s.readings s.refused old.files old.rules once p.fixed.report s.most p.is.report p.few more
