-- A scan of the same files by the same rule files, with the same limit, ends in one way.
use Rattle.std.proofs.Common.{◌≡◌, ℕ, ◌≤◌, List, length, ap, ◌∙◌}
use Rattle.report_form.specs.declared.notice.Notice.{Notice}
use Rattle.report_form.specs.declared.report.Reported.{Reported}
use Rattle.report_form.specs.declared.report.Report.{Report}
use Rattle.rule_files.specs.declared.rule_file.RuleFile.{RuleFile}
use Rattle.file_results.specs.Sets.{HasMore}
use Rattle.running_rules.specs.Notes.{notice_cmp}
use Rattle.running_rules.specs.NoteOrder.{notice_total}
use Rattle.file_results.specs.Reports.{reported_cmp}
use Rattle.file_results.specs.HitOrder.{reported_total}
use Rattle.running_rules.specs.Running.{running}
use Rattle.file_results.specs.Quieted.{Grammars}
use Rattle.scan_session.specs.Fresh.{IsResult, IsFresh}
use Rattle.file_results.specs.Shown.{File}
use Rattle.file_results.proofs.Orders.{exactly_once, few_or_more}

-- two fresh reports are equal
pub fresh_once : (grammars : Grammars) (refused : List (List ℕ)) (files : List File) (rule_files : List RuleFile) (r s : Report) → IsFresh grammars refused files rule_files r → IsFresh grammars refused files rule_files s → r ≡ s
fresh_once grammars refused files rule_files r s h k =
    let f : List Reported → Report = λ rs. record { results = rs; notices = r.notices } in
    let g : List Notice → Report = λ ns. record { results = s.results; notices = ns } in
    ap f (exactly_once reported_cmp reported_total _ r.results s.results h.results k.results) ∙ ap g (exactly_once notice_cmp notice_total _ r.notices s.notices h.notices k.notices)

-- there are not both a fresh report within the limit and more findings than that
pub exclusive : (grammars : Grammars) (refused : List (List ℕ)) (files : List File) (rule_files : List RuleFile) (most : ℕ) (report : Report) → IsFresh grammars refused files rule_files report → length report.results ≤ most → HasMore reported_cmp (IsResult grammars (running refused rule_files) files) most → ⊥
exclusive grammars refused files rule_files most report fresh few more = few_or_more reported_cmp reported_total (IsResult grammars (running refused rule_files) files) most report.results fresh.results few more
