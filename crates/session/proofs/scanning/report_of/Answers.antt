use Rattle.std.proofs.Common.{◌≡◌, ◌≤◌, ℕ, length}
use Rattle.std.specs.Prelude.{IfOk, Err}
use Rattle.report_form.specs.declared.report.Report.{Report}
use Rattle.running_rules.specs.Running.{running}
use Rattle.scan_session.specs.declared.fault.ScanFault.TheVariants as faults
use Rattle.scan_session.specs.Sets.{HasMore}
use Rattle.scan_session.specs.Reports.{reported_cmp}
use Rattle.scan_session.specs.Quieted.{grammars_of}
use Rattle.scan_session.specs.Fresh.{IsFresh, IsResult}
use Rattle.session.proofs.Adding.{manner_of, same_manner, after_all}
use Rattle.session.proofs.Telling.{tells}
use Rattle.session.proofs.scanning.report_of.Goals as goal

pub returns : goal.returns
returns g c = record {
  report = λ refused rules most files has sees.
      let first = c.args.scanner.reader.now in
      let still = same_manner c.add_all.new.scanner c.args.scanner c.in_ok-add_all.ensures.same_reader c.in_ok-add_all.ensures.same_traced in
      let scanned = c.in_ok-add_all.ensures.scanned refused rules most files has sees in
      let after = after_all (λ m. grammars_of (g.R.TreeReader.spells m.0) (g.R.TreeReader.knows m.0) (g.R.CommentReader.comments m.0) m.1) (manner_of c.args.scanner) c.add_all.new.scanner still refused rules most files scanned in
      tells (grammars_of (g.R.TreeReader.spells first) (g.R.TreeReader.knows first) (g.R.CommentReader.comments first) c.args.scanner.traced) refused rules most files c.report.result
      (after (λ grammars refused rules most files. IfOk c.report.result (IsFresh grammars refused files rules)) c.report.ensures.fresh)
      (after (λ grammars refused rules most files. IfOk c.report.result (λ report. length report.results ≤ most)) c.report.ensures.few)
      (after (λ grammars refused rules most files. (n : ℕ) → c.report.result ≡ Err (faults.TooMany n) → (n ≡ most) × HasMore reported_cmp (IsResult grammars (running refused rules) files) most) c.report.ensures.too_many)
      (after (λ grammars refused rules most files. IfOk c.report.result (λ report. (r : Report) → IsFresh grammars refused files rules r → r ≡ report)) c.report.ensures.only);
}
