use Rattle.std.proofs.Common.{◌≡◌, ℕ, refl, ap, subst}
use Rattle.std.specs.Prelude.{Err}
use Rattle.scan_session.proofs.FixOrder.{in_order}
use Rattle.workspace.specs.Reports.{readings_of, HasMoreResults}
use Rattle.session.proofs.Fixes.{fix_report, fix_few, fix_over, most_of}
use Rattle.session.proofs.one_fix.fix_once.Goals as goal

pub fix_by-requires : goal.fix_by-requires
fix_by-requires g c = in_order c.in-Ok.report.results c.in-Ok.ensures.report.fresh.results.ordered

pub returns-in-Err-TooMany-clause-too_many : goal.returns-in-Err-TooMany-clause-too_many
returns-in-Err-TooMany-clause-too_many g c n e =
    let r = c.args.rules.now.reader in
    let H : ℕ → Type 0 = λ m. HasMoreResults (readings_of (g.R.TreeReader.spells r) (g.R.TreeReader.knows r) (g.R.CommentReader.comments r) (g.R.PatternReader.writes r) c.args.traced) c.scan_once.new.decided.refused c.args.files.now c.args.rules.now.files m in
    let P : ℕ → Type 0 = λ m. (m ≡ c.args.most) × H m in
    let more = c.in-Err-TooMany.ensures.too_many _ (ap Err c.in-Err-TooMany.field-0-is) in
    subst P (ap most_of e) (refl, subst H more.0 more.1)

pub returns-clause-report : goal.returns-clause-report
returns-clause-report g c = fix_report (let r = c.args.rules.now.reader in readings_of (g.R.TreeReader.spells r) (g.R.TreeReader.knows r) (g.R.CommentReader.comments r) (g.R.PatternReader.writes r) c.args.traced) c.scan_once.new.decided.refused c.args.files.now c.args.rules.now.files c.in-Ok.report c.fix_by.result c.fix_by.ensures.report c.fix_by.ensures.fixed c.in-Ok.ensures.report

pub returns-clause-few : goal.returns-clause-few
returns-clause-few g c = fix_few (let r = c.args.rules.now.reader in readings_of (g.R.TreeReader.spells r) (g.R.TreeReader.knows r) (g.R.CommentReader.comments r) (g.R.PatternReader.writes r) c.args.traced) c.scan_once.new.decided.refused c.args.files.now c.args.rules.now.files c.in-Ok.report c.args.most c.fix_by.result c.fix_by.ensures.report c.in-Ok.ensures.few

pub returns-clause-over : goal.returns-clause-over
returns-clause-over g c kind n e = fix_over (let r = c.args.rules.now.reader in readings_of (g.R.TreeReader.spells r) (g.R.TreeReader.knows r) (g.R.CommentReader.comments r) (g.R.PatternReader.writes r) c.args.traced) c.scan_once.new.decided.refused c.args.files.now c.args.rules.now.files c.in-Ok.report c.args.most kind n c.in-Ok.ensures.report c.in-Ok.ensures.few (c.fix_by.ensures.over kind n e)
