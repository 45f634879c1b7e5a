use Rattle.std.proofs.Common.{◌≡◌, ℕ, sym, ap, ◌∙◌, subst}
use Rattle.std.specs.Prelude.{Err, IfOk}
use Rattle.scan_world.specs.Files.{Files}
use Rattle.file_map.specs.FileMap.{over_limit}
use Rattle.scan_session.proofs.FixOrder.{in_order}
use Rattle.workspace.specs.State.{State}
use Rattle.workspace.specs.Reports.{readings_of, HasMoreResults}
use Rattle.workspace.specs.Fixes.{AreFixed, files_fixed}
use Rattle.session.specs.Sessions.{FixesOver}
use Rattle.session.proofs.Fixes.{fix_report, fix_few, fix_only, fix_over, most_of}
use Rattle.session.proofs.session.SessionWorkspace.fix.Goals as goal

pub returns-in-Err-TooMany-clause-too_many : goal.returns-in-Err-TooMany-clause-too_many
returns-in-Err-TooMany-clause-too_many g c n e =
    let r = c.args.self.now.scans.rules.reader in
    let P : ℕ → Type 0 = λ m. (m ≡ c.args.self.now.most) × HasMoreResults (readings_of (g.R.TreeReader.spells r) (g.R.TreeReader.knows r) (g.R.CommentReader.comments r) (g.R.PatternReader.writes r) c.args.self.now.scans.traced) c.scan.new.self.scans.decided.refused c.args.self.now.files c.args.self.now.scans.rules.files m in
    subst P (ap most_of e) (c.in-Err-TooMany.ensures.too_many c.in-Err-TooMany.most (ap Err c.in-Err-TooMany.field-0-is))

pub returns-in-Err-TooMany-clause-leaves : goal.returns-in-Err-TooMany-clause-leaves
returns-in-Err-TooMany-clause-leaves g c other = let many = c.in-Err-TooMany.field-0-is in c.in-Err-TooMany.ensures.leaves (λ e. absurd cc)

pub fix_by-requires : goal.fix_by-requires
fix_by-requires g c = in_order c.in-Ok.report.results c.in-Ok.ensures.report.fresh.results.ordered

pub returns-clause-report : goal.returns-clause-report
returns-clause-report g c =
    let r = c.args.self.now.scans.rules.reader in
    let F : Files → Type 0 = λ fs. IfOk c.fix_by.result (λ f. AreFixed c.in-Ok.report.results fs f.files) in
    fix_report (readings_of (g.R.TreeReader.spells r) (g.R.TreeReader.knows r) (g.R.CommentReader.comments r) (g.R.PatternReader.writes r) c.args.self.now.scans.traced) c.scan.new.self.scans.decided.refused c.args.self.now.files c.args.self.now.scans.rules.files c.in-Ok.report
    c.fix_by.result c.fix_by.ensures.report (subst F (ap (λ (s : State). s.files) c.in-Ok.ensures.same) c.fix_by.ensures.fixed) c.in-Ok.ensures.report

pub returns-clause-few : goal.returns-clause-few
returns-clause-few g c =
    let r = c.args.self.now.scans.rules.reader in
    fix_few (readings_of (g.R.TreeReader.spells r) (g.R.TreeReader.knows r) (g.R.CommentReader.comments r) (g.R.PatternReader.writes r) c.args.self.now.scans.traced) c.scan.new.self.scans.decided.refused c.args.self.now.files c.args.self.now.scans.rules.files c.in-Ok.report
    c.args.self.now.most c.fix_by.result c.fix_by.ensures.report c.in-Ok.ensures.few

pub returns-clause-put : goal.returns-clause-put
returns-clause-put g c =
    let F : Files → Type 0 = λ fs. IfOk c.fix_by.result (λ f. c.fix_by.new.files ≡ files_fixed fs f.files) in
    subst F (ap (λ (s : State). s.files) c.in-Ok.ensures.same) c.fix_by.ensures.put

pub returns-clause-within : goal.returns-clause-within
returns-clause-within g c =
    let F : Files → Type 0 = λ fs. IfOk c.fix_by.result (λ f. over_limit (files_fixed fs f.files) ≡ _) in
    subst F (ap (λ (s : State). s.files) c.in-Ok.ensures.same) c.fix_by.ensures.within

pub returns-clause-only : goal.returns-clause-only
returns-clause-only g c =
    let r = c.args.self.now.scans.rules.reader in
    let F : Files → Type 0 = λ fs. IfOk c.fix_by.result (λ f. AreFixed c.in-Ok.report.results fs f.files) in
    fix_only (readings_of (g.R.TreeReader.spells r) (g.R.TreeReader.knows r) (g.R.CommentReader.comments r) (g.R.PatternReader.writes r) c.args.self.now.scans.traced) c.scan.new.self.scans.decided.refused c.args.self.now.files c.args.self.now.scans.rules.files c.in-Ok.report
    c.fix_by.result c.fix_by.ensures.report (subst F (ap (λ (s : State). s.files) c.in-Ok.ensures.same) c.fix_by.ensures.fixed) c.in-Ok.ensures.only

pub returns-clause-over : goal.returns-clause-over
returns-clause-over g c kind n e =
    let r = c.args.self.now.scans.rules.reader in
    let F : Files → Type 0 = λ fs. FixesOver c.in-Ok.report.results fs kind n in
    fix_over (readings_of (g.R.TreeReader.spells r) (g.R.TreeReader.knows r) (g.R.CommentReader.comments r) (g.R.PatternReader.writes r) c.args.self.now.scans.traced) c.scan.new.self.scans.decided.refused c.args.self.now.files c.args.self.now.scans.rules.files c.in-Ok.report
    c.args.self.now.most kind n c.in-Ok.ensures.report c.in-Ok.ensures.few (subst F (ap (λ (s : State). s.files) c.in-Ok.ensures.same) (c.fix_by.ensures.over kind n e))

pub returns-clause-leaves : goal.returns-clause-leaves
returns-clause-leaves g c other = c.in-Ok.ensures.leaves (λ e. absurd cc)
