use Rattle.workspace.specs.Reports.{readings_of}
use Rattle.session.proofs.Reports.{gains_some}
use Rattle.session.proofs.Telling.{told_report, told_few, told_only, told_many}
use Rattle.session.proofs.session.SessionWorkspace.scan.Goals as goal

pub returns-clause-refused_some : goal.returns-clause-refused_some
returns-clause-refused_some g c = gains_some c.args.self.now.scans.decided c.scan.new.self.decided _ c.scan.ensures.kept

pub returns-clause-report : goal.returns-clause-report
returns-clause-report g c =
    let r = c.args.self.now.scans.rules.reader in
    let traced = c.args.self.now.scans.traced in
    told_report (readings_of (g.R.TreeReader.spells r) (g.R.TreeReader.knows r) (g.R.CommentReader.comments r) (g.R.PatternReader.writes r) traced) c.scan.new.self.decided.refused c.args.self.now.files c.args.self.now.scans.rules.files c.args.self.now.most c.args.self.now.scans.seen c.scan.new.self.seen c.args.steps.now c.scan.new.steps c.scan.result c.scan.ensures.work c.scan.ensures.report

pub returns-clause-few : goal.returns-clause-few
returns-clause-few g c =
    let r = c.args.self.now.scans.rules.reader in
    let traced = c.args.self.now.scans.traced in
    told_few (readings_of (g.R.TreeReader.spells r) (g.R.TreeReader.knows r) (g.R.CommentReader.comments r) (g.R.PatternReader.writes r) traced) c.scan.new.self.decided.refused c.args.self.now.files c.args.self.now.scans.rules.files c.args.self.now.most c.args.self.now.scans.seen c.scan.new.self.seen c.args.steps.now c.scan.new.steps c.scan.result c.scan.ensures.work c.scan.ensures.report

pub returns-clause-too_many : goal.returns-clause-too_many
returns-clause-too_many g c =
    let r = c.args.self.now.scans.rules.reader in
    let traced = c.args.self.now.scans.traced in
    told_many (readings_of (g.R.TreeReader.spells r) (g.R.TreeReader.knows r) (g.R.CommentReader.comments r) (g.R.PatternReader.writes r) traced) c.scan.new.self.decided.refused c.args.self.now.files c.args.self.now.scans.rules.files c.args.self.now.most c.args.self.now.scans.seen c.scan.new.self.seen c.args.steps.now c.scan.new.steps c.scan.result c.scan.ensures.work c.scan.ensures.report

pub returns-clause-only : goal.returns-clause-only
returns-clause-only g c =
    let r = c.args.self.now.scans.rules.reader in
    let traced = c.args.self.now.scans.traced in
    told_only (readings_of (g.R.TreeReader.spells r) (g.R.TreeReader.knows r) (g.R.CommentReader.comments r) (g.R.PatternReader.writes r) traced) c.scan.new.self.decided.refused c.args.self.now.files c.args.self.now.scans.rules.files c.args.self.now.most c.args.self.now.scans.seen c.scan.new.self.seen c.args.steps.now c.scan.new.steps c.scan.result c.scan.ensures.report
