use Rattle.std.proofs.Common.{◌∙◌}
use Rattle.scan_session.specs.Quieted.{grammars_of}
use Rattle.workspace.specs.Reports.{readings_of}
use Rattle.session.proofs.Adding.{in_manner}
use Rattle.session.proofs.Once.{rules_apart, told, once_report, once_few, once_many, once_works}
use Rattle.session.proofs.Reports.{read_once}
use Rattle.session.proofs.one_fix.scan_once.Goals as goal

pub scan_all-requires : goal.scan_all-requires
scan_all-requires g c =
    let r = c.reader-reader.result.now in
    record {
      reader = c.in_ok-scanner.ensures.same_reader;
      traced = c.in_ok-scanner.ensures.traced;
      apart = rules_apart (grammars_of (g.R.TreeReader.spells r) (g.R.TreeReader.knows r) (g.R.CommentReader.comments r) c.args.traced) c.of.new.decided.refused c.contents-contents.result.now c.args.most c.in_ok-scanner.scanner c.in_ok-scanner.ensures.begun;
    }

pub returns-clause-report : goal.returns-clause-report
returns-clause-report g c =
    let used = c.reader-reader.result.now in
    let by = λ (m : _ × _). grammars_of (g.R.TreeReader.spells m.0) (g.R.TreeReader.knows m.0) (g.R.CommentReader.comments m.0) m.1 in
    let still = in_manner c.scan_all.new.scanner used c.args.traced (c.in_ok-scan_all.ensures.same_reader ∙ c.in_ok-scanner.ensures.same_reader) (c.in_ok-scan_all.ensures.same_traced ∙ c.in_ok-scanner.ensures.traced) in
    let is = told by (used, c.args.traced) c.of.new.decided.refused c.contents-contents.result.now c.args.most c.args.files.now c.in_ok-scanner.scanner c.scan_all.new.scanner c.in_ok-scan_all.ensures.ordered c.in_ok-scanner.ensures.begun c.in_ok-scan_all.ensures.scanned still
    c.report.result c.report.ensures.fresh c.report.ensures.few c.report.ensures.too_many c.report.ensures.only in
    once_report (λ r. readings_of (g.R.TreeReader.spells r) (g.R.TreeReader.knows r) (g.R.CommentReader.comments r) (g.R.PatternReader.writes r) c.args.traced) used c.args.rules.now.reader c.reader-reader.ensures c.args.files.now c.args.rules.now.files c.contents-contents.result.now c.contents-contents.ensures.contents c.of.new.decided.refused c.args.most c.report.result is

pub returns-clause-few : goal.returns-clause-few
returns-clause-few g c =
    let used = c.reader-reader.result.now in
    let by = λ (m : _ × _). grammars_of (g.R.TreeReader.spells m.0) (g.R.TreeReader.knows m.0) (g.R.CommentReader.comments m.0) m.1 in
    let still = in_manner c.scan_all.new.scanner used c.args.traced (c.in_ok-scan_all.ensures.same_reader ∙ c.in_ok-scanner.ensures.same_reader) (c.in_ok-scan_all.ensures.same_traced ∙ c.in_ok-scanner.ensures.traced) in
    let is = told by (used, c.args.traced) c.of.new.decided.refused c.contents-contents.result.now c.args.most c.args.files.now c.in_ok-scanner.scanner c.scan_all.new.scanner c.in_ok-scan_all.ensures.ordered c.in_ok-scanner.ensures.begun c.in_ok-scan_all.ensures.scanned still
    c.report.result c.report.ensures.fresh c.report.ensures.few c.report.ensures.too_many c.report.ensures.only in
    once_few (λ r. readings_of (g.R.TreeReader.spells r) (g.R.TreeReader.knows r) (g.R.CommentReader.comments r) (g.R.PatternReader.writes r) c.args.traced) used c.args.rules.now.reader c.reader-reader.ensures c.args.files.now c.args.rules.now.files c.contents-contents.result.now c.contents-contents.ensures.contents c.of.new.decided.refused c.args.most c.report.result is

pub returns-clause-too_many : goal.returns-clause-too_many
returns-clause-too_many g c =
    let used = c.reader-reader.result.now in
    let by = λ (m : _ × _). grammars_of (g.R.TreeReader.spells m.0) (g.R.TreeReader.knows m.0) (g.R.CommentReader.comments m.0) m.1 in
    let still = in_manner c.scan_all.new.scanner used c.args.traced (c.in_ok-scan_all.ensures.same_reader ∙ c.in_ok-scanner.ensures.same_reader) (c.in_ok-scan_all.ensures.same_traced ∙ c.in_ok-scanner.ensures.traced) in
    let is = told by (used, c.args.traced) c.of.new.decided.refused c.contents-contents.result.now c.args.most c.args.files.now c.in_ok-scanner.scanner c.scan_all.new.scanner c.in_ok-scan_all.ensures.ordered c.in_ok-scanner.ensures.begun c.in_ok-scan_all.ensures.scanned still
    c.report.result c.report.ensures.fresh c.report.ensures.few c.report.ensures.too_many c.report.ensures.only in
    once_many (λ r. readings_of (g.R.TreeReader.spells r) (g.R.TreeReader.knows r) (g.R.CommentReader.comments r) (g.R.PatternReader.writes r) c.args.traced) used c.args.rules.now.reader c.reader-reader.ensures c.args.files.now c.args.rules.now.files c.contents-contents.result.now c.contents-contents.ensures.contents c.of.new.decided.refused c.args.most c.report.result is

pub returns-clause-work : goal.returns-clause-work
returns-clause-work g c remembered =
    let used = c.reader-reader.result.now in
    once_works (λ r. readings_of (g.R.TreeReader.spells r) (g.R.TreeReader.knows r) (g.R.CommentReader.comments r) (g.R.PatternReader.writes r) c.args.traced) used c.args.rules.now.reader c.reader-reader.ensures c.args.files.now c.args.rules.now.files c.contents-contents.result.now c.contents-contents.ensures.contents c.of.new.decided.refused c.in_ok-scanner.scanner c.args.most c.in_ok-scanner.ensures.begun c.args.steps.now c.scan_all.new.steps c.in_ok-scan_all.ensures.sees

pub returns-clause-settled : goal.returns-clause-settled
returns-clause-settled g c remembered = record { contents = c.contents-contents.result.now; are = c.contents-contents.ensures.contents; settles = c.in_ok-scanner.ensures.settled }

pub returns-in_err-scanner-clause-one : goal.returns-in_err-scanner-clause-one
returns-in_err-scanner-clause-one g c = read_once (g.R.PatternReader.writes c.args.rules.now.reader) c.args.rules.now.files c.contents-contents.result.now c.contents-contents.ensures.only

pub returns-in_err-scan_all-clause-one : goal.returns-in_err-scan_all-clause-one
returns-in_err-scan_all-clause-one g c = read_once (g.R.PatternReader.writes c.args.rules.now.reader) c.args.rules.now.files c.contents-contents.result.now c.contents-contents.ensures.only

pub returns-clause-one : goal.returns-clause-one
returns-clause-one g c = read_once (g.R.PatternReader.writes c.args.rules.now.reader) c.args.rules.now.files c.contents-contents.result.now c.contents-contents.ensures.only
