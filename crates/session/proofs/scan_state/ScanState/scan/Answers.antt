use Rattle.scan_session.specs.Quieted.{grammars_of}
use Rattle.workspace.specs.Reports.{SettlesRules}
use Rattle.session.proofs.Reports.{read_once}
use Rattle.session.proofs.Keeping.{none_seen, up_to_date, works, answers, all_decided}
use Rattle.session.proofs.scan_state.ScanState.scan.Goals as goal

pub invariant_of-self-in_err-see : goal.invariant_of-self-in_err-see
invariant_of-self-in_err-see g c =
    let r = c.self.inside.rules.reader in
    none_seen (grammars_of (g.R.TreeReader.spells r) (g.R.TreeReader.knows r) (g.R.CommentReader.comments r) c.self.inside.traced) c.see.new.rules c.see.new.self c.in_err-see.ensures.forgotten

pub invariant_of-self-in-Err-Memory : goal.invariant_of-self-in-Err-Memory
invariant_of-self-in-Err-Memory g c =
    let r = c.self.inside.rules.reader in
    none_seen (grammars_of (g.R.TreeReader.spells r) (g.R.TreeReader.knows r) (g.R.CommentReader.comments r) c.self.inside.traced) c.see.new.rules c.new.result c.new.ensures

pub invariant_of-self-2 : goal.invariant_of-self-2
invariant_of-self-2 g c =
    up_to_date (λ r traced. grammars_of (g.R.TreeReader.spells r) (g.R.TreeReader.knows r) (g.R.CommentReader.comments r) traced) c.self.inside.traced (λ r. g.R.PatternReader.writes r) c.reader-reader.result.now c.self.inside.rules.reader c.reader-reader.ensures c.self.inside.rules.files c.contents-rules.result.now c.contents-rules.ensures.contents c.contents-rules.ensures.only
    c.of.new.decided c.in_ok-scanner.ensures.decided c.self.inside.seen_by c.self.inside.seen c.self.invariant
    c.args.most c.in_ok-scanner.scanner c.in_ok-scanner.ensures.begun c.running.result.now c.running.ensures c.args.files.now c.see.new.self c.in_ok-see.ensures.seen c.see.new.rules c.in_ok-see.ensures.rules

pub returns-clause-report : goal.returns-clause-report
returns-clause-report g c =
    rw (← c.self.view_is) (answers (λ r traced. grammars_of (g.R.TreeReader.spells r) (g.R.TreeReader.knows r) (g.R.CommentReader.comments r) traced) c.self.inside.traced (λ r. g.R.PatternReader.writes r) c.reader-reader.result.now c.self.inside.rules.reader c.reader-reader.ensures c.self.inside.rules.files c.contents-rules.result.now c.contents-rules.ensures.contents c.contents-rules.ensures.only
    c.of.new.decided c.in_ok-scanner.ensures.decided c.self.inside.seen_by c.self.inside.seen c.self.invariant
    c.args.most c.in_ok-scanner.scanner c.in_ok-scanner.ensures.begun c.running.result.now c.running.ensures c.args.files.now c.see.new.self c.in_ok-see.ensures.seen c.report_of-report.result c.in_ok-scanner.ensures.same_reader c.in_ok-scanner.ensures.traced c.report_of-report.ensures.report)

pub returns-clause-work : goal.returns-clause-work
returns-clause-work g c =
    rw (← c.self.view_is) (λ remembered. works (λ r traced. grammars_of (g.R.TreeReader.spells r) (g.R.TreeReader.knows r) (g.R.CommentReader.comments r) traced) c.self.inside.traced (λ r. g.R.PatternReader.writes r) c.reader-reader.result.now c.self.inside.rules.reader c.reader-reader.ensures c.self.inside.rules.files c.contents-rules.result.now c.contents-rules.ensures.contents c.contents-rules.ensures.only
    c.of.new.decided c.in_ok-scanner.ensures.decided c.self.inside.seen_by c.self.inside.seen c.self.invariant
    c.args.most c.in_ok-scanner.scanner c.in_ok-scanner.ensures.begun c.running.result.now c.running.ensures c.args.files.now c.see.new.self c.in_ok-see.ensures.seen c.args.steps.now c.see.new.steps c.in_ok-see.ensures.spent)

pub returns-clause-decided : goal.returns-clause-decided
returns-clause-decided g c =
    rw (← c.self.view_is) (λ remembered. all_decided (λ r traced. grammars_of (g.R.TreeReader.spells r) (g.R.TreeReader.knows r) (g.R.CommentReader.comments r) traced) c.self.inside.traced (λ r. g.R.PatternReader.writes r) c.reader-reader.result.now c.self.inside.rules.reader c.reader-reader.ensures c.self.inside.rules.files c.contents-rules.result.now c.contents-rules.ensures.contents c.contents-rules.ensures.only
    c.of.new.decided c.in_ok-scanner.ensures.decided c.self.inside.seen_by c.self.inside.seen c.self.invariant
    c.args.most c.in_ok-scanner.scanner c.in_ok-scanner.ensures.begun c.running.result.now c.running.ensures)

pub returns-clause-settled : goal.returns-clause-settled
returns-clause-settled g c =
    let rules = c.self.inside.rules in
    let settles : SettlesRules (g.R.PatternReader.writes rules.reader) rules.files c.self.inside.decided c.of.new.decided (g.P.Patterns.asked c.args.patterns.now) (g.P.Patterns.asked c.of.new.patterns) =
    record { contents = c.contents-rules.result.now; are = c.contents-rules.ensures.contents; settles = c.in_ok-scanner.ensures.settled } in
    rw (← c.self.view_is) (λ remembered. settles)

pub returns-in_err-scanner-clause-one : goal.returns-in_err-scanner-clause-one
returns-in_err-scanner-clause-one g c = rw (← c.self.view_is) (read_once (g.R.PatternReader.writes c.self.inside.rules.reader) c.self.inside.rules.files c.contents-rules.result.now c.contents-rules.ensures.only)

pub returns-in_err-see-clause-one : goal.returns-in_err-see-clause-one
returns-in_err-see-clause-one g c = rw (← c.self.view_is) (read_once (g.R.PatternReader.writes c.self.inside.rules.reader) c.self.inside.rules.files c.contents-rules.result.now c.contents-rules.ensures.only)

pub returns-in-Err-Memory-clause-one : goal.returns-in-Err-Memory-clause-one
returns-in-Err-Memory-clause-one g c = rw (← c.self.view_is) (read_once (g.R.PatternReader.writes c.self.inside.rules.reader) c.self.inside.rules.files c.contents-rules.result.now c.contents-rules.ensures.only)

pub returns-clause-one : goal.returns-clause-one
returns-clause-one g c = rw (← c.self.view_is) (read_once (g.R.PatternReader.writes c.self.inside.rules.reader) c.self.inside.rules.files c.contents-rules.result.now c.contents-rules.ensures.only)
