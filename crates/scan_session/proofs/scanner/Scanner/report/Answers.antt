use Rattle.std.proofs.Common.{◌≡◌, ◌∙◌}
use Rattle.file_results.specs.Quieted.{grammars_of}
use Rattle.scan_session.proofs.Laws.{fresh_once}
use Rattle.scan_session.proofs.Others.{other_files, other_rules}
use Rattle.scan_session.proofs.Scans.{not_over, whole, over, is_fresh}
use Rattle.scan_session.proofs.scanner.Scanner.report.Goals as goal

pub returns-then-is_over-clause-too_many : goal.returns-then-is_over-clause-too_many
returns-then-is_over-clause-too_many g c refused rule_files most files h n e =
    let more = over (grammars_of (g.R.TreeReader.spells c.args.self.reader.now) (g.R.TreeReader.knows c.args.self.reader.now) (g.R.CommentReader.comments c.args.self.reader.now) c.args.self.traced) refused rule_files most files c.args.self h (c.is_over.ensures.0 c.if-is_over.true) in
    let same : n ≡ c.args.self.most = cc in
    (same ∙ h.limit, more.more)

pub returns-clause-fresh : goal.returns-clause-fresh
returns-clause-fresh g c refused rule_files most files h = is_fresh (grammars_of (g.R.TreeReader.spells c.args.self.reader.now) (g.R.TreeReader.knows c.args.self.reader.now) (g.R.CommentReader.comments c.args.self.reader.now) c.args.self.traced) refused rule_files most files c.args.self _ h (not_over c.args.self c.is_over.result c.is_over.ensures c.if-is_over.false) c.in_ok-notices.ensures.ordered c.in_ok-notices.ensures.same

pub returns-clause-few : goal.returns-clause-few
returns-clause-few g c refused rule_files most files h = (whole (grammars_of (g.R.TreeReader.spells c.args.self.reader.now) (g.R.TreeReader.knows c.args.self.reader.now) (g.R.CommentReader.comments c.args.self.reader.now) c.args.self.traced) refused rule_files most files c.args.self h (not_over c.args.self c.is_over.result c.is_over.ensures c.if-is_over.false)).few

pub returns-clause-only : goal.returns-clause-only
returns-clause-only g c refused rule_files most files h r k = fresh_once (grammars_of (g.R.TreeReader.spells c.args.self.reader.now) (g.R.TreeReader.knows c.args.self.reader.now) (g.R.CommentReader.comments c.args.self.reader.now) c.args.self.traced) refused files rule_files r _ k (returns-clause-fresh g c refused rule_files most files h)

pub returns-clause-other_files : goal.returns-clause-other_files
returns-clause-other_files g c refused rule_files most files h = other_files (grammars_of (g.R.TreeReader.spells c.args.self.reader.now) (g.R.TreeReader.knows c.args.self.reader.now) (g.R.CommentReader.comments c.args.self.reader.now) c.args.self.traced) refused files rule_files _ (returns-clause-fresh g c refused rule_files most files h)

pub returns-clause-other_rules : goal.returns-clause-other_rules
returns-clause-other_rules g c refused rule_files most files h = other_rules (grammars_of (g.R.TreeReader.spells c.args.self.reader.now) (g.R.TreeReader.knows c.args.self.reader.now) (g.R.CommentReader.comments c.args.self.reader.now) c.args.self.traced) refused files rule_files _ (returns-clause-fresh g c refused rule_files most files h)
