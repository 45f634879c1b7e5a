use Rattle.std.proofs.Common.{refl}
use Rattle.file_results.specs.Quieted.{grammars_of}
use Rattle.file_results.specs.Shown.{IsNoticeIn}
use Rattle.running_rules.proofs.Members.{appended, on_ok_map}
use Rattle.scan_session.proofs.Scans.{not_over, passed_over, found_more}
use Rattle.scan_session.proofs.scanner.Scanner.add.Goals as goal

pub returns-then-is_over-clause-added : goal.returns-then-is_over-clause-added
returns-then-is_over-clause-added g c file finds told refused rule_files most files up h =
    let s = c.args.self.now in
    passed_over (grammars_of (g.R.TreeReader.spells s.reader.now) (g.R.TreeReader.knows s.reader.now) (g.R.CommentReader.comments s.reader.now) s.traced) refused rule_files most files s h _ (c.is_over.ensures.0 c.if-is_over.true)

pub returns-clause-added : goal.returns-clause-added
returns-clause-added g c file finds told =
    let s = c.args.self.now in
    let grammars = grammars_of (g.R.TreeReader.spells s.reader.now) (g.R.TreeReader.knows s.reader.now) (g.R.CommentReader.comments s.reader.now) s.traced in
    let few = not_over s c.is_over.result c.is_over.ensures c.if-is_over.false in
    let new = c.append_notices.new.notices.items in
    on_ok_map c.append.result (λ put refused rule_files most files up h. record {
      limit = h.limit;
      rules = h.rules;
      found = found_more grammars refused rule_files most files s h file s.running.items new c.args.results c.append.new.results up refl few finds
          (appended s.notices.items new c.args.notices (IsNoticeIn grammars s.running.items file) c.in_ok-append_notices.ensures told) put;
    }) c.append.ensures
