use Rattle.std.proofs.Common.{◌∙◌}
use Rattle.scan_session.specs.Quieted.{grammars_of}
use Rattle.session.proofs.Adding.{same_manner, added_more, added_all}
use Rattle.session.proofs.scanning.add_all.Goals as goal

pub loop-file-preserved : goal.loop-file-preserved
loop-file-preserved g c = record {
  added = added_more (λ m. grammars_of (g.R.TreeReader.spells m.0) (g.R.TreeReader.knows m.0) (g.R.CommentReader.comments m.0) m.1) c.args.seen.now c.args.scanner.now c.loop-file.scanner c.add.new.self
      (same_manner c.loop-file.scanner c.args.scanner.now c.loop-file.invariant.same_reader c.loop-file.invariant.same_traced)
      c.files-file-items.result.now c.files-file-items.ensures c.loop-file.file-index c.file-item.result _ c.loop-file-test.true c.file-item.is c.in_ok-results.results c.in_ok-notices.notices
      (c.in_ok-results.ensures ∙ c.as_slice.ensures ∙ c.results.ensures) (c.in_ok-notices.ensures ∙ c.as_slice-in-loop-file.ensures ∙ c.notices.ensures) c.in_ok-add.ensures.added c.loop-file.invariant.added;
  same_reader = c.add.ensures.same_reader ∙ c.loop-file.invariant.same_reader;
  same_traced = c.add.ensures.same_traced ∙ c.loop-file.invariant.same_traced;
}

pub returns-clause-scanned : goal.returns-clause-scanned
returns-clause-scanned g c = added_all _ c.args.seen.now c.args.scanner.now c.loop-file.scanner c.files-file-items.result.now c.files-file-items.ensures c.loop-file.file-index c.loop-file-test.false c.loop-file.invariant.added
