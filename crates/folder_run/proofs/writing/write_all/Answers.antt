use Rattle.std.proofs.Common.{◌∙◌}
use Rattle.folder_run.proofs.Wrote.{step_written, step_refused}
use Rattle.folder_run.proofs.writing.write_all.Goals as goal

pub returns-in-Err-Failed-clause-some : goal.returns-in-Err-Failed-clause-some
returns-in-Err-Failed-clause-some g c =
    step_refused c.args.files.now c.loop-file.file-index c.file-item.result _ c.loop-file-test.true c.file-item.is (g.T.Tree.files c.args.tree.now) (g.T.Tree.files c.loop-file.tree) (g.T.Tree.files c.write.new.self) c.loop-file.invariant.written c.as_str.result.now c.as_slice.result.now c.as_str.ensures c.as_slice.ensures c.write.ensures.others

pub returns-in-Err-Memory-clause-some : goal.returns-in-Err-Memory-clause-some
returns-in-Err-Memory-clause-some g c =
    step_refused c.args.files.now c.loop-file.file-index c.file-item.result _ c.loop-file-test.true c.file-item.is (g.T.Tree.files c.args.tree.now) (g.T.Tree.files c.loop-file.tree) (g.T.Tree.files c.write.new.self) c.loop-file.invariant.written c.as_str.result.now c.as_slice.result.now c.as_str.ensures c.as_slice.ensures c.write.ensures.others

pub loop-file-preserved : goal.loop-file-preserved
loop-file-preserved g c = record {
  written = step_written c.args.files.now c.loop-file.file-index c.file-item.result _ c.loop-file-test.true c.file-item.is (g.T.Tree.files c.args.tree.now) (g.T.Tree.files c.loop-file.tree) (g.T.Tree.files c.write.new.self) c.loop-file.invariant.written c.as_str.result.now c.as_slice.result.now c.as_str.ensures c.as_slice.ensures c.write.ensures.others c.in-Ok.ensures.put;
  faults = c.in-Ok.ensures.cause.0 ∙ c.loop-file.invariant.faults;
}
