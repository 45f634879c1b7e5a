use Rattle.std.proofs.Common.{◌∙◌}
use Rattle.folder_files.proofs.Reading.{step_taken, step_passed}
use Rattle.folder_files.proofs.taken.taken_paths.Goals.{then-is_taken+in_ok-copy+in_ok-push, else-is_taken}
use Rattle.folder_files.proofs.taken.taken_paths.Goals as goal

pub loop-path-preserved : goal.loop-path-preserved
loop-path-preserved c =
    let paths = c.as_slice-path-items.result.now in
    elim c.if-is_taken.branch [
      | then-is_taken+in_ok-copy+in_ok-push w ↦
          step_taken paths c.loop-path.taken c.if-is_taken.taken c.loop-path.path-index c.path-item.result c.as_str.result.now c.is_taken.result c.loop-path-test.true c.path-item.is c.loop-path.invariant c.is_taken.ensures c.as_str.ensures
          w.in_ok-copy.field-0 w.if-is_taken.true w.in_ok-copy.ensures (w.taken-is ∙ w.in_ok-push.ensures.ok)
      | else-is_taken w ↦
          step_passed paths c.loop-path.taken c.if-is_taken.taken c.loop-path.path-index c.path-item.result c.as_str.result.now c.is_taken.result c.loop-path-test.true c.path-item.is c.loop-path.invariant c.is_taken.ensures c.as_str.ensures w.if-is_taken.false w.taken-is
    ]
