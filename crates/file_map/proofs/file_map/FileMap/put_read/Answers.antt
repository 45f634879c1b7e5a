use Rattle.std.proofs.Common.{◌≡◌, ◌∙◌, Err, ap}
use Rattle.std.proofs.lemmas.Result.{err_from_is_err_and}
use Rattle.folder_files.proofs.Told.{keeps_on, absent_kept}
use Rattle.file_map.specs.Sync.{ReadPasses}
use Rattle.file_map.proofs.Syncing.{far_absent, far_read, far_over, tells_sync}
use Rattle.file_map.proofs.file_map.FileMap.put_read.Goals as goal

pub loop-path-preserved-in-Err-Absent : goal.loop-path-preserved-in-Err-Absent
loop-path-preserved-in-Err-Absent g c =
    let h = c.loop-path.invariant in
    record {
      far = far_absent (g.T.Tree.files c.args.tree.now) (g.T.Tree.files c.loop-path.tree) h.kept c.as_slice-path-items.result.now c.args.self.now c.loop-path.self c.loop-path.path-index c.path-item.result c.as_str-name.result.now
          c.loop-path-test.true c.path-item.is h.far c.as_str-name.ensures (c.in-Err-Absent.ensures.absent (ap Err c.in-Err-Absent.field-0-is));
      kept = keeps_on (g.T.Tree.files c.args.tree.now) (g.T.Tree.files c.loop-path.tree) (g.T.Tree.files c.read.new.self) h.kept c.in-Err-Absent.ensures.kept;
      faults = absent_kept (g.T.Tree.faults c.loop-path.tree) (g.T.Tree.faults c.read.new.self) (g.T.Tree.absences c.loop-path.tree) (g.T.Tree.absences c.read.new.self) c.in-Err-Absent.field-0 c.in-Err-Absent.field-0-is c.in-Err-Absent.ensures.cause ∙ h.faults;
    }

pub returns-in_err-put_shared-clause-over : goal.returns-in_err-put_shared-clause-over
returns-in_err-put_shared-clause-over g c =
    let h = c.loop-path.invariant in
    let p = err_from_is_err_and c.from_residual-in_err-put_shared.result c.from_residual-in_err-put_shared.ensures.1 in
    let same : c.as_slice-path-items.result.now ≡ c.args.paths.now = c.as_slice-path-items.ensures in
    rw (p.1, p.2, ← same)
    (tells_sync (ReadPasses (g.T.Tree.files c.args.tree.now) c.as_slice-path-items.result.now c.args.self.now) c.in_err-put_shared.field-0.0
    (far_over (g.T.Tree.files c.args.tree.now) (g.T.Tree.files c.loop-path.tree) h.kept c.as_slice-path-items.result.now c.args.self.now c.loop-path.self c.loop-path.path-index c.path-item.result c.as_str-name.result.now
    c.loop-path-test.true c.path-item.is h.far c.as_str-name.ensures c.in-Ok.bytes c.in_ok-shared.shared.value c.in-Ok.ensures.bound c.in-Ok.ensures.front c.in_ok-shared.ensures.ok c.in_err-put_shared.field-0.0 c.in_err-put_shared.ensures.over))

pub loop-path-preserved : goal.loop-path-preserved
loop-path-preserved g c =
    let h = c.loop-path.invariant in
    record {
      far = far_read (g.T.Tree.files c.args.tree.now) (g.T.Tree.files c.loop-path.tree) h.kept c.as_slice-path-items.result.now c.args.self.now c.loop-path.self c.loop-path.path-index c.path-item.result c.as_str-name.result.now
          c.loop-path-test.true c.path-item.is h.far c.as_str-name.ensures c.in-Ok.bytes c.in_ok-shared.shared.value c.in-Ok.ensures.bound c.in-Ok.ensures.front c.in_ok-shared.ensures.ok c.put_shared.new.self c.in_ok-put_shared.ensures.put c.in_ok-put_shared.ensures.within;
      kept = keeps_on (g.T.Tree.files c.args.tree.now) (g.T.Tree.files c.loop-path.tree) (g.T.Tree.files c.read.new.self) h.kept c.in-Ok.ensures.kept;
      faults = c.in-Ok.ensures.cause.0 ∙ h.faults;
    }
