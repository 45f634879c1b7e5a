use Rattle.std.proofs.lemmas.Result.{err_from_is_err_and}
use Rattle.file_map.proofs.Syncing.{one_put, one_fits, one_passes}
use Rattle.file_map.proofs.file_map.FileMap.put_all.Goals as goal

pub loop-path-preserved : goal.loop-path-preserved
loop-path-preserved c =
    let h = c.loop-path.invariant in
    record {
      put = one_put c.args.self.now c.loop-path.self c.args.files.now c.loop-path.path-index c.loop-path-item.result c.in_ok-shared.shared.value c.loop-path-test.true c.loop-path-item.is c.in_ok-shared.ensures.cases h.put h.within c.put_shared.new.self c.in_ok-put_shared.ensures.put;
      within = one_fits c.args.self.now c.loop-path.self c.args.files.now c.loop-path.path-index c.loop-path-item.result c.in_ok-shared.shared.value c.loop-path-test.true c.loop-path-item.is c.in_ok-shared.ensures.cases h.put h.within c.in_ok-put_shared.ensures.within;
    }

pub returns-in_err-put_shared-clause-over : goal.returns-in_err-put_shared-clause-over
returns-in_err-put_shared-clause-over c =
    let h = c.loop-path.invariant in
    let p = err_from_is_err_and c.from_residual-in_err-put_shared.result c.from_residual-in_err-put_shared.ensures.1 in
    rw (p.1, p.2)
    (one_passes c.args.self.now c.loop-path.self c.args.files.now c.loop-path.path-index c.loop-path-item.result c.in_ok-shared.shared.value c.loop-path-test.true c.loop-path-item.is c.in_ok-shared.ensures.cases h.put h.within c.in_err-put_shared.field-0.0 c.in_err-put_shared.ensures.over)
