use Rattle.std.proofs.Common.{sym, subst, map}
use Rattle.std.proofs.lemmas.Result.{err_from_is_err_and}
use Rattle.file_map.specs.Seen.{lent}
use Rattle.file_map.specs.Sync.{AreOutside}
use Rattle.file_map.proofs.Syncing.{apart_over}
use Rattle.file_map.proofs.file_map.FileMap.apart_from.Goals as goal

pub returns-in_err-put_all-clause-over : goal.returns-in_err-put_all-clause-over
returns-in_err-put_all-clause-over c =
    let p = err_from_is_err_and c.from_residual-in_err-put_all.result c.from_residual-in_err-put_all.ensures.1 in
    rw (p.1, p.2) (apart_over c.args.prefix.now c.args.self.now c.new-files.result (map lent c.as_slice.result.now) (subst (λ l. AreOutside c.args.prefix.now c.args.self.now (map lent l)) (sym c.as_slice.ensures) c.in_ok-outside.ensures) c.new-files.ensures c.in_err-put_all.field-0.0 c.in_err-put_all.ensures.over)
