use Rattle.std.proofs.Common.{sym, ◌∙◌}
use Rattle.std.proofs.lemmas.Result.{err_from_is_err_and}
use Rattle.wire_stream.proofs.Opening.{empty_bytes}
use Rattle.wire_stream.proofs.Streams.{err_as}
use Rattle.wire_stream.proofs.body.want_some.Goals as goal

pub returns-in_err-fill-clause-failed : goal.returns-in_err-fill-clause-failed
returns-in_err-fill-clause-failed g c = let p = err_from_is_err_and c.from_residual.result c.from_residual.ensures.1 in
    rw (p.1, p.2) (λ e. (sym c.as_slice.ensures ∙ empty_bytes c.as_slice.result.now c.is_empty.result c.if-is_empty.true c.is_empty.ensures, c.in_err-fill.ensures.failed (err_as _ _ _ _ e)))
