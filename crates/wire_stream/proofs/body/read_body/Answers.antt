use Rattle.std.proofs.lemmas.Result.{err_from_is_err_and}
use Rattle.wire_stream.proofs.Bodies.{whole_of, no_front_no_whole, no_end_no_whole, end_waits}
use Rattle.wire_stream.proofs.Streams.{err_as, cause_on}
use Rattle.wire_stream.proofs.body.read_body.Goals as goal

pub returns-in_err-kept-clause-bad : goal.returns-in_err-kept-clause-bad
returns-in_err-kept-clause-bad g c = let p = err_from_is_err_and c.from_residual.result c.from_residual.ensures.1 in
    rw (p.1, p.2) (λ e. no_front_no_whole _ _ _ (c.in_err-kept.ensures.bad (err_as _ _ _ _ e)))

pub returns-in_err-kept-clause-failed : goal.returns-in_err-kept-clause-failed
returns-in_err-kept-clause-failed g c = let p = err_from_is_err_and c.from_residual.result c.from_residual.ensures.1 in
    rw (p.1, p.2) (λ e. c.in_err-kept.ensures.failed (err_as _ _ _ _ e))

pub returns-in_err-kept-clause-cause : goal.returns-in_err-kept-clause-cause
returns-in_err-kept-clause-cause g c = let p = err_from_is_err_and c.from_residual.result c.from_residual.ensures.1 in
    rw (p.1, p.2) c.in_err-kept.ensures.cause

pub returns-in_err-read_end-clause-bad : goal.returns-in_err-read_end-clause-bad
returns-in_err-read_end-clause-bad g c = let p = err_from_is_err_and c.from_residual-in_err-read_end.result c.from_residual-in_err-read_end.ensures.1 in
    rw (p.1, p.2) (λ e. no_end_no_whole _ _ _ _ _ _ _ c.in_ok-kept.ensures.front (c.in_err-read_end.ensures.bad (err_as _ _ _ _ e)))

pub returns-in_err-read_end-clause-failed : goal.returns-in_err-read_end-clause-failed
returns-in_err-read_end-clause-failed g c = let p = err_from_is_err_and c.from_residual-in_err-read_end.result c.from_residual-in_err-read_end.ensures.1 in
    rw (p.1, p.2) (λ e. let f = c.in_err-read_end.ensures.failed (err_as _ _ _ _ e) in end_waits _ _ _ _ _ _ _ _ c.in_ok-kept.ensures.front f.0 f.1)

pub returns-in_err-read_end-clause-cause : goal.returns-in_err-read_end-clause-cause
returns-in_err-read_end-clause-cause g c = let p = err_from_is_err_and c.from_residual-in_err-read_end.result c.from_residual-in_err-read_end.ensures.1 in
    rw (p.1, p.2) (cause_on _ _ _ c.in_err-read_end.field-0.0 c.in_ok-kept.ensures.cause c.in_err-read_end.ensures.cause)

pub returns-clause-whole : goal.returns-clause-whole
returns-clause-whole g c = whole_of _ _ _ _ _ _ _ _ _ c.in_ok-kept.ensures.front c.in_ok-read_end.ensures.uses
