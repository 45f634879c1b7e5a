use Rattle.std.proofs.lemmas.Result.{err_from_is_err_and}
use Rattle.wire_stream.specs.declared.head.Head.{Head}
use Rattle.wire_stream.proofs.Streams.{err_as, cause_on, cause_none}
use Rattle.wire_stream.proofs.Whole.{line_read_waits, no_line_read, no_rest_read, rest_read_waits, command_used}
use Rattle.wire_stream.proofs.command.read_command.Goals as goal

pub returns-in_err-end-clause-bad : goal.returns-in_err-end-clause-bad
returns-in_err-end-clause-bad g c = let p = err_from_is_err_and c.from_residual.result c.from_residual.ensures.1 in
    rw (p.1, p.2) (λ e. c.in_err-end.ensures.bad (err_as _ _ _ _ e))

pub returns-in_err-end-clause-failed : goal.returns-in_err-end-clause-failed
returns-in_err-end-clause-failed g c = let p = err_from_is_err_and c.from_residual.result c.from_residual.ensures.1 in
    rw (p.1, p.2) (λ e. line_read_waits _ _ _ (c.in_err-end.ensures.failed (err_as _ _ _ _ e)))

pub returns-in_err-end-clause-cause : goal.returns-in_err-end-clause-cause
returns-in_err-end-clause-cause g c = let p = err_from_is_err_and c.from_residual.result c.from_residual.ensures.1 in
    rw (p.1, p.2) c.in_err-end.ensures.cause

pub take_line-requires : goal.take_line-requires
take_line-requires g c = c.in_ok-end.ensures.end

pub returns-in_err-head-clause-bad : goal.returns-in_err-head-clause-bad
returns-in_err-head-clause-bad g c = let p = err_from_is_err_and c.from_residual-in_err-head.result c.from_residual-in_err-head.ensures.1 in
    rw (p.1, p.2) (λ e. no_line_read _ _ _ _ _ c.in_ok-end.ensures.uses c.in_ok-end.ensures.end (c.in_err-head.ensures.bad (err_as _ _ _ _ e)))

pub returns-in_err-head-clause-failed : goal.returns-in_err-head-clause-failed
returns-in_err-head-clause-failed g c = let p = err_from_is_err_and c.from_residual-in_err-head.result c.from_residual-in_err-head.ensures.1 in
    rw (p.1, p.2) (λ e. absurd (c.in_err-head.ensures.others (err_as _ _ _ _ e)))

pub returns-in_err-head-clause-cause : goal.returns-in_err-head-clause-cause
returns-in_err-head-clause-cause g c = let p = err_from_is_err_and c.from_residual-in_err-head.result c.from_residual-in_err-head.ensures.1 in
    rw (p.1, p.2) (cause_none Head _ _ c.in_err-head.field-0.0 c.in_err-head.ensures.others c.in_ok-end.ensures.cause)

pub read_rest-requires : goal.read_rest-requires
read_rest-requires g c = let h = c.in_ok-head.ensures.head in (h.0, h.1.good, h.2)

pub returns-in_err-wire-clause-bad : goal.returns-in_err-wire-clause-bad
returns-in_err-wire-clause-bad g c = let p = err_from_is_err_and c.from_residual-in_err-wire.result c.from_residual-in_err-wire.ensures.1 in
    let h = c.in_ok-head.ensures.head in
    rw (p.1, p.2) (λ e. no_rest_read _ _ _ _ _ _ h.0 c.in_ok-end.ensures.uses c.in_ok-end.ensures.end c.in_ok-head.ensures.used h.1 (c.in_err-wire.ensures.bad (err_as _ _ _ _ e) h.0 h.2))

pub returns-in_err-wire-clause-failed : goal.returns-in_err-wire-clause-failed
returns-in_err-wire-clause-failed g c = let p = err_from_is_err_and c.from_residual-in_err-wire.result c.from_residual-in_err-wire.ensures.1 in
    let h = c.in_ok-head.ensures.head in
    rw (p.1, p.2) (λ e. let w = c.in_err-wire.ensures.failed (err_as _ _ _ _ e) h.0 h.2 in
    rest_read_waits _ _ _ _ _ _ _ w.0 h.0 c.in_ok-end.ensures.uses c.in_ok-end.ensures.end c.in_ok-head.ensures.used h.1 w.1 w.2)

pub returns-in_err-wire-clause-cause : goal.returns-in_err-wire-clause-cause
returns-in_err-wire-clause-cause g c = let p = err_from_is_err_and c.from_residual-in_err-wire.result c.from_residual-in_err-wire.ensures.1 in
    rw (p.1, p.2) (cause_on _ _ _ c.in_err-wire.field-0.0 c.in_ok-end.ensures.cause c.in_err-wire.ensures.cause)

pub returns-clause-used : goal.returns-clause-used
returns-clause-used g c = let h = c.in_ok-head.ensures.head in
    command_used _ _ _ _ _ _ _ _ h.0 _ _ c.in_ok-end.ensures.uses c.in_ok-end.ensures.end h.1 c.in_ok-head.ensures.used (c.in_ok-wire.ensures.rest h.0 h.2)
