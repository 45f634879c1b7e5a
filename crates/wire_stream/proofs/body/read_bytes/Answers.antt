use Rattle.std.proofs.Common.{refl, ◌∙◌, arith}
use Rattle.std.proofs.lemmas.Result.{err_from_is_err_and}
use Rattle.wire_stream.proofs.Bodies.{reading_start, reading_more, reading_done, reading_short, reading_waits, kept_within}
use Rattle.wire_stream.proofs.Streams.{err_as, cause_on}
use Rattle.wire_stream.proofs.body.read_bytes.Goals as goal

pub loop-left-init : goal.loop-left-init
loop-left-init g c = record { reading = reading_start _ _ _ _ _ c.new-kept.ensures; faults = refl }

pub returns-in_err-want_some-clause-bad : goal.returns-in_err-want_some-clause-bad
returns-in_err-want_some-clause-bad g c = let p = err_from_is_err_and c.from_residual.result c.from_residual.ensures.1 in
    rw (p.1, p.2) (λ e. reading_short _ _ _ _ _ _ _ _ c.loop-left-test.true c.loop-left.invariant.reading (c.in_err-want_some.ensures.bad (err_as _ _ _ _ e)))

pub returns-in_err-want_some-clause-failed : goal.returns-in_err-want_some-clause-failed
returns-in_err-want_some-clause-failed g c = let p = err_from_is_err_and c.from_residual.result c.from_residual.ensures.1 in
    rw (p.1, p.2) (λ e. let f = c.in_err-want_some.ensures.failed (err_as _ _ _ _ e) in reading_waits _ _ _ _ _ _ _ _ _ c.loop-left.invariant.reading f.0 f.1)

pub returns-in_err-want_some-clause-cause : goal.returns-in_err-want_some-clause-cause
returns-in_err-want_some-clause-cause g c = let p = err_from_is_err_and c.from_residual.result c.from_residual.ensures.1 in
    rw (p.1, p.2) (cause_on _ _ _ c.in_err-want_some.field-0.0 c.loop-left.invariant.faults c.in_err-want_some.ensures.cause)

pub take_some-requires : goal.take_some-requires
take_some-requires g c = kept_within _ _ _ c.loop-left.invariant.reading.is

pub loop-left-preserved : goal.loop-left-preserved
loop-left-preserved g c = record {
  reading = reading_more _ _ _ _ _ _ _ _ _ _ _ _ _ c.loop-left.invariant.reading c.in_ok-want_some.ensures.uses c.in_ok-count.ensures.count c.in_ok-count.ensures.used c.in_ok-count.ensures.kept;
  faults = c.in_ok-want_some.ensures.cause ∙ c.loop-left.invariant.faults;
}

pub returns-clause-front : goal.returns-clause-front
returns-clause-front g c = reading_done _ _ _ _ _ _ _ _ (omega (arith, c.loop-left-test.false)) c.loop-left.invariant.reading
