use Rattle.std.proofs.Common.{[], refl, sym, ◌∙◌, subst, arith}
use Rattle.std.proofs.lemmas.Result.{err_from_is_err_and}
use Rattle.wire_stream.specs.Fronts.{IsLineFront}
use Rattle.wire_stream.proofs.Opening.{front_short}
use Rattle.wire_stream.proofs.Parts.{lacks_of, lacks_is}
use Rattle.wire_stream.proofs.Streams.{uses_nothing, uses_then, err_as, cause_on}
use Rattle.wire_stream.proofs.Whole.{line_closed, line_ends, line_waits}
use Rattle.wire_stream.proofs.head.read_line.Goals as goal

pub loop-init : goal.loop-init
loop-init g c = record { counted = omega arith; within = omega arith; uses = uses_nothing _ _; faults = refl }

pub returns-then-not-open-clause-bad : goal.returns-then-not-open-clause-bad
returns-then-not-open-clause-bad g c = λ e.
    line_closed _ _ _ _ c.loop.invariant.uses (lacks_is _ _ c.as_slice-bytes.ensures (lacks_of 10 c.as_slice-bytes.result.now c.in_default.ensures))
    (λ f. c.in_ok-open.ensures.closed c.if-not-open.true (subst IsLineFront (sym c.as_slice-bytes.ensures) f))

pub returns-in_err-count-clause-bad : goal.returns-in_err-count-clause-bad
returns-in_err-count-clause-bad g c = let p = err_from_is_err_and c.from_residual-in_err-count.result c.from_residual-in_err-count.ensures.1 in
    rw (p.1, p.2) (λ e. absurd (c.in_err-count.ensures.good (err_as _ _ _ _ e)))

pub returns-in_err-count-clause-failed : goal.returns-in_err-count-clause-failed
returns-in_err-count-clause-failed g c = let p = err_from_is_err_and c.from_residual-in_err-count.result c.from_residual-in_err-count.ensures.1 in
    rw (p.1, p.2) (λ e. line_waits _ _ _ _ _ c.loop.invariant.uses (subst IsLineFront c.as_slice-bytes.ensures (c.in_ok-open.ensures.open c.if-not-open.false)) (c.in_err-count.ensures.failed (err_as _ _ _ _ e)))

pub returns-in_err-count-clause-cause : goal.returns-in_err-count-clause-cause
returns-in_err-count-clause-cause g c = let p = err_from_is_err_and c.from_residual-in_err-count.result c.from_residual-in_err-count.ensures.1 in
    rw (p.1, p.2) (cause_on _ _ _ c.in_err-count.field-0.0 c.loop.invariant.faults c.in_err-count.ensures.cause)

pub returns-then-count-eq0-clause-bad : goal.returns-then-count-eq0-clause-bad
returns-then-count-eq0-clause-bad g c = λ e.
    line_ends _ _ _ _ c.loop.invariant.uses (lacks_is _ _ c.as_slice-bytes.ensures (lacks_of 10 c.as_slice-bytes.result.now c.in_default.ensures)) (c.in_ok-count.ensures.end c.if-count-eq0.true)

pub loop-preserved : goal.loop-preserved
loop-preserved g c =
    let short = front_short _ (subst IsLineFront c.as_slice-bytes.ensures (c.in_ok-open.ensures.open c.if-not-open.false)) in
    let inv = c.loop.invariant in
    let within = inv.counted in
    record {
      counted = omega (arith, c.in_ok-count.ensures.more, within);
      within = omega (arith, short, within);
      uses = uses_then _ _ _ _ _ _ [] [] c.loop.invariant.uses c.in_ok-count.ensures.uses;
      faults = c.in_ok-count.ensures.cause ∙ c.loop.invariant.faults;
    }
