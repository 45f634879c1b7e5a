use Rattle.std.proofs.Common.{sym, ◌∙◌}
use Rattle.std.proofs.lemmas.Option.{get_or_from_slice_get, slice_get_within}
use Rattle.std.proofs.lemmas.Result.{err_from_is_err_and}
use Rattle.scan_run.specs.Lines.{line_of}
use Rattle.scan_run.proofs.Streaming.{one_line, one_front, some_lines}
use Rattle.scan_run.proofs.output.print_all.Goals as goal

pub loop-at-preserved : goal.loop-at-preserved
loop-at-preserved g c =
    let members = c.args.members.now in
    let member = c.in-Some.field-0.now in
    let there = sym c.in-Some.ensures in
    record {
      faults = c.in_ok-print_line.ensures.kept ∙ c.loop-at.invariant.faults;
      printed = one_line line_of _ _ _ members c.loop-at.at member member (slice_get_within members c.loop-at.at member there) (sym (get_or_from_slice_get members c.loop-at.at member member there)) c.loop-at.invariant.printed c.in_ok-print_line.ensures.ok;
    }

pub returns-in_err-print_line-clause-whole : goal.returns-in_err-print_line-clause-whole
returns-in_err-print_line-clause-whole g c h =
    let p = err_from_is_err_and c.from_residual.result c.from_residual.ensures.1 in
    let a = p.1 in
    let b = p.2 in
    some_lines line_of _ _ _ c.args.members.now c.loop-at.at c.loop-at.invariant.printed (c.in_err-print_line.ensures.nothing cc)

pub returns-in_err-print_line-clause-front : goal.returns-in_err-print_line-clause-front
returns-in_err-print_line-clause-front g c =
    let p = err_from_is_err_and c.from_residual.result c.from_residual.ensures.1 in
    let members = c.args.members.now in
    let member = c.in-Some.field-0.now in
    let there = sym c.in-Some.ensures in
    rw p.1 (one_front line_of _ _ _ members c.loop-at.at member member (slice_get_within members c.loop-at.at member there) (sym (get_or_from_slice_get members c.loop-at.at member member there)) c.loop-at.invariant.printed c.in_err-print_line.ensures.front)
