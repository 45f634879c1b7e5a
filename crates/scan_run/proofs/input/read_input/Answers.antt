use Rattle.std.proofs.Common.{arith, ap, length, length-append, ◌∙◌}
use Rattle.std.proofs.lemmas.List.{length-take}
use Rattle.scan_run.proofs.Streaming.{one_piece}
use Rattle.scan_run.proofs.input.read_input.Goals as goal

pub returns-then-count-eq0-clause-bytes : goal.returns-then-count-eq0-clause-bytes
returns-then-count-eq0-clause-bytes g c =
    let p = c.in_ok-count.ensures.piece in
    one_piece _ _ _ c.loop.bytes.items c.read_some.new.bytes.items p.0 c.loop.invariant.taken p.1 p.3

pub loop-preserved : goal.loop-preserved
loop-preserved g c =
    let p = c.in_ok-count.ensures.piece in
    let len = ap length p.1 ∙ length-append c.loop.bytes.items p.0 in
    record {
      within = omega (arith, length-take c.min-want.result c.loop.buf, c.min-want.ensures, c.len-left.ensures, len, p.2, c.in_ok-count.ensures.within, c.loop.bytes.ok.0, c.read_some.new.bytes.ok.0);
      counted = omega (arith, len, p.2, c.loop.bytes.ok.0, c.read_some.new.bytes.ok.0);
      taken = one_piece _ _ _ c.loop.bytes.items c.read_some.new.bytes.items p.0 c.loop.invariant.taken p.1 p.3;
      faults = c.in_ok-count.ensures.kept ∙ c.loop.invariant.faults;
    }
