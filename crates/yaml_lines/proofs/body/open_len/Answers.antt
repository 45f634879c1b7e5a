use Rattle.std.proofs.Common.{[], ap, ◌∙◌, sym, arith}
use Rattle.yaml_lines.specs.declared.scan.Scan.{Scan}
use Rattle.yaml_lines.proofs.Steps.{open_goes, open_stops, short_at}
use Rattle.yaml_lines.proofs.body.open_len.Goals as goal

pub returns-then-not-is_open-clause-len : goal.returns-then-not-is_open-clause-len
returns-then-not-is_open-clause-len c =
    sym (c.loop-at.invariant.rest ∙ open_stops c.args.lines.now c.loop-at.at c.loop-at.scan (record { ref_ptr = (0, 0); now = [] }) c.loop-at-test.true (sym c.if-not-is_open.ensures))

pub loop-at-preserved : goal.loop-at-preserved
loop-at-preserved c =
    let h = short_at c.args.lines.now c.loop-at.at _ c.as_bytes.result.now c.loop-at-test.true c.as_bytes.ensures.value c.requires.short in
    let goes = open_goes c.args.lines.now c.loop-at.at c.loop-at.scan _ c.as_bytes.result.now c.loop-at-test.true c.as_bytes.ensures.value (sym c.if-not-is_open.ensures) in
    record {
      rest = c.loop-at.invariant.rest ∙ goes ∙ cc;
      depth = omega (arith, c.scan_line.ensures.depth, c.loop-at.invariant.depth, ap (λ (s : Scan). s.depth) c.next_line.ensures, h);
    }
