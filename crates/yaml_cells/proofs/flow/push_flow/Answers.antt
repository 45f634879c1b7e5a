use Rattle.yaml_cells.specs.declared.cell.Cell.{Cell}
use Rattle.std.proofs.Common.{◌++◌, ◌∷◌, [], get_or, ap, sym, ◌∙◌, arith, refl, take, drop, ◌-◌}
use Rattle.yaml_cells.proofs.Signs.{flow_sign, flow_byte}
use Rattle.yaml_cells.proofs.flow.push_flow.Goals as goal
use Rattle.yaml_cells.proofs.flow.push_flow.Goals.{then-is_sign+in_ok-push_piece+in_ok-push, else-is_sign}

pub loop-at-preserved : goal.loop-at-preserved
loop-at-preserved c =
    let at = c.loop-at.at in
    let text = c.args.text.now in
    let b = get_or text at 0 in
    elim c.if-is_sign.branch [
      | then-is_sign+in_ok-push_piece+in_ok-push w ↦
          record {
            cells = rw (w.from-is, w.cells-is) (c.loop-at.invariant.cells ∙ flow_sign c.args.column c.loop-at.scan c.loop-at.gap (take (at - c.loop-at.from) (drop c.loop-at.from text)) text at b c.loop-at.cells w.push_piece.new.cells w.push.new.self c.step-scan.result c.is_gap-gap.result c.loop-at-test.true refl (sym c.is_sign.ensures ∙ w.if-is_sign.true) w.in_ok-push_piece.ensures (w.in_ok-push.ensures.ok ∙ ap (λ (x : Cell). w.push_piece.new.cells ++ (x ∷ [])) w.sign_of.ensures) c.step-scan.ensures.next c.is_gap-gap.ensures);
            from = omega (arith, w.from-is);
            depth = omega (arith, c.step-scan.ensures.depth, c.loop-at.invariant.depth);
          }
      | else-is_sign w ↦
          record {
            cells = rw (w.from-is, w.cells-is) (c.loop-at.invariant.cells ∙ flow_byte c.args.column c.loop-at.scan c.loop-at.gap text at c.loop-at.from b c.loop-at.cells c.step-scan.result c.is_gap-gap.result c.loop-at.invariant.from c.loop-at-test.true refl (sym c.is_sign.ensures ∙ w.if-is_sign.false) c.step-scan.ensures.next c.is_gap-gap.ensures);
            from = omega (arith, w.from-is, c.loop-at.invariant.from);
            depth = omega (arith, c.step-scan.ensures.depth, c.loop-at.invariant.depth);
          }
    ]
