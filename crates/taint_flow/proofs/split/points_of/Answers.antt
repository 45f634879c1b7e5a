use Rattle.std.proofs.Common.{◌≡◌, List, length, Some, refl, ap, subst, ◌∙◌, arith}
use Rattle.std.specs.Prelude.{slice_get}
use Rattle.std.proofs.lemmas.Option.{slice_get_read, slice_get_within}
use Rattle.flow_reach.specs.declared.moves.Move.{Move}
use Rattle.taint_flow.proofs.Splitting.{adds_more}
use Rattle.taint_flow.proofs.split.points_of.Goals as goal

pub loop-point-init : goal.loop-point-init
loop-point-init c = record {
  size = c.in_ok-added.ensures.size;
  exact = λ graph is source at name lt. (λ h. absurd (c.in_ok-added.ensures.none source (at, name) h), λ h. absurd (omega (arith, h.0)));
}

pub add_reached-requires-clause-point : goal.add_reached-requires-clause-point
add_reached-requires-clause-point c = omega (arith, c.loop-point-test.true, ap length c.as_slice-row-items.ensures, c.requires.points)

pub loop-point-preserved : goal.loop-point-preserved
loop-point-preserved c =
    let row = c.row-item.result in
    let M : List Move → Type 0 = λ ms. slice_get ms c.loop-point.point ≡ Some row in
    let row_at = subst M c.as_slice-row-items.ensures (slice_get_read c.as_slice-row-items.result.now _ c.loop-point.point row refl c.loop-point-test.true c.row-item.is) in
    record {
      size = c.in_ok-add_reached.ensures.size ∙ c.loop-point.invariant.size;
      exact = λ graph is source at name lt.
          adds_more graph c.args.moves.now c.args.sources source c.loop-point.point at name row row_at _ _ (c.in_ok-add_reached.ensures.added graph is source at name lt) (c.loop-point.invariant.exact graph is source at name lt);
    }

pub returns : goal.returns
returns c graph is = record {
  size = c.loop-point.invariant.size;
  exact = λ source lt at.
      let e = c.loop-point.invariant.exact graph is source at.0 at.1 lt in
      let whole = ap length c.as_slice-row-items.ensures in (
        λ h. (e.0 h).1,
        λ h.
            let (row, row_at, adds) = h.1 in
            let less = slice_get_within c.args.moves.now.rows at.0 row row_at in
            e.1 (omega (arith, less, whole, c.loop-point-test.false, c.loop-point.auto.point-end), h),
      );
}
