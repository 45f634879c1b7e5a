use Rattle.std.proofs.Common.{◌≡◌, inl, inr, List, length, Some, refl, sym, ap, subst, ◌∙◌, arith, length-append}
use Rattle.std.specs.Prelude.{slice_get}
use Rattle.std.proofs.lemmas.Option.{slice_get_read}
use Rattle.flow_reach.specs.declared.moves.Move.{Move}
use Rattle.flow_reach.proofs.Sorted.{got_push}
use Rattle.taint_flow.specs.Splits.{TurnsNames}
use Rattle.taint_flow.proofs.split.names_moves.Goals as goal

pub loop-row-preserved : goal.loop-row-preserved
loop-row-preserved c =
    let xs = c.as_slice-row-items.result.now in
    let i = c.loop-row.row-index in
    let old = c.loop-row.rows in
    let made = c.in_ok-named.field-0 in
    let x = c.row-item.result in
    let inv = c.loop-row.invariant in
    let x_at = slice_get_read xs (length xs) i x refl c.loop-row-test.true c.row-item.is in
    record {
      size = omega (arith, inv.size, ap length c.in_ok-push.ensures.ok, length-append {A = Move});
      each = λ k row named at got.
          let G : List Move → Type 0 = λ rs. slice_get rs k ≡ Some named in
          elim (got_push old made k named (subst G c.in_ok-push.ensures.ok got)) [
            | inl o ↦ inv.each k row named at o
            | inr (e, is) ↦
                let same : x ≡ row = let q : Some x ≡ Some row = sym x_at ∙ ap (slice_get xs) (sym (e ∙ inv.size)) ∙ at in cc in
                let P : Move → Type 0 = λ r. TurnsNames c.args.sources r made in
                let N : Move → Type 0 = λ m. TurnsNames c.args.sources row m in
                subst N is (subst P same c.in_ok-named.ensures)
          ];
    }

pub returns : goal.returns
returns c =
    let all = ap length c.as_slice-row-items.ensures in
    record {
      facts = omega (arith, c.requires);
      rows = omega (arith, c.loop-row.invariant.size, all, c.loop-row-test.false, c.loop-row.auto.row-index-end);
      each = λ i row named at got.
          let P : List Move → Type 0 = λ ms. slice_get ms i ≡ Some row in
          c.loop-row.invariant.each i row named (subst P (sym c.as_slice-row-items.ensures) at) got;
    }
