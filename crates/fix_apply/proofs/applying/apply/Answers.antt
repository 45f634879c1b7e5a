use Rattle.std.proofs.Common.{◌≡◌, ◌+◌, ◌-◌, ◌++◌, ◌∙◌, ℕ, List, length, take, drop, ap, subst, arith}
use Rattle.report_form.specs.declared.edit.Edit.{Edit}
use Rattle.fix_apply.specs.Applied.{LieIn, applied}
use Rattle.fix_apply.proofs.Applications.{next_item, lie_within, edit_on}
use Rattle.fix_apply.proofs.applying.apply.Goals as goal

pub slice_bounds-extend-end : goal.slice_bounds-extend-end
slice_bounds-extend-end c =
    let size = length c.args.bytes.now in
    let rest = drop (c.loop-edit.edit-index + 1) c.as_slice-edits.result.now in
    let P : List Edit → Type 0 = λ es. LieIn c.loop-edit.at size es in
    let lie = subst P (next_item c.as_slice-edits.result.now c.loop-edit.edit-index c.edit-item.result c.loop-edit-test.true c.edit-item.is) c.loop-edit.invariant.lie in
    let end = lie_within c.edit-item.result.span.to size rest lie.2 in
    omega (arith, lie.1, end)

pub loop-edit-preserved : goal.loop-edit-preserved
loop-edit-preserved c =
    let text = c.args.bytes.now in
    let at = c.loop-edit.at in
    let e = c.edit-item.result in
    let rest = drop (c.loop-edit.edit-index + 1) c.as_slice-edits.result.now in
    let P : List Edit → Type 0 = λ es. LieIn at (length text) es in
    let Q : List Edit → Type 0 = λ es. c.loop-edit.whole ++ drop at (applied text es) ≡ applied text c.as_slice-edits.result.now in
    let on = next_item c.as_slice-edits.result.now c.loop-edit.edit-index e c.loop-edit-test.true c.edit-item.is in
    let lie = subst P on c.loop-edit.invariant.lie in
    record {
      lie = lie.2;
      adds =
          ap (λ (xs : List ℕ). xs ++ drop e.span.to (applied text rest))
          (c.in_ok-extend-2.ensures.ok
          ∙ ap (λ (xs : List ℕ). xs ++ c.as_bytes.result.now) c.in_ok-extend.ensures.ok
          ∙ ap (λ (xs : List ℕ). (c.loop-edit.whole ++ take (e.span.from - at) (drop at text)) ++ xs) (c.as_bytes.ensures.value ∙ c.as_str.ensures))
          ∙ edit_on text c.loop-edit.whole (applied text c.as_slice-edits.result.now) at e rest lie (subst Q on c.loop-edit.invariant.adds);
    }
