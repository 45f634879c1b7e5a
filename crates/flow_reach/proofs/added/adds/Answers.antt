use Rattle.std.proofs.Common.{subst, sym, ℕ, List, ◌↔◌, ◌≡◌, ◌∙◌, inl, inr, refl, arith, Some}
use Rattle.std.specs.Prelude.{slice_get}
use Rattle.std.specs.Global.{Vec}
use Rattle.std.proofs.lemmas.Option.{slice_get_read}
use Rattle.graph_form.specs.Sets.{Among}
use Rattle.flow_reach.specs.Adds.{Coded, IsAddsOf}
use Rattle.flow_reach.proofs.Sorted.{got_push}
use Rattle.flow_reach.proofs.added.adds.Goals as goal

pub loop-row-preserved : goal.loop-row-preserved
loop-row-preserved c =
    let i = c.loop-row.invariant in
    let made = c.in_ok-pairs.pairs in
    let move = c.row-item.result in
    let at = slice_get_read c.as_slice-row-items.result.now _ c.loop-row.row-index move refl c.loop-row-test.true c.row-item.is in
    let A : List (ℕ × ℕ) → Type 0 = λ ps. (f h : ℕ) → Coded made.items f h ↔ Among ps (f, h) in
    let is : IsAddsOf move made.items = record {
      pairs = subst A c.as_slice.ensures c.in_ok-pairs.ensures.same;
      ascends = c.in_ok-pairs.ensures.ascends;
    } in
    record {
      size = omega (arith, c.in_ok-push.ensures.len, i.size);
      each = λ k xs got.
          let G : List (Vec ℕ) → Type 0 = λ rs. slice_get rs k ≡ Some xs in
          elim (got_push c.loop-row.adds.items made k xs (subst G c.in_ok-push.ensures.items got)) [
            | inl old ↦ i.each k xs old
            | inr (e, same) ↦
                let K : ℕ → Type 0 = λ n. slice_get c.as_slice-row-items.result.now n ≡ Some move in
                let R : Vec ℕ → Type 0 = λ r. IsAddsOf move r.items in
                (move, subst K (sym i.size ∙ sym e) at, subst R same is)
          ];
    }
