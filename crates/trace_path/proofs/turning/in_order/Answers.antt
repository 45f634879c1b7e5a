use Rattle.std.proofs.Common.{subst, sym, ℕ, List, ◌↔◌, ◌≡◌, ◌∙◌, inl, inr, refl, arith, Some, length}
use Rattle.std.specs.Prelude.{slice_get}
use Rattle.std.specs.Global.{Vec}
use Rattle.std.proofs.lemmas.Option.{slice_get_read}
use Rattle.graph_form.specs.Sets.{Among}
use Rattle.flow_reach.proofs.Sorted.{got_push}
use Rattle.trace_path.specs.Queue.{Ascends}
use Rattle.trace_path.proofs.Members.{rows_are}
use Rattle.trace_path.proofs.turning.in_order.Goals as goal

pub loop-row-preserved : goal.loop-row-preserved
loop-row-preserved c =
    let i = c.loop-row.invariant in
    let made = c.in_ok-sorted.sorted in
    let old = c.row-item.result in
    let at = slice_get_read c.args.table.now _ c.loop-row.row-index old refl c.loop-row-test.true c.row-item.is in
    let S : List ℕ → Type 0 = λ xs. (x : ℕ) → Among made.items x ↔ Among xs x in
    let same = subst S c.deref.ensures.value c.in_ok-sorted.ensures.same in
    record {
      size = omega (arith, c.in_ok-push.ensures.len, i.size);
      each = λ k row got.
          let G : List (Vec ℕ) → Type 0 = λ rs. slice_get rs k ≡ Some row in
          elim (got_push c.loop-row.rows.items made k row (subst G c.in_ok-push.ensures.items got)) [
            | inl o ↦ i.each k row o
            | inr (e, is) ↦
                let K : ℕ → Type 0 = λ n. slice_get c.args.table.now n ≡ Some old in
                let R : Vec ℕ → Type 0 = λ r. (x : ℕ) → Among r.items x ↔ Among old.items x in
                let A : Vec ℕ → Type 0 = λ r. Ascends r.items in
                (old, subst K (sym i.size ∙ sym e) at, subst R is same, subst A is c.in_ok-sorted.ensures.ascends)
          ];
    }

pub returns : goal.returns
returns c =
    let all : length c.loop-row.rows.items ≡ length c.args.table.now = omega (arith, c.loop-row.invariant.size, c.loop-row-test.false, c.loop-row.auto.row-index-end) in
    rows_are c.args.graph.now c.args.table.now c.loop-row.rows.items c.requires all c.loop-row.invariant.each
