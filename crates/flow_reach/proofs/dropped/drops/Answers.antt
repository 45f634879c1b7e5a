use Rattle.std.proofs.Common.{arith, refl, subst, ap, ◌∙◌, List, ℕ, ◌≡◌, ◌↔◌, ◌<◌, ◌≤◌, ◌*◌, length, Some, mul_comm}
use Rattle.std.specs.Prelude.{slice_get}
use Rattle.std.proofs.lemmas.Nat.{mul-add-lt}
use Rattle.std.proofs.lemmas.Option.{slice_get_read}
use Rattle.graph_form.specs.Sets.{Among}
use Rattle.flow_reach.specs.declared.moves.Move.{Move}
use Rattle.flow_reach.specs.Bits.{Has, stride_of}
use Rattle.flow_reach.specs.Spread.{At, Dropped}
use Rattle.flow_reach.proofs.Closing.{facts_fit}
use Rattle.std.proofs.Math.Nat.{mul-le-mul_right}
use Rattle.flow_reach.proofs.Words.{has_none}
use Rattle.flow_reach.proofs.Steps.{dropped_more, dropped_none, either_way}
use Rattle.flow_reach.proofs.dropped.drops.Goals as goal

pub overflow_mul-point : goal.overflow_mul-point
overflow_mul-point c =
    let stride = stride_of c.args.moves.now.facts in
    let e : c.loop-point.point * c.stride-stride.result ≡ c.loop-point.point * stride = ap (λ s. c.loop-point.point * s) c.stride-stride.ensures in
    let le : c.loop-point.point ≤ length c.args.moves.now.rows = omega (arith, c.loop-point-test.true, ap length c.as_slice-row-items.ensures) in
    omega (arith, e, mul-le-mul_right {m = c.loop-point.point} {n = length c.args.moves.now.rows} stride le, c.requires.room, c.requires.small)

pub put_facts-requires-clause-room : goal.put_facts-requires-clause-room
put_facts-requires-clause-room c fact among =
    let i = c.loop-point.invariant in
    let stride = stride_of c.args.moves.now.facts in
    let row = c.row-item.result in
    let M : List Move → Type 0 = λ ms. slice_get ms c.loop-point.point ≡ Some row in
    let at = subst M c.as_slice-row-items.ensures (slice_get_read c.as_slice-row-items.result.now _ c.loop-point.point row refl c.loop-point-test.true c.row-item.is) in
    let F : List ℕ → Type 0 = λ fs. Among fs fact in
    let lt = facts_fit c.args.moves.now.facts fact ((c.requires.rows c.loop-point.point row at).drops fact (subst F c.as_slice.ensures among)) in
    let inside : c.loop-point.point < length c.args.moves.now.rows = omega (arith, c.loop-point-test.true, ap length c.as_slice-row-items.ensures) in
    let n = mul-add-lt c.loop-point.point stride fact (length c.args.moves.now.rows) inside lt in
    let e : c.loop-point.point * c.stride-stride.result ≡ c.loop-point.point * stride = ap (λ s. c.loop-point.point * s) c.stride-stride.ensures in
    omega (arith, n, e, c.requires.room, i.room, mul_comm stride (length c.args.moves.now.rows))

pub loop-point-init : goal.loop-point-init
loop-point-init c = record {
  room = c.in_ok-set.ensures.room;
  has = λ k. (
    λ h. absurd (has_none c.in_ok-set.set.items k (c.in_ok-set.ensures.none k) h),
    λ h. absurd (dropped_none c.args.moves.now.rows (stride_of c.args.moves.now.facts) k h),
  );
}

pub loop-point-preserved : goal.loop-point-preserved
loop-point-preserved c =
    let i = c.loop-point.invariant in
    let stride = stride_of c.args.moves.now.facts in
    let row = c.row-item.result in
    let M : List Move → Type 0 = λ ms. slice_get ms c.loop-point.point ≡ Some row in
    let at = subst M c.as_slice-row-items.ensures (slice_get_read c.as_slice-row-items.result.now _ c.loop-point.point row refl c.loop-point-test.true c.row-item.is) in
    record {
      room = c.put_facts.ensures.room ∙ i.room;
      has = λ k.
          let S : ℕ → Type 0 = λ s. At (c.loop-point.point * c.stride-stride.result) c.as_slice.result.now k ↔ At (c.loop-point.point * s) row.drops k in
          let D : List ℕ → Type 0 = λ ds. At (c.loop-point.point * c.stride-stride.result) c.as_slice.result.now k ↔ At (c.loop-point.point * c.stride-stride.result) ds k in
          either_way _ _ _ _ _ _ (c.put_facts.ensures.has k) (i.has k) (subst S c.stride-stride.ensures (subst D c.as_slice.ensures (λ h. h, λ h. h))) (dropped_more c.args.moves.now.rows stride c.loop-point.point k row at);
    }

pub returns-clause-has : goal.returns-clause-has
returns-clause-has c k =
    let e : c.loop-point.point ≡ length c.args.moves.now.rows = omega (arith, c.loop-point-test.false, c.loop-point.auto.point-end, ap length c.as_slice-row-items.ensures) in
    let P : ℕ → Type 0 = λ n. Has c.loop-point.set.items k ↔ Dropped c.args.moves.now.rows (stride_of c.args.moves.now.facts) n k in
    subst P e (c.loop-point.invariant.has k)
