use Rattle.std.proofs.Common.{arith, ◌<◌, refl, sym, ◌∙◌, subst, List, ℕ, ◌⊎◌, ◌↔◌, ◌≡◌, length, take, get_or, length-set}
use Rattle.std.specs.Global.{Vec}
use Rattle.std.proofs.lemmas.List.{take_all}
use Rattle.std.proofs.lemmas.Option.{slice_get_read}
use Rattle.graph_form.specs.declared.graph.Edge.{Edge}
use Rattle.graph_form.specs.Sets.{Among}
use Rattle.flow_reach.specs.Spread.{RowHas}
use Rattle.graph_form.proofs.Amongs.{among_more, among_push, among_at}
use Rattle.flow_reach.proofs.Steps.{rows_none, row_push, edge_is, either_way}
use Rattle.flow_reach.proofs.successor_table.successors.Goals as goal

pub loop-preserved : goal.loop-preserved
loop-preserved c = record {
  rows = omega (arith, c.in_ok-push.ensures.len);
  none = λ from to h.
      let P : List (Vec ℕ) → Type 0 = λ t. RowHas t from to in
      rows_none c.loop.table.items c.new.result from to c.loop.invariant.none c.new.ensures.items (subst P c.in_ok-push.ensures.items h);
}

pub loop-edge-init : goal.loop-edge-init
loop-edge-init c = record {
  rows = omega arith;
  exact = λ from to. (c.loop.invariant.none from to, λ h. absurd h);
}

pub index_mut-requires : goal.index_mut-requires
index_mut-requires c =
    let e = get_or c.as_slice-edge-items.result.now c.loop-edge.edge-index (record { from = 0; to = 0 }) in
    let P : List Edge → Type 0 = λ es. Among es e in
    omega (arith, c.requires e.from e.to (subst P c.as_slice-edge-items.ensures (among_at c.as_slice-edge-items.result.now c.loop-edge.edge-index (record { from = 0; to = 0 }) c.loop-edge-test.true)), c.loop-edge.invariant.rows)

pub loop-edge-preserved : goal.loop-edge-preserved
loop-edge-preserved c =
    let d : Edge = record { from = 0; to = 0 } in
    let e = get_or c.as_slice-edge-items.result.now c.loop-edge.edge-index d in
    let P : List Edge → Type 0 = λ es. Among es e in
    let lt : e.from < length c.loop-edge.table.items = omega (arith, c.requires e.from e.to (subst P c.as_slice-edge-items.ensures (among_at c.as_slice-edge-items.result.now c.loop-edge.edge-index d c.loop-edge-test.true)), c.loop-edge.invariant.rows) in
    let row = slice_get_read c.loop-edge.table.items _ e.from c.index_mut.result.now refl lt c.index_mut.ensures.value in
    record {
      rows = length-set _ _ _ ∙ c.loop-edge.invariant.rows;
      exact = λ from to.
          either_way _ _ _ _ _ _
          (row_push c.loop-edge.table.items e.from from c.index_mut.result.now c.push-in-loop-edge.new.self e.to to row (λ x.
          let Q : List ℕ → Type 0 = λ xs. Among xs x ↔ (Among c.index_mut.result.now.items x ⊎ (e.to ≡ x)) in
          subst Q (sym c.in_ok-push-2.ensures.items) (among_push c.index_mut.result.now.items e.to x)))
          (c.loop-edge.invariant.exact from to)
          (let p = edge_is e from to in (p.1, p.0))
          (among_more c.as_slice-edge-items.result.now c.loop-edge.edge-index d c.loop-edge-test.true (record { from = from; to = to }));
    }

pub returns : goal.returns
returns c =
    let whole : take c.loop-edge.edge-index c.as_slice-edge-items.result.now ≡ c.args.graph.now.edges = take_all c.loop-edge.edge-index c.as_slice-edge-items.result.now c.loop-edge-test.false ∙ c.as_slice-edge-items.ensures in
    record {
      rows = c.loop-edge.invariant.rows;
      exact = λ from to.
          let P : List Edge → Type 0 = λ es. RowHas c.loop-edge.table.items from to ↔ Among es (record { from = from; to = to }) in
          subst P whole (c.loop-edge.invariant.exact from to);
    }
