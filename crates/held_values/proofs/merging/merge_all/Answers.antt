use Rattle.std.proofs.Common.{◌≡◌, ℕ, List, length, get_or, sym, ◌∙◌, ap, subst, arith}
use Rattle.graph_form.specs.Sets.{Among}
use Rattle.graph_form.proofs.Amongs.{among_at}
use Rattle.held_values.specs.declared.assign.Assign.{Assign}
use Rattle.held_values.specs.Holding.{AreAllInside}
use Rattle.held_values.specs.Merged.{IsMerged, IsIndex, IsMergedOf}
use Rattle.held_values.proofs.Gathering.{merged_none, merged_more}
use Rattle.held_values.proofs.merging.merge_all.Goals as goal

pub loop-nodes-init : goal.loop-nodes-init
loop-nodes-init c = record {
  room = c.in_ok-sources.ensures.size ∙ c.len.ensures;
  own = c.in_ok-sources.ensures.own;
  merged = merged_none c.args.effects.now c.new-all.result.items c.new-all.ensures.items;
}

pub merge-requires-clause-own : goal.merge-requires-clause-own
merge-requires-clause-own c = c.loop-nodes.invariant.own

pub merge-requires-clause-inside : goal.merge-requires-clause-inside
merge-requires-clause-inside c =
    let nodes = c.nodes-item.result in
    let there = among_at c.as_slice-nodes-items.result.now c.loop-nodes.nodes-index nodes c.loop-nodes-test.true in
    let P : List (List Assign) → Type 0 = λ n. Among c.as_slice-nodes-items.result.now n in
    let A : List (List (List Assign)) → Type 0 = λ all. Among all nodes in
    let inside = c.requires.inside nodes (subst A c.as_slice-nodes-items.ensures (subst P (sym c.nodes-item.is) there)) in
    let Q : List (List Assign) → Type 0 = λ n. AreAllInside (length c.loop-nodes.sources.items) n in
    let R : ℕ → Type 0 = λ n. AreAllInside n nodes in
    subst Q (sym c.as_slice.ensures) (subst R (sym c.loop-nodes.invariant.room) inside)

pub loop-nodes-preserved : goal.loop-nodes-preserved
loop-nodes-preserved c =
    let i = c.loop-nodes.invariant in
    let nodes = c.nodes-item.result in
    let M : ℕ → Type 0 = λ n. IsMerged n c.as_slice.result.now c.in_ok-assigns.assigns.items in
    let N : List (List Assign) → Type 0 = λ n. IsMerged (length c.args.effects.now.start) n c.in_ok-assigns.assigns.items in
    let X : List Assign → Type 0 = λ a. IsIndex a c.in_ok-index.index.items in
    let this : IsMergedOf (length c.args.effects.now.start) nodes (record { assigns = c.in_ok-assigns.assigns; index = c.in_ok-index.index }) = record {
      assigns = subst N c.as_slice.ensures (subst M i.room c.in_ok-assigns.ensures.merged);
      index = subst X c.deref.ensures.value c.in_ok-index.ensures;
    } in
    let read : nodes ≡ get_or c.args.effects.now.points c.loop-nodes.nodes-index nodes = c.nodes-item.is ∙ ap (λ xs. get_or xs c.loop-nodes.nodes-index nodes) c.as_slice-nodes-items.ensures in
    record {
      room = c.in_ok-assigns.ensures.size ∙ i.room;
      own = c.in_ok-assigns.ensures.own;
      merged = merged_more c.args.effects.now c.loop-nodes.nodes-index c.loop-nodes.all.items c.push.new.self.items _ nodes c.in_ok-push.ensures.items read (omega (arith, c.loop-nodes-test.true, ap length c.as_slice-nodes-items.ensures)) this i.merged;
    }

pub returns : goal.returns
returns c =
    let i = c.loop-nodes.invariant in
    record {
      size = omega (arith, i.merged.size, c.loop-nodes-test.false, c.loop-nodes.auto.nodes-index-end, ap length c.as_slice-nodes-items.ensures);
      each = i.merged.each;
    }
