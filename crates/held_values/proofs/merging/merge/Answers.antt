use Rattle.std.proofs.Common.{◌≡◌, ℕ, List, length, map, sym, ◌∙◌, ap, subst, arith}
use Rattle.graph_form.specs.Sets.{Among}
use Rattle.graph_form.proofs.Amongs.{among_at}
use Rattle.held_values.specs.declared.assign.Assign.{Assign}
use Rattle.held_values.specs.Holding.{AreInside}
use Rattle.held_values.specs.Merged.{assign_to, AddsNode}
use Rattle.held_values.proofs.Nodes.{IsMerging, merging_first, merging_more, merged_is}
use Rattle.held_values.proofs.merging.merge.Goals as goal

pub loop-node-init : goal.loop-node-init
loop-node-init c =
    let P : List ℕ → Type 0 = λ ns. IsMerging c.args.nodes.now 0 c.args.sources.now.items c.args.sources.now.items ns in
    subst P (sym c.new-names.ensures.items) (merging_first c.args.nodes.now c.args.sources.now.items c.requires.own)

pub add_node-requires : goal.add_node-requires
add_node-requires c =
    let node = c.node-item.result in
    let there = among_at c.args.nodes.now c.loop-node.node-index node c.loop-node-test.true in
    let P : List Assign → Type 0 = λ n. Among c.args.nodes.now n in
    let inside = c.requires.inside node (subst P (sym c.node-item.is) there) in
    let Q : List Assign → Type 0 = λ n. AreInside (length c.loop-node.sources.items) n in
    let R : ℕ → Type 0 = λ n. AreInside n node in
    subst Q (sym c.as_slice.ensures) (subst R (sym c.loop-node.invariant.size) inside)

pub loop-node-preserved : goal.loop-node-preserved
loop-node-preserved c =
    let node = c.node-item.result in
    let there = among_at c.args.nodes.now c.loop-node.node-index node c.loop-node-test.true in
    let P : List Assign → Type 0 = λ n. Among c.args.nodes.now n in
    let inside = c.requires.inside node (subst P (sym c.node-item.is) there) in
    let R : ℕ → Type 0 = λ n. AreInside n node in
    let S : List Assign → Type 0 = λ n. AddsNode n c.loop-node.sources.items c.add_node.new.sources.items c.loop-node.names.items c.add_node.new.names.items in
    merging_more c.args.nodes.now c.loop-node.node-index c.args.sources.now.items c.loop-node.sources.items c.add_node.new.sources.items c.loop-node.names.items c.add_node.new.names.items node c.loop-node-test.true c.node-item.is (subst R (sym c.loop-node.invariant.size) inside) c.loop-node.invariant (subst S c.as_slice.ensures c.in_ok-add_node.ensures)

pub gather-requires : goal.gather-requires
gather-requires c name among =
    let P : List ℕ → Type 0 = λ ns. Among ns name in
    omega (arith, c.loop-node.invariant.names name (subst P c.deref-2.ensures.value among), c.loop-node.invariant.size, ap length c.deref.ensures.value)

pub reset-requires-clause-inside : goal.reset-requires-clause-inside
reset-requires-clause-inside c name among =
    let P : List ℕ → Type 0 = λ ns. Among ns name in
    omega (arith, c.loop-node.invariant.names name (subst P c.deref-3.ensures.value among), c.loop-node.invariant.size)

pub reset-requires-clause-others : goal.reset-requires-clause-others
reset-requires-clause-others c name lt none =
    let P : List ℕ → Type 0 = λ ns. Among ns name in
    c.loop-node.invariant.plain name (omega (arith, lt, c.loop-node.invariant.size)) (λ h. none (subst P (sym c.deref-3.ensures.value) h))

pub returns-clause-merged : goal.returns-clause-merged
returns-clause-merged c =
    let is : c.in_ok-assigns.assigns.items ≡ map (assign_to c.loop-node.sources.items) c.loop-node.names.items =
    c.in_ok-assigns.ensures ∙ ap (λ s. map (assign_to s) c.deref-2.result.now) c.deref.ensures.value ∙ ap (map (assign_to c.loop-node.sources.items)) c.deref-2.ensures.value in
    merged_is c.args.nodes.now c.loop-node.node-index c.args.sources.now.items c.loop-node.sources.items c.loop-node.names.items c.in_ok-assigns.assigns.items c.loop-node-test.false c.loop-node.invariant is
