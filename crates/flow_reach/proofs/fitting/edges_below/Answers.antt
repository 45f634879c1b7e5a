use Rattle.std.proofs.Common.{refl, arith, ap, subst, inl, inr, List, ◌≡◌, take}
use Rattle.std.proofs.lemmas.List.{take_all}
use Rattle.graph_form.specs.declared.graph.Edge.{Edge}
use Rattle.graph_form.proofs.Amongs.{among_at, among_more}
use Rattle.flow_reach.specs.Fitting.{AreEdgesBelow}
use Rattle.flow_reach.proofs.Steps.{not_true}
use Rattle.flow_reach.proofs.fitting.edges_below.Goals as goal

pub returns-then-edge-points : goal.returns-then-edge-points
returns-then-edge-points c = (λ t. absurd (not_true t), λ all. absurd (omega (arith, (all _ (among_at c.args.edges.now c.loop-edge.edge-index (record { from = 0; to = 0 }) c.loop-edge-test.true)).0, c.if-edge-points.true)))

pub returns-then-edge-points-2 : goal.returns-then-edge-points-2
returns-then-edge-points-2 c = (λ t. absurd (not_true t), λ all. absurd (omega (arith, (all _ (among_at c.args.edges.now c.loop-edge.edge-index (record { from = 0; to = 0 }) c.loop-edge-test.true)).1, c.if-edge-points-2.true)))

pub loop-edge-preserved : goal.loop-edge-preserved
loop-edge-preserved c x among = elim ((among_more c.args.edges.now c.loop-edge.edge-index (record { from = 0; to = 0 }) c.loop-edge-test.true x).0 among) [
  | inl a ↦ c.loop-edge.invariant x a
  | inr e ↦ (omega (arith, ap (λ (p : Edge). p.from) e, c.if-edge-points.false), omega (arith, ap (λ (p : Edge). p.to) e, c.if-edge-points-2.false))
]

pub returns : goal.returns
returns c =
    let whole : take c.loop-edge.edge-index c.args.edges.now ≡ c.args.edges.now = take_all c.loop-edge.edge-index c.args.edges.now c.loop-edge-test.false in
    let P : List Edge → Type 0 = λ xs. AreEdgesBelow xs c.args.points in
    (λ t. subst P whole c.loop-edge.invariant, λ all. refl)
