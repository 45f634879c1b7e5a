use Rattle.std.proofs.Common.{◌∙◌, ◌+◌, ◌++◌, arith, ap, sym, refl, subst, List}
use Rattle.node_tree.specs.declared.node.Node.{Node}
use Rattle.node_pool.specs.declared.spot.Spot.{Spot}
use Rattle.node_pool.specs.Preorder.{AreAt}
use Rattle.node_tree.specs.Numbers.{siblings}
use Rattle.node_pool.specs.Spots.{all_seen}
use Rattle.node_pool.proofs.Placing.{kids_here}
use Rattle.node_pool.proofs.SpotKids.{kid_stands_here, next_at, kids_more, kids_done}
use Rattle.node_pool.proofs.spot.Spot.kids.Goals as goal

pub overflow_add-next : goal.overflow_add-next
overflow_add-next c = omega (arith, c.args.self.stands.lt, c.args.self.stands.small)

pub loop-node-init : goal.loop-node-init
loop-node-init c =
    let s = c.args.self in
    let P : List Node → Type 0 = λ ks. AreAt s.pool.now.nodes (s.at + 1) ks in
    record {
      at = subst P (sym c.as_slice-node-items.ensures) (kids_here _ _ _ s.stands.lt s.stands.is s.stands.below);
      kids = ap (λ (xs : List Spot). all_seen xs ++ siblings (s.at + 1) c.as_slice-node-items.result.now) c.new-kids.ensures ∙ ap (siblings (s.at + 1)) c.as_slice-node-items.ensures;
    }

pub invariant_of-kid : goal.invariant_of-kid
invariant_of-kid c = record { stands = kid_stands_here _ _ _ _ _ c.loop-node.invariant.at c.loop-node-test.true c.node-item.is c.args.self.stands.small }

pub loop-node-preserved : goal.loop-node-preserved
loop-node-preserved c = record {
  at = next_at _ _ _ _ _ _ c.loop-node.invariant.at c.loop-node-test.true c.node-item.is c.size-next.ensures.size;
  kids = kids_more _ _ _ _ _ _ _ _ _ c.in_ok-push.ensures.ok refl c.size-next.ensures.size c.loop-node-test.true c.node-item.is c.loop-node.invariant.kids;
}

pub returns : goal.returns
returns c = kids_done _ _ _ _ _ c.loop-node-test.false c.loop-node.invariant.kids
