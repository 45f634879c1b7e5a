use Rattle.std.proofs.Common.{◌∙◌, ap}
use Rattle.node_tree.specs.Order.{kind_place}
use Rattle.tree_match.proofs.Alike.{checksum_begun, checksum_step}
use Rattle.tree_match.proofs.checksum.+add_checksum.Goals as goal

pub loop-kid-init : goal.loop-kid-init
loop-kid-init t c = record {
  within = c.mix-sum.ensures.within;
  sum = checksum_begun c.args.begin _ _ _ c.args.node.now _ c.mix-sum.ensures.mixed (c.place-kind.ensures ∙ ap kind_place c.content.ensures) (c.as_bytes.ensures.value ∙ c.as_str.ensures) c.as_slice-kid-items.ensures;
}

pub loop-kid-preserved : goal.loop-kid-preserved
loop-kid-preserved t c = record {
  within = c.add_checksum-sum.ensures.within;
  sum = checksum_step _ _ c.as_slice-kid-items.result.now c.loop-kid.kid-index c.kid-item.result c.loop-kid-test.true c.kid-item.is c.add_checksum-sum.ensures.sum ∙ c.loop-kid.invariant.sum;
}
