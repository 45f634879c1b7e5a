use Rattle.std.proofs.Common.{◌++◌, ap, ◌∙◌}
use Rattle.unit_names.specs.Seen.{all_words}
use Rattle.unit_names.specs.Names as spec
use Rattle.assignments.proofs.Loops.{flat_done}
use Rattle.point_nodes.proofs.Parts.{flat_more}
use Rattle.node_pool.specs.Spots.{seen, all_seen}
use Rattle.node_tree.specs.Numbers.{Numbered}
use Rattle.node_tree.specs.Tree.{text_of, kind_of}
use Rattle.unit_names.proofs.hiding.add_referred_at.Goals as goal

pub loop-spot-preserved : goal.loop-spot-preserved
loop-spot-preserved c = let n = c.spot-item.result.node.now in flat_more seen (λ (s : Numbered). spec.referred_in s.node) c.as_slice-spot-items.result.now c.loop-spot.spot-index c.spot-item.result _ _ _ c.loop-spot-test.true c.spot-item.is c.loop-spot.invariant (c.in_ok-add_referred_by.ensures ∙ ap (λ kids. all_words c.loop-spot.into ++ spec.referred_by (kind_of n) (text_of n) kids) c.as_slice.ensures)

pub returns : goal.returns
returns c = flat_done seen (λ (s : Numbered). spec.referred_in s.node) c.as_slice-spot-items.result.now c.loop-spot.spot-index _ (all_words c.args.into.now) _ c.loop-spot-test.false (ap all_seen c.as_slice-spot-items.ensures ∙ c.in_ok-spots.ensures) c.loop-spot.invariant
