use Rattle.std.proofs.Common.{◌++◌, ap, ◌∙◌, refl}
use Rattle.unit_names.specs.Seen.{all_words}
use Rattle.unit_names.specs.Names as spec
use Rattle.assignments.proofs.Loops.{flat_done}
use Rattle.point_nodes.proofs.Parts.{flat_more}
use Rattle.node_pool.specs.Spots.{seen}
use Rattle.node_tree.specs.Numbers.{Numbered}
use Rattle.unit_names.proofs.tables.add_name_nodes.Goals as goal

pub loop-spot-preserved : goal.loop-spot-preserved
loop-spot-preserved c = flat_more seen (λ (s : Numbered). spec.name_here s.node) c.args.spots.now c.loop-spot.spot-index c.spot-item.result _ _ _ c.loop-spot-test.true c.spot-item.is c.loop-spot.invariant (c.in_ok-add_if.ensures ∙ ap (λ ws. all_words c.loop-spot.into ++ ws) c.name_here.ensures)

pub returns : goal.returns
returns c = flat_done seen (λ (s : Numbered). spec.name_here s.node) c.args.spots.now c.loop-spot.spot-index _ (all_words c.args.into.now) _ c.loop-spot-test.false refl c.loop-spot.invariant
