use Rattle.std.proofs.Common.{◌≡◌, ◌++◌, ap, ◌∙◌}
use Rattle.std.specs.BTreeSet.{contains}
use Rattle.std.specs.List.{flat_map}
use Rattle.std.specs.Ordering.{nat_cmp}
use Rattle.node_pool.specs.Spots.{seen, all_seen}
use Rattle.point_nodes.specs.Tops.{nodes_of}
use Rattle.point_nodes.proofs.Parts.{flat_more}
use Rattle.assignments.proofs.Loops.{flat_done}
use Rattle.const_prop.specs.Constants.{target_numbers}
use Rattle.const_prop.specs.Settled.{all_sightings}
use Rattle.const_prop.specs.Views.{is_in, sighted, held_at}
use Rattle.const_prop.proofs.view.View.add_point.Goals as goal

pub loop-spot-preserved : goal.loop-spot-preserved
loop-spot-preserved c =
    flat_more seen (sighted (contains nat_cmp c.in_ok-targets.targets) (held_at c.args.self.now c.args.place)) c.as_slice-spot-items.result.now c.loop-spot.spot-index c.spot-item.result (all_sightings c.args.into.now.items) _ _ c.loop-spot-test.true c.spot-item.is c.loop-spot.invariant c.in_ok-add_node.ensures

pub returns : goal.returns
returns c =
    let held = held_at c.args.self.now c.args.place in
    let same : contains nat_cmp c.in_ok-targets.targets ≡ is_in (target_numbers c.args.tree.now c.args.point) = λ i at. c.in_ok-targets.ensures at i in
    flat_done seen (sighted (contains nat_cmp c.in_ok-targets.targets) held) c.as_slice-spot-items.result.now c.loop-spot.spot-index (nodes_of c.args.tree.now c.args.point) (all_sightings c.args.into.now.items) _ c.loop-spot-test.false
    (ap all_seen c.as_slice-spot-items.ensures ∙ c.in_ok-nodes.ensures) c.loop-spot.invariant
    ∙ ap (λ test. all_sightings c.args.into.now.items ++ flat_map (sighted test held) (nodes_of c.args.tree.now c.args.point)) same
