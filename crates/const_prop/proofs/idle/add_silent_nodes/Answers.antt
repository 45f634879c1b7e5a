use Rattle.std.proofs.Common.{refl, sym, ◌∙◌, subst}
use Rattle.std.proofs.lemmas.List.{take_all, append-nil}
use Rattle.node_tree.specs.Numbers.{Numbered}
use Rattle.node_pool.specs.Spots.{seen, all_seen}
use Rattle.point_nodes.proofs.Parts.{flat_more}
use Rattle.unit_effects.specs.Numbering.{entry_value}
use Rattle.const_prop.specs.Idle.{holds, unknown, AddsSilent}
use Rattle.const_prop.specs.Settled.{all_sightings}
use Rattle.const_prop.proofs.Idling.{none_seen}
use Rattle.const_prop.proofs.idle.add_silent_nodes.Goals as goal

pub loop-spot-init : goal.loop-spot-init
loop-spot-init c = (refl, sym (append-nil (all_sightings c.args.into.now.items)))

pub loop-spot-preserved : goal.loop-spot-preserved
loop-spot-preserved c =
    let start = entry_value c.args.entry.now in
    let spots = c.args.spots.now in
    let i = c.loop-spot.spot-index in (
      none_seen seen (λ (s : Numbered). holds start s.node) spots i c.spot-item.result c.loop-spot-test.true c.spot-item.is c.loop-spot.invariant.0 (sym c.holds.ensures ∙ c.if-holds.false),
      flat_more seen unknown spots i c.spot-item.result (all_sightings c.args.into.now.items) _ _ c.loop-spot-test.true c.spot-item.is c.loop-spot.invariant.1 c.in_ok-add_unknown.ensures,
    )

pub returns-then-holds : goal.returns-then-holds
returns-then-holds c = λ e. absurd cc

pub returns : goal.returns
returns c = λ e. subst (λ ss. AddsSilent (entry_value c.args.entry.now) (all_seen ss) (all_sightings c.args.into.now.items) (all_sightings c.loop-spot.into.items)) (take_all c.loop-spot.spot-index c.args.spots.now c.loop-spot-test.false) c.loop-spot.invariant
