use Rattle.std.proofs.Common.{refl, sym, ◌∙◌, subst}
use Rattle.std.specs.List.{flat_map}
use Rattle.std.proofs.lemmas.List.{take_all, append-nil}
use Rattle.point_nodes.specs.Tops.{nodes_of}
use Rattle.unit_effects.specs.Numbering.{entry_value}
use Rattle.unit_names.proofs.Loops.{copied_more}
use Rattle.const_prop.specs.Idle.{is_heard, unknown, AddsAllSilent}
use Rattle.const_prop.specs.Settled.{all_sightings}
use Rattle.const_prop.proofs.Idling.{none_next}
use Rattle.const_prop.proofs.idle.add_silent.Goals as goal

pub loop-point-init : goal.loop-point-init
loop-point-init c = (refl, sym (append-nil (all_sightings c.args.into.now.items)))

pub loop-point-preserved : goal.loop-point-preserved
loop-point-preserved c =
    let nodes = c.args.tree.now in
    let start = entry_value c.args.entry.now in
    let points = c.as_slice-point-items.result.now in
    let i = c.loop-point.point-index in
    let one = c.in_ok-add_silent_at.ensures c.if-not-branch.false in (
      none_next (λ p. is_heard start (nodes_of nodes p)) points i _ c.loop-point-test.true c.loop-point.invariant.0 one.0,
      copied_more (λ p. flat_map unknown (nodes_of nodes p)) points i _ (all_sightings c.args.into.now.items) _ _ c.loop-point-test.true c.loop-point.invariant.1 one.1,
    )

pub returns-then-not-branch : goal.returns-then-not-branch
returns-then-not-branch c = λ e. absurd cc

pub returns : goal.returns
returns c = λ e. subst (λ ps. AddsAllSilent c.args.tree.now (entry_value c.args.entry.now) ps (all_sightings c.args.into.now.items) (all_sightings c.loop-point.into.items)) (take_all c.loop-point.point-index c.as_slice-point-items.result.now c.loop-point-test.false ∙ c.as_slice-point-items.ensures) c.loop-point.invariant
