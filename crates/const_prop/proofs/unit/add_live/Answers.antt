use Rattle.std.proofs.Common.{◌++◌, sym, ap, ◌∙◌, subst}
use Rattle.held_values.specs.Holding.{Fits}
use Rattle.unit_effects.specs.Numbering.{hides, entry_value}
use Rattle.const_prop.specs.Settled.{all_sightings}
use Rattle.const_prop.specs.Views.{held_by, sightings_from}
use Rattle.const_prop.proofs.Adding.{map_ok, scope_adds}
use Rattle.const_prop.proofs.Fitting.{fits}
use Rattle.const_prop.proofs.unit.add_live.Goals as goal

pub held-requires : goal.held-requires
held-requires c =
    subst (Fits c.args.scope.now.graph) (sym c.in_ok-effects.ensures)
    (fits c.in_ok-names.names c.in_ok-literals.literals (hides c.args.entry.now) c.args.tree.now (entry_value c.args.entry.now) c.args.scope.now c.requires.whole c.in_ok-names.ensures.few)

pub returns : goal.returns
returns c =
    let nodes = c.args.tree.now in
    let s = c.args.scope.now in
    let names = c.in_ok-names.names in
    let literals = c.in_ok-literals.literals in
    let old = all_sightings c.args.into.now.items in
    let new = all_sightings c.add_unit.new.into.items in
    map_ok c.add_unit.result _ _ (λ is. scope_adds nodes s (entry_value c.args.entry.now) (hides c.args.entry.now) c.requires.hiding names literals c.in_ok-names.ensures.names c.in_ok-literals.ensures c.in_ok-effects.effects c.in_ok-effects.ensures
    c.in_ok-held.held c.in_ok-held.ensures old new (is ∙ ap (λ o. old ++ sightings_from nodes (held_by o names literals) 0 s.graph.points) c.as_ref.ensures.value)) c.add_unit.ensures
