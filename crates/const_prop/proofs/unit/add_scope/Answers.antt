use Rattle.std.proofs.Common.{◌++◌, sym, ap, ◌∙◌}
use Rattle.unit_effects.specs.Numbering.{entry_value}
use Rattle.const_prop.specs.Idle.{all_unknown}
use Rattle.const_prop.specs.Settled.{all_sightings}
use Rattle.const_prop.proofs.Adding.{map_ok}
use Rattle.const_prop.proofs.Idling.{idle_adds}
use Rattle.const_prop.proofs.unit.add_scope.Goals as goal

pub returns : goal.returns
returns c =
    let old = all_sightings c.args.into.now.items in
    let added = c.in_ok-add_silent.ensures c.if-not-branch.false in
    let unknown = added.1 ∙ ap (λ (gs : _). all_sightings gs ++ all_unknown c.args.tree.now c.args.scope.now.graph.points) c.new-unknown.ensures.items in
    map_ok c.add_all.result _ _ (λ is. idle_adds c.args.tree.now (entry_value c.args.entry.now) c.args.scope.now (sym c.in_ok-is_given.ensures ∙ c.if-branch.false) added.0 old (all_sightings c.add_all.new.into.items)
    (is ∙ ap (λ gs. old ++ all_sightings gs) c.deref.ensures.value ∙ ap (λ gs. old ++ gs) unknown)) c.add_all.ensures
