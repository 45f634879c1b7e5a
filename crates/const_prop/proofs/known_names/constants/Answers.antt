use Rattle.std.proofs.Common.{length, sym, ap, ◌∙◌, subst}
use Rattle.unit_names.specs.Scopes.{AreScopes}
use Rattle.const_prop.specs.Constants.{AreConstants}
use Rattle.const_prop.specs.Settled.{all_sightings, AreSettled}
use Rattle.const_prop.proofs.Only.{constants_only}
use Rattle.const_prop.proofs.Sightings.{known_from, names_are}
use Rattle.const_prop.proofs.known_names.constants.Goals as goal

pub sightings_of-requires-clause-units : goal.sightings_of-requires-clause-units
sightings_of-requires-clause-units c = subst (AreScopes c.args.root.now) (sym c.as_slice.ensures) c.in_ok-scopes.ensures

pub returns : goal.returns
returns c =
    let are : AreConstants c.args.root.now c.in_ok-known.known =
    known_from c.args.root.now c.in_ok-tree.tree c.as_slice.result.now (all_sightings c.in_ok-sightings.sightings.items) c.count.result c.in_ok-known.known c.in_ok-tree.ensures
    (subst (AreScopes c.args.root.now) (sym c.as_slice.ensures) c.in_ok-scopes.ensures) c.in_ok-sightings.ensures (c.count.ensures ∙ ap length c.in_ok-tree.ensures)
    (subst (λ gs. AreSettled c.in_ok-tree.tree (all_sightings gs) c.count.result c.in_ok-known.known) c.deref.ensures.value c.in_ok-known.ensures) in
    record { constants = are; only = λ l h. constants_only c.args.root.now c.in_ok-known.known l are h; names = names_are c.args.root.now c.in_ok-known.known are; in_order = are.in_order }
