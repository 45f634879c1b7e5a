use Rattle.std.proofs.Common.{◌≡◌, ◌++◌, refl, sym, ap, ◌∙◌, subst}
use Rattle.std.specs.List.{flat_map}
use Rattle.std.proofs.lemmas.List.{take_all}
use Rattle.unit_names.specs.Names.{shared_in}
use Rattle.unit_names.specs.Seen.{all_words}
use Rattle.unit_names.specs.Words.{each_once}
use Rattle.unit_effects.specs.Functions.{AreOpen, all_functions, entered}
use Rattle.const_prop.specs.Settled.{all_sightings}
use Rattle.const_prop.specs.Units.{AreSeen}
use Rattle.const_prop.proofs.Around.{none_open, hiding_is}
use Rattle.const_prop.proofs.Sightings.{none_seen}
use Rattle.const_prop.proofs.UnitSteps.{unit_whole, unit_open, unit_seen, unit_start}
use Rattle.const_prop.proofs.scopes.sightings_of.Goals as goal

pub loop-scope-init : goal.loop-scope-init
loop-scope-init c = record {
  opened = none_open c.args.tree.now (all_functions c.new-functions.result.items) (ap all_functions c.new-functions.ensures.items);
  seen = none_seen c.args.tree.now c.args.scopes.now (all_sightings c.new-sightings.result.items) (ap all_sightings c.new-sightings.ensures.items);
}

pub of-requires-clause-shared : goal.of-requires-clause-shared
of-requires-clause-shared c = ap all_words c.as_slice.ensures ∙ c.in_ok-words.ensures ∙ ap (flat_map shared_in) (sym c.requires.nodes)

pub add_scope-requires-clause-whole : goal.add_scope-requires-clause-whole
add_scope-requires-clause-whole c =
    unit_whole c.args.root.now c.args.tree.now c.args.scopes.now c.requires.units c.loop-scope.scope-index c.scope-item.result c.loop-scope-test.true c.scope-item.is

pub add_scope-requires-clause-hiding : goal.add_scope-requires-clause-hiding
add_scope-requires-clause-hiding c =
    hiding_is c.args.tree.now c.scope-item.result c.in_ok-shared.shared c.in_ok-referred.referred
    (c.in_ok-shared.ensures ∙ ap each_once (ap all_words c.as_slice-2.ensures ∙ c.in_ok-words.ensures) ∙ ap (λ ns. each_once (flat_map shared_in ns)) (sym c.requires.nodes)) c.in_ok-referred.ensures

pub loop-scope-preserved : goal.loop-scope-preserved
loop-scope-preserved c =
    let nodes = c.args.tree.now in
    let scopes = c.args.scopes.now in
    let i = c.loop-scope.scope-index in
    let s = c.scope-item.result in
    let old = all_functions c.loop-scope.functions.items in
    let left = all_functions c.in_ok-functions.functions.items in
    let new = all_functions c.enter_function.new.functions.items in
    let dropped : AreOpen s.unit old left = c.in_ok-functions.ensures in
    let more : new ≡ left ++ entered nodes s = c.in_ok-enter_function.ensures in
    let shared : c.in_ok-shared.shared ≡ each_once (flat_map shared_in nodes) = c.in_ok-shared.ensures ∙ ap each_once (ap all_words c.as_slice-2.ensures ∙ c.in_ok-words.ensures) ∙ ap (λ ns. each_once (flat_map shared_in ns)) (sym c.requires.nodes) in
    record {
      opened = unit_open c.args.root.now nodes scopes c.requires.units i s c.loop-scope-test.true c.scope-item.is old left new c.loop-scope.invariant.opened dropped more;
      seen =
          unit_seen c.args.root.now nodes scopes c.requires.units i s c.loop-scope-test.true c.scope-item.is old left new c.loop-scope.invariant.opened dropped more
          _ (all_sightings c.loop-scope.sightings.items) (all_sightings c.add_scope.new.into.items) c.loop-scope.invariant.seen c.in_ok-add_scope.ensures
          (unit_start c.args.root.now nodes scopes c.requires.units i s c.loop-scope-test.true c.scope-item.is old left new c.loop-scope.invariant.opened dropped more
          _ refl (hiding_is nodes s c.in_ok-shared.shared c.in_ok-referred.referred shared c.in_ok-referred.ensures) c.in_ok-fixed.ensures (ap all_functions c.deref.ensures.value));
    }

pub returns : goal.returns
returns c =
    subst (λ ss. AreSeen c.args.tree.now c.args.scopes.now ss (all_sightings c.loop-scope.sightings.items)) (take_all c.loop-scope.scope-index c.args.scopes.now c.loop-scope-test.false) c.loop-scope.invariant.seen
