use Rattle.std.proofs.Common.{take}
use Rattle.unit_effects.specs.Functions.{all_functions}
use Rattle.const_prop.specs.Settled.{all_sightings}
use Rattle.const_prop.specs.Units.{AreSeen, AreStillOpen}
use Rattle.const_prop.proofs.scopes.sightings_of.Given as goal

abbrev pub invariant-loop-scope : goal.invariant-loop-scope
invariant-loop-scope l = record {
  opened : AreStillOpen l.tree (take l.scope-index l.scopes) (all_functions l.functions.items);
  seen : AreSeen l.tree l.scopes (take l.scope-index l.scopes) (all_sightings l.sightings.items);
}
