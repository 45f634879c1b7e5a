use Rattle.std.proofs.Common.{◌≡◌, ◌++◌, take}
use Rattle.std.specs.List.{flat_map}
use Rattle.unit_names.specs.Seen.{all_words}
use Rattle.unit_effects.specs.Fixed as spec
use Rattle.unit_effects.proofs.fixed.add_c_functions.Given as goal

abbrev pub invariant-loop-scope : goal.invariant-loop-scope
invariant-loop-scope l = all_words l.into ≡ all_words l.initial.into ++ flat_map (spec.c_words l.tree) (take l.scope-index l.scopes)
