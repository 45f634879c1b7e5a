use Rattle.std.proofs.Common.{◌≡◌, ◌++◌, take}
use Rattle.std.specs.List.{flat_map}
use Rattle.import_names.specs.Claims as spec
use Rattle.import_names.proofs.alias.add_aliases.Given as goal

abbrev pub invariant-loop-alias : goal.invariant-loop-alias
invariant-loop-alias l = l.into.items ≡ l.initial.into.items ++ flat_map (spec.alias_claims l.origin) (take l.alias-index l.aliases)
