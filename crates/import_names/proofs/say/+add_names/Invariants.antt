use Rattle.std.proofs.Common.{◌≡◌, ◌++◌, take, map}
use Rattle.std.specs.List.{flat_map}
use Rattle.import_names.specs.Claims as spec
use Rattle.import_names.proofs.say.+add_names.Given as goal

abbrev pub invariant-loop-kid : goal.invariant-loop-kid
invariant-loop-kid l = l.into.items ≡ l.initial.into.items ++ map spec.plain (flat_map spec.target_names (take l.kid-index l.kid-items))
