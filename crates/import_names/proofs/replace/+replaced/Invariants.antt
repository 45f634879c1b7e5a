use Rattle.std.proofs.Common.{◌≡◌, take, map}
use Rattle.import_names.specs.Claims.{meaning}
use Rattle.import_names.specs.Resolved as spec
use Rattle.import_names.proofs.replace.+replaced.Given as goal

abbrev pub invariant-loop-kid : goal.invariant-loop-kid
invariant-loop-kid l = l.kids ≡ map (spec.replaced (meaning l.claims)) (take l.kid-index l.kid-items)
