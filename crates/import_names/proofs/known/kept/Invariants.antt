use Rattle.std.proofs.Common.{◌≡◌, take}
use Rattle.import_names.specs.Claims.{meaning}
use Rattle.import_names.specs.Resolved as spec
use Rattle.import_names.proofs.known.kept.Given as goal

abbrev pub invariant-loop-one : goal.invariant-loop-one
invariant-loop-one l = l.kept ≡ spec.kept (meaning l.claims) l.tree (take l.one-index l.known)
