use Rattle.std.proofs.Common.{◌≡◌, take}
use Rattle.std.specs.Prelude.{filter}
use Rattle.import_names.specs.Telling.{tells}
use Rattle.import_names.proofs.meanings.telling.Given as goal

abbrev pub invariant-loop-claim : goal.invariant-loop-claim
invariant-loop-claim l = l.few.items ≡ filter (tells l.claims) (take l.claim-index l.claims)
