use Rattle.std.proofs.Common.{take}
use Rattle.import_names.specs.Itself.{AllThemselves}
use Rattle.import_names.proofs.claim.are_themselves.Given as goal

abbrev pub invariant-loop-claim : goal.invariant-loop-claim
invariant-loop-claim l = AllThemselves (take l.claim-index l.claims)
