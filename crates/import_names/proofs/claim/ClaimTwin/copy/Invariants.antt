use Rattle.std.proofs.Common.{◌≡◌, take}
use Rattle.import_names.proofs.claim.ClaimTwin.copy.Given as goal

abbrev pub invariant-loop-part : goal.invariant-loop-part
invariant-loop-part l = l.parts ≡ take l.part-index l.self.parts
