use Rattle.std.proofs.Common.{take}
use Rattle.session.specs.Sessions.{EndWithin}
use Rattle.session.proofs.fixing.end_within.Given as goal

abbrev pub invariant-loop-edit : goal.invariant-loop-edit
invariant-loop-edit l = EndWithin l.size (take l.edit-index l.edits)
