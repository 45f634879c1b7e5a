use Rattle.std.proofs.Common.{◌≡◌, take}
use Rattle.piece_form.specs.Identity.{known_contents}
use Rattle.piece_form.proofs.same.same_known.Given as goal

abbrev pub invariant-loop-i : goal.invariant-loop-i
invariant-loop-i l = known_contents (take l.i l.a) ≡ known_contents (take l.i l.b)
