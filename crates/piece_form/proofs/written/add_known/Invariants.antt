use Rattle.std.proofs.Common.{◌≡◌, ◌++◌, take}
use Rattle.piece_form.specs.Code.{known_code}
use Rattle.piece_form.specs.Identity.{known_contents}
use Rattle.piece_form.proofs.written.add_known.Given as goal

abbrev pub invariant-loop-one : goal.invariant-loop-one
invariant-loop-one l = l.code.items ≡ l.initial.code.items ++ known_code (known_contents (take l.one-index l.known))
