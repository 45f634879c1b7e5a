use Rattle.std.proofs.Common.{◌≡◌, ◌++◌, map, take, false}
use Rattle.file_parts.specs.Parts.{seen_part}
use Rattle.piece_form.specs.declared.piece.Placed.{Placed}
use Rattle.file_parts.proofs.parts.add_parts.Given as goal

abbrev pub invariant-loop-placed : goal.invariant-loop-placed
invariant-loop-placed l = map seen_part l.into ≡ map seen_part l.initial.into ++ map (λ (p : Placed). record { placed = p; whole = false; resolved = l.resolved; apart = l.cut.apart }) (take l.placed-index l.placed-items)
