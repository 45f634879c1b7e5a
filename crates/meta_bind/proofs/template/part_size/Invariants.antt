use Rattle.std.proofs.Common.{◌≡◌, ◌+◌, drop}
use Rattle.meta_bind.specs.Fills.{part_size}
use Rattle.meta_bind.proofs.template.part_size.Given as goal

abbrev pub invariant-loop-i : goal.invariant-loop-i
invariant-loop-i l = part_size l.text ≡ l.i + part_size (drop l.i l.text)
