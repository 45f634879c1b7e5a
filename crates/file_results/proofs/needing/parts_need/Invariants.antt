use Rattle.std.proofs.Common.{drop}
use Rattle.file_results.specs.Needing.{PartUses}
use Rattle.file_results.proofs.Somes.{NoneBefore}
use Rattle.file_results.proofs.needing.parts_need.Given as goal

abbrev pub invariant-loop-part : goal.invariant-loop-part
invariant-loop-part g l = NoneBefore (PartUses (g.F.MayHave.may l.file) l.lang) l.parts (drop l.part-index l.parts)
