use Rattle.std.proofs.Common.{◌≡◌, ◌++◌, drop, length}
use Rattle.fix_apply.specs.Applied.{LieIn, applied}
use Rattle.fix_apply.proofs.applying.apply.Given as goal

abbrev pub invariant-loop-edit : goal.invariant-loop-edit
invariant-loop-edit l = record {
  lie : LieIn l.at (length l.bytes) (drop l.edit-index l.edits);
  adds : l.whole ++ drop l.at (applied l.bytes (drop l.edit-index l.edits)) ≡ applied l.bytes l.edits;
}
