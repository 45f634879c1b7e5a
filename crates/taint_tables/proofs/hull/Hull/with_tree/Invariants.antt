use Rattle.std.proofs.Common.{take}
use Rattle.node_tree.specs.Numbers.{pre_at}
use Rattle.node_pool.specs.Spots.{seen}
use Rattle.taint_tables.specs.Hulls.{GoesAsFar, MeetsAll}
use Rattle.taint_tables.proofs.hull.Hull.with_tree.Given as goal

abbrev pub invariant-loop-further : goal.invariant-loop-further
invariant-loop-further l = record {
  grows : GoesAsFar l.hull l.fn.self;
  meets : MeetsAll l.hull (take l.further (pre_at (seen l.top)));
}
