use Rattle.std.specs.Prelude.{All}
use Rattle.std.specs.BTreeMap.{IsOrdered}
use Rattle.piece_store.proofs.listing.ask_each.Given as goal

abbrev pub invariant-loop-table : goal.invariant-loop-table
invariant-loop-table g l = All (λ t. IsOrdered g.P.Ord.cmp t.now.rows) l.yielded
