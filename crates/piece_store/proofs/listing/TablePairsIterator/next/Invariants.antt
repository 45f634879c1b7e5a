use Rattle.std.proofs.Common.{◌≡◌, [], length}
use Rattle.piece_store.specs.Listed.{piece_left, table_left}
use Rattle.piece_store.proofs.listing.TablePairsIterator.next.Given as goal

abbrev pub invariant-loop-piece : goal.invariant-loop-piece
invariant-loop-piece g l = (piece_left l.self.here ≡ []) × (table_left l.self ≡ table_left l.initial.self)

abbrev pub decreases-loop-piece : goal.decreases-loop-piece
decreases-loop-piece g l = length l.self.rows
