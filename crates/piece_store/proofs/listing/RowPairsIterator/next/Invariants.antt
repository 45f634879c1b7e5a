use Rattle.std.proofs.Common.{◌≡◌, length}
use Rattle.piece_store.specs.Listed.{in_row}
use Rattle.piece_store.proofs.listing.RowPairsIterator.next.Given as goal

abbrev pub invariant-loop-pattern : goal.invariant-loop-pattern
invariant-loop-pattern g l = in_row l.self.empty.now l.self.row.now l.self.patterns ≡ in_row l.initial.self.empty.now l.initial.self.row.now l.initial.self.patterns

abbrev pub decreases-loop-pattern : goal.decreases-loop-pattern
decreases-loop-pattern g l = length l.self.patterns
