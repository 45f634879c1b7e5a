use Rattle.std.proofs.Common.{◌≡◌, [], length}
use Rattle.piece_store.specs.Listed.{path_left, pairs_left}
use Rattle.piece_store.proofs.listing.PairsIterator.next.Given as goal

abbrev pub invariant-loop-path : goal.invariant-loop-path
invariant-loop-path g l = (path_left l.self.here ≡ []) × (pairs_left l.self ≡ pairs_left l.initial.self)

abbrev pub decreases-loop-path : goal.decreases-loop-path
decreases-loop-path g l = length l.self.tables
