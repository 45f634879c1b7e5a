use Rattle.std.proofs.Common.{length}
use Rattle.store_file.specs.StoreText.{entry_bytes, IsEntry}
use Rattle.store_file.proofs.Items.{Took}
use Rattle.store_file.proofs.whole.entries_in.Given as goal

abbrev pub invariant-loop-front : goal.invariant-loop-front
invariant-loop-front l = Took IsEntry entry_bytes l.fn.text l.entries.items l.front.rest.now

abbrev pub decreases-loop-front : goal.decreases-loop-front
decreases-loop-front l = length l.front.rest.now
