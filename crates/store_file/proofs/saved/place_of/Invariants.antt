use Rattle.std.proofs.Common.{◌≡◌, ℕ, ◌-◌, ◌<◌, ◌≤◌, length, get_or}
use Rattle.std.specs.declared.cmp.Ordering.TheVariants.{Less, Greater}
use Rattle.store_file.specs.declared.entry.Entry.{Entry}
use Rattle.store_file.proofs.Keys.{key_cmp}
use Rattle.store_file.proofs.saved.place_of.Given as goal

abbrev pub decreases-loop-low : goal.decreases-loop-low
decreases-loop-low l = l.high - l.low

abbrev pub invariant-loop-low : goal.invariant-loop-low
invariant-loop-low l = record {
  ordered : l.low ≤ l.high;
  within : l.high ≤ length l.entries;
  below : (k : ℕ) (d : Entry) → k < l.low → key_cmp (get_or l.entries k d) l.piece l.pattern ≡ Less;
  above : (k : ℕ) (d : Entry) → l.high ≤ k → k < length l.entries → key_cmp (get_or l.entries k d) l.piece l.pattern ≡ Greater;
}
