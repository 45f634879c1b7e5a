use Rattle.std.proofs.Common.{◌≡◌, ◌-◌, ◌≤◌, ◌++◌, length, map, drop}
use Rattle.std.specs.List.{flat_map}
use Rattle.store_file.specs.StoreText.{entry_bytes}
use Rattle.store_file.specs.Written.{entry_of, fitting}
use Rattle.store_file.proofs.text.add_fitting.Given as goal

abbrev pub invariant-loop-offer : goal.invariant-loop-offer
invariant-loop-offer l = record {
  small : length l.out ≤ 33554400;
  added : l.initial.out ++ flat_map entry_bytes (fitting (33554400 - length l.initial.out) (map entry_of l.offers)) ≡ l.out ++ flat_map entry_bytes (fitting (33554400 - length l.out) (map entry_of (drop l.offer-index l.offers)));
}
