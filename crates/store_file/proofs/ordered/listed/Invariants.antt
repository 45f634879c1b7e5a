use Rattle.std.proofs.Common.{◌≡◌, map, ◌++◌}
use Rattle.store_file.specs.Written.{entry_of}
use Rattle.store_file.specs.Shelf.{entry_in}
use Rattle.store_file.proofs.ordered.listed.Given as goal

abbrev pub invariant-loop-key : goal.invariant-loop-key
invariant-loop-key l = map entry_of l.offers.items ++ map entry_in l.key-iterator ≡ map entry_in l.shelf.entries
