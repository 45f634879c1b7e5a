use Rattle.std.proofs.Common.{[], map, take}
use Rattle.store_file.specs.Written.{entry_of, PutsAll}
use Rattle.store_file.specs.Shelf.{entry_in}
use Rattle.store_file.proofs.ordered.shelf_of.Given as goal

abbrev pub invariant-loop-offer : goal.invariant-loop-offer
invariant-loop-offer l = PutsAll (map entry_of (take l.offer-index l.offers)) [] (map entry_in l.shelf.entries)
