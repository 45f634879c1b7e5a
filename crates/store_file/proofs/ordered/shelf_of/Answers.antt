use Rattle.std.proofs.Common.{map}
use Rattle.store_file.specs.Shelf.{entry_in}
use Rattle.store_file.proofs.Shelves.{puts_next}
use Rattle.store_file.proofs.ordered.shelf_of.Goals as goal

pub loop-offer-preserved : goal.loop-offer-preserved
loop-offer-preserved c =
    puts_next c.args.offers.now c.loop-offer.offer-index c.offer-item.result (map entry_in c.loop-offer.shelf.entries) (map entry_in c.put_one.new.shelf.entries) c.loop-offer.invariant c.loop-offer-test.true c.offer-item.is c.in_ok-put_one.ensures
