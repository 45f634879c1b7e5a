use Rattle.std.proofs.Common.{refl}
use Rattle.std.specs.String.{string_cmp}
use Rattle.piece_store.proofs.PairLists.{pair_once}
use Rattle.piece_store.proofs.store.Store.pairs.Goals as goal

pub returns-clause-each_once : goal.returns-clause-each_once
returns-clause-each_once g c o p q =
    let s = c.args.self.now in
    pair_once g.P.Ord.cmp g.Q.Ord.cmp g.met.P.Ord.total g.met.Q.Ord.total s.empty o p q s.numbers c.len-patterns.ensures.ordered s.shelf.tables string_cmp (λ a b. refl) c.iter-tables.ensures.ordered c.ask_each.ensures
