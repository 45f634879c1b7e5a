use Rattle.std.proofs.Common.{◌≡◌, List, subst, rules}
use Rattle.std.specs.Prelude.{All, map}
use Rattle.std.specs.BTreeMap.{IsOrdered}
use Rattle.std.specs.Map.Iter.{deref}
use Rattle.std.specs.Map.{values_of}
use Rattle.std.proofs.lemmas.List.Elements.{All-map}
use Rattle.std.proofs.lemmas.Map.Iter.{iter_end}
use Rattle.piece_store.specs.declared.table.Table.{Table}
use Rattle.piece_store.proofs.PairLists.{of_values}
use Rattle.piece_store.proofs.listing.ask_each.Goals as goal

pub returns : goal.returns
returns g c =
    let P : Table g.row.P.Denot g.row.V.Denot → Type 0 = λ t. IsOrdered g.P.Ord.cmp t.rows in
    let e : map deref c.loop-table.yielded ≡ values_of c.args.tables.now.entries = search (rules, iter_end) in
    let Q : List (Table g.row.P.Denot g.row.V.Denot) → Type 0 = λ ts. All P ts in
    of_values P c.args.tables.now.entries (subst Q e (All-map P deref c.loop-table.yielded c.loop-table.invariant))
