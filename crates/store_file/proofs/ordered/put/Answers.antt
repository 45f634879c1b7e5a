use Rattle.std.proofs.Common.{◌≡◌, map, false, sym, ap, ◌∙◌}
use Rattle.std.specs.Prelude.{is_some}
use Rattle.std.specs.Map.{lookup}
use Rattle.std.specs.BTreeMap.{is_at, insert_entry as insert_in_map}
use Rattle.store_file.specs.Shelf.{entry_in}
use Rattle.store_file.specs.Written.{entry_of, is_there}
use Rattle.store_file.proofs.Shelves.{Key, pair_cmp, there_is, inserted_is, put_there, put_new}
use Rattle.store_file.proofs.ordered.put.Goals as goal

pub returns-then-contains_key : goal.returns-then-contains_key
returns-then-contains_key c =
    let o = c.args.offer.now in
    let k : Key = (o.piece.bytes, o.pattern.bytes) in
    let asked : c.contains_key.result ≡ is_some (lookup (is_at (pair_cmp k)) c.args.shelf.now.entries) = c.contains_key.ensures in
    put_there (entry_of o) (map entry_in c.args.shelf.now.entries) (there_is k o.leaf c.args.shelf.now.entries ∙ sym asked ∙ c.if-contains_key.true)

pub returns : goal.returns
returns c =
    let o = c.args.offer.now in
    let k : Key = (o.piece.bytes, o.pattern.bytes) in
    let es = c.args.shelf.now.entries in
    let asked : c.contains_key.result ≡ is_some (lookup (is_at (pair_cmp k)) es) = c.contains_key.ensures in
    let none : is_there (entry_of o) (map entry_in es) ≡ false = there_is k o.leaf es ∙ sym asked ∙ c.if-contains_key.false in
    let new : c.insert.new.self.entries ≡ insert_in_map pair_cmp es k o.leaf = c.in_ok-insert.ensures.entries in
    put_new (entry_of o) (map entry_in es) _ none (ap (map entry_in) new ∙ inserted_is k o.leaf es none)
