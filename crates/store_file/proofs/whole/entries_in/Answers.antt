use Rattle.std.proofs.Common.{◌≡◌, ◌<◌, List, [], ◌∷◌, ◌++◌, length, sym, ◌∙◌, subst, arith, rules, length-append}
use Rattle.std.specs.List.{flat_map}
use Rattle.store_file.specs.declared.entry.Entry.{Entry}
use Rattle.store_file.specs.StoreText.{entry_bytes, leaf_bytes, IsEntry}
use Rattle.store_file.proofs.Items.{Took, took_more, took_all, next_item}
use Rattle.store_file.proofs.whole.entries_in.Goals as goal

some : (e : Entry) → IsEntry e → 0 < length (entry_bytes e)
some e is = omega (arith, is.0, length-append e.piece.bytes (e.pattern.bytes ++ leaf_bytes e.leaf))

pub loop-front-preserved : goal.loop-front-preserved
loop-front-preserved c =
    let pushed : c.push.new.self.items ≡ c.loop-front.entries.items ++ c.in_ok-entry.entry ∷ [] = search rules in
    subst (λ (xs : List Entry). Took IsEntry entry_bytes c.args.text.now xs c.take.new.front.rest.now) (sym pushed)
    (took_more IsEntry entry_bytes c.args.text.now _ _ c.loop-front.invariant (search rules) c.in_ok-entry.entry _ c.in_ok-entry.ensures.given.0 c.in_ok-entry.ensures.given.1 c.in_ok-entry.ensures.found)

pub returns-in_err-entry-clause-found : goal.returns-in_err-entry-clause-found
returns-in_err-entry-clause-found c = λ ys is.
    let z = next_item IsEntry entry_bytes c.args.text.now _ _ c.loop-front.invariant (search rules) ys is.0 is.1 in
    let f = c.in_err-entry.ensures.found z.0 (flat_map entry_bytes z.1) z.2 z.4 in
    search rules

pub returns-clause-found : goal.returns-clause-found
returns-clause-found c = λ ys is.
    let same : c.from_vec.result ≡ c.loop-front.entries.items = search rules in
    let none : length c.loop-front.front.rest.now ≡ 0 = search rules in
    same ∙ took_all IsEntry entry_bytes c.args.text.now some _ _ c.loop-front.invariant none ys is.0 is.1
