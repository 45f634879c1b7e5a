use Rattle.std.proofs.Common.{◌≡◌, sym, ◌∙◌}
use Rattle.std.specs.List.{flat_map}
use Rattle.std.proofs.lemmas.List.{append_cancel_left}
use Rattle.store_file.specs.StoreText.{entry_bytes, front_bytes}
use Rattle.store_file.specs.declared.entry.TheConstants.{MARK}
use Rattle.store_file.proofs.Digests.{front_is}
use Rattle.store_file.proofs.whole.entries_of.Goals as goal

pub returns-in_default-without_mark-clause-found : goal.returns-in_default-without_mark-clause-found
returns-in_default-without_mark-clause-found c = λ es is.
    let one : c.in-Some.front.now ≡ front_bytes es = front_is c.args.text.now _ (front_bytes es) c.in-Some.ensures is.bytes in
    c.in_default-without_mark.ensures (flat_map entry_bytes es) one

pub returns-clause-found : goal.returns-clause-found
returns-clause-found c = λ es is.
    let one : c.in-Some.front.now ≡ front_bytes es = front_is c.args.text.now _ (front_bytes es) c.in-Some.ensures is.bytes in
    let rest : c.in-Some-without_mark.entries.now ≡ flat_map entry_bytes es = append_cancel_left MARK _ _ (sym c.in-Some-without_mark.ensures ∙ one) in
    c.ordered_in.ensures.found es (is.sound, rest)
