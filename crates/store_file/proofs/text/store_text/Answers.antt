use Rattle.std.proofs.Common.{◌≡◌, ℕ, ◌-◌, List, [], ◌++◌, length, map, ap, ◌∙◌}
use Rattle.std.specs.List.{flat_map, All}
use Rattle.std.proofs.lemmas.List.Elements.{All-nil}
use Rattle.sha2.specs.Sha256.{sha256}
use Rattle.store_file.specs.declared.entry.Entry.{Entry}
use Rattle.store_file.specs.declared.offer.Offer.{Offer}
use Rattle.store_file.specs.StoreText.{entry_bytes, front_bytes, IsEntry}
use Rattle.store_file.specs.Written.{entry_of, fitting}
use Rattle.store_file.proofs.Fits.{puts_all, fitting_text}
use Rattle.store_file.proofs.text.store_text.Goals as goal

-- what fits behind a front
abbrev filled : List ℕ → List Entry → List ℕ
filled front es = front ++ flat_map entry_bytes (fitting (33554400 - length front) es)

pub returns : goal.returns
returns c =
    let all : List Entry = map entry_of c.in_ok-all.all.items in
    let entries : All IsEntry all = puts_all (map entry_of c.args.offers.now) [] all c.in_ok-all.ensures.items (All-nil IsEntry) in
    let is : c.add_fitting.new.out ≡ front_bytes (fitting 33554384 all) = c.in_ok-add_fitting.ensures.added ∙ ap (λ (v : List ℕ). filled v (map entry_of c.deref.result.now)) c.in_ok-out.ensures ∙ ap (λ (os : List Offer). front_bytes (fitting 33554384 (map entry_of os))) c.deref.ensures.value in
    let text : c.extend.new.self ≡ c.add_fitting.new.out ++ sha256 c.add_fitting.new.out = c.in_ok-extend.ensures.ok ∙ ap (λ (v : List ℕ). c.add_fitting.new.out ++ v) (c.of-digest.ensures ∙ ap sha256 c.as_slice.ensures) in
    (all, c.in_ok-all.ensures.items, fitting_text 33554384 all c.add_fitting.new.out c.extend.new.self entries c.in_ok-all.ensures.ordered is c.in_ok-add_fitting.ensures.small text)
