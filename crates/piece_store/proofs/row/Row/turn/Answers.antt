use Rattle.std.proofs.Common.{rules, ◌≡◌, ◌∙◌, sym, ap, refl, Bool, false}
use Rattle.std.specs.Prelude.{Option, None, Some}
use Rattle.std.specs.Ordering.{nat_cmp}
use Rattle.std.specs.BTreeMap.{is_at}
use Rattle.std.proofs.lemmas.Cmp.{nat_cmp_total}
use Rattle.piece_store.specs.Bits.{has_kept, has_met}
use Rattle.piece_store.proofs.RowLaws.{number_is, seen_if, turned_slot}
use Rattle.piece_store.proofs.Sweeps.{retained, key_apart}
use Rattle.piece_store.proofs.row.Row.turn.Goals as goal

pub returns-clause-turned : goal.returns-clause-turned
returns-clause-turned g c i =
    let words = c.turn.new.words.items in
    let seen : Option g.row.V.Denot → Option (Option g.row.V.Denot × Bool) = λ o. seen_if (has_kept words i) o false in
    let same = retained nat_cmp _ (is_at (nat_cmp i)) (λ x y. key_apart nat_cmp nat_cmp_total i x y) seen seen refl _ (λ k v b w f' t.
    let is : b ≡ has_kept words k = search rules in
    let value : w ≡ v = search rules in (
      λ _ _. ap (λ (x : g.row.V.Denot). seen (Some x)) value,
      λ at no.
          let off : has_kept words i ≡ false = ap (has_kept words) (number_is i k at) ∙ sym is ∙ no in
          ap (λ (b : Bool). seen_if b (let n : Option g.row.V.Denot = None in n) false) off ∙ sym (ap (λ (b : Bool). seen_if b (Some v) false) off),
      search rules,
    )) c.args.self.now.full.entries _ c.retain.ensures.was_ordered c.retain.ensures.filtered in
    turned_slot (has_kept c.args.self.now.words.items i) (has_met c.args.self.now.words.items i) (has_kept words i) (has_met words i) _ _ (c.turn.ensures.kept i) (c.turn.ensures.met i) same
