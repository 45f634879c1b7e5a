use Rattle.std.proofs.Common.{ℕ, refl, sym, ◌∙◌, subst}
use Rattle.std.proofs.lemmas.List.{get_or_read}
use Rattle.held_values.specs.Slots.{Joins}
use Rattle.held_values.proofs.Raising.{changed}
use Rattle.held_values.proofs.slots.Slots.raise.Goals as goal

pub returns : goal.returns
returns c =
    let s = c.args.self.now in
    let read = get_or_read s.values.items _ _ c.requires.room c.index-old.ensures 0 in
    let J : ℕ → Type 0 = λ x. Joins x c.args.value c.joined-new.result in
    let joins = subst J read c.joined-new.ensures in
    changed s _ c.args.at c.args.value c.joined-new.result c.requires.room c.requires.small joins (λ e. c.if-new-old.false (e ∙ sym read)) refl c.in_ok-push.ensures.items
