use Rattle.std.proofs.Common.{List, ℕ, [], ◌∷◌, ◌++◌, ap, ◌∙◌}
use Rattle.rule_keys.specs.TextPlaces.{place_if_there}
use Rattle.rule_keys.proofs.TextPlaces.{noted}
use Rattle.rule_keys.proofs.texts.Texts.add.Goals as goal

pub invariant_of-self-in-Ok-insert : goal.invariant_of-self-in-Ok-insert
invariant_of-self-in-Ok-insert c =
    let text = c.args.text.now in
    let texts = c.self.inside.all in
    noted text texts c.push.new.self c.in-Ok.number c.self.inside.places c.insert.new.self c.self.invariant
    (ap (place_if_there text) c.self.view_is ∙ c.requires)
    (c.in-Ok.ensures.1 ∙ c.len.ensures)
    (c.in_ok-push.ensures.ok ∙ ap (λ (t : List ℕ). texts ++ t ∷ []) c.in_ok-from_str.ensures)
    c.in-Ok-insert.ensures.updates
