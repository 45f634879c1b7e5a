use Rattle.std.proofs.Common.{sym, ap, ◌∙◌}
use Rattle.rule_keys.specs.TextPlaces.{place_if_there}
use Rattle.rule_keys.proofs.TextPlaces.{there, new_number, new_texts}
use Rattle.rule_keys.proofs.texts.Texts.number_of.Goals as goal

pub returns-in-Some-clause-number : goal.returns-in-Some-clause-number
returns-in-Some-clause-number c =
    let told = sym (c.self.invariant c.args.text.now) ∙ sym c.get.ensures.value ∙ sym c.copied.ensures ∙ c.in-Some.is in
    rw (sym c.self.view_is) (there c.args.text.now c.self.inside.all c.in-Some.number told).0

pub returns-in-Some-clause-ok : goal.returns-in-Some-clause-ok
returns-in-Some-clause-ok c =
    let told = sym (c.self.invariant c.args.text.now) ∙ sym c.get.ensures.value ∙ sym c.copied.ensures ∙ c.in-Some.is in
    rw (sym c.self.view_is) (sym (there c.args.text.now c.self.inside.all c.in-Some.number told).1)

pub returns-in-None-clause-number : goal.returns-in-None-clause-number
returns-in-None-clause-number c =
    let none = sym (c.self.invariant c.args.text.now) ∙ sym c.get.ensures.value ∙ sym c.copied.ensures ∙ c.in-None.is in
    new_number c.args.text.now c.args.self.now (ap (place_if_there c.args.text.now) (sym c.self.view_is) ∙ none) c.add.result c.add.ensures.number

pub returns-in-None-clause-ok : goal.returns-in-None-clause-ok
returns-in-None-clause-ok c =
    let none = sym (c.self.invariant c.args.text.now) ∙ sym c.get.ensures.value ∙ sym c.copied.ensures ∙ c.in-None.is in
    new_texts c.args.text.now c.args.self.now (ap (place_if_there c.args.text.now) (sym c.self.view_is) ∙ none) c.add.result c.add.new.self c.add.ensures.ok
