use Rattle.std.proofs.Common.{true, false, ◌∷◌, [], sym, ◌∙◌, subst}
use Rattle.std.specs.Prelude.{OnOk}
use Rattle.decided_texts.specs.Decided.{Decisions}
use Rattle.decided_texts.specs.Asking.{Settles}
use Rattle.decided_texts.proofs.Keeping.{on_ok_map, after_built, after_refused, last_built, last_refused}
use Rattle.decided_texts.proofs.Asking.{settles_known, settles_built, settles_refused, known_in}
use Rattle.decided_texts.proofs.decided_texts.DecidedTexts.decide.Goals as goal

pub invariant_of-self : goal.invariant_of-self
invariant_of-self g c =
    let old = c.self.inside in
    after_built old.by_text c.hold.new.by_text old.refused old.built c.self.invariant c.args.text.now (sym c.contains_key.ensures ∙ c.if-contains_key.false) c.hold.result c.hold.new.texts c.in-Ok.rx c.in-Ok.ensures.built
    c.hold.ensures.listed c.hold.ensures.held c.hold.ensures.unlisted c.hold.ensures.unheld

pub invariant_of-self-in-Err-Refused : goal.invariant_of-self-in-Err-Refused
invariant_of-self-in-Err-Refused g c =
    let old = c.self.inside in
    let h = c.hold-in-Err-Refused in
    after_refused old.by_text h.new.by_text old.refused old.built c.self.invariant c.args.text.now (sym c.contains_key.ensures ∙ c.if-contains_key.false) h.result h.new.texts
    h.ensures.listed h.ensures.held h.ensures.unlisted h.ensures.unheld

pub returns-in-Ok-clause-decided : goal.returns-in-Ok-clause-decided
returns-in-Ok-clause-decided g c =
    let old = c.self.inside in
    on_ok_map c.hold.result (last_built old.refused old.built c.hold.new.texts c.args.text.now) c.hold.ensures.listed

pub returns-in-Err-Refused-clause-decided : goal.returns-in-Err-Refused-clause-decided
returns-in-Err-Refused-clause-decided g c =
    let old = c.self.inside in
    let h = c.hold-in-Err-Refused in
    on_ok_map h.result (last_refused old.refused old.built h.new.texts c.args.text.now) h.ensures.listed

pub returns-then-contains_key-clause-settled : goal.returns-then-contains_key-clause-settled
returns-then-contains_key-clause-settled g c =
    let old = c.self.inside in
    let text = c.args.text.now in
    let asked = g.P.Patterns.asked c.args.patterns.now in
    let S : Decisions → Type 0 = λ d. Settles (text ∷ []) d d asked asked in
    subst S c.self.view_is
    (settles_known text (record { refused = old.refused; built = old.built }) asked (known_in old.by_text old.refused old.built c.self.invariant text true (sym c.contains_key.ensures ∙ c.if-contains_key.true)))

pub returns-in-Ok-clause-settled : goal.returns-in-Ok-clause-settled
returns-in-Ok-clause-settled g c =
    let old = c.self.inside in
    let text = c.args.text.now in
    let asked = g.P.Patterns.asked c.args.patterns.now in
    let asked_then = g.P.Patterns.asked c.build.new.self in
    let texts = c.hold.new.texts in
    let S : Decisions → Type 0 = λ d. OnOk c.hold.result (Settles (text ∷ []) d (record { refused = old.refused; built = texts }) asked asked_then) in
    let unknown = known_in old.by_text old.refused old.built c.self.invariant text false (sym c.contains_key.ensures ∙ c.if-contains_key.false) in
    subst S c.self.view_is (on_ok_map c.hold.result (settles_built text old.refused old.built asked asked_then (c.in-Ok.ensures.asked (λ e. absurd cc)) unknown texts) c.hold.ensures.listed)

pub returns-in-Err-Refused-clause-settled : goal.returns-in-Err-Refused-clause-settled
returns-in-Err-Refused-clause-settled g c =
    let old = c.self.inside in
    let text = c.args.text.now in
    let asked = g.P.Patterns.asked c.args.patterns.now in
    let asked_then = g.P.Patterns.asked c.build.new.self in
    let h = c.hold-in-Err-Refused in
    let texts = h.new.texts in
    let S : Decisions → Type 0 = λ d. OnOk h.result (Settles (text ∷ []) d (record { refused = texts; built = old.built }) asked asked_then) in
    let unknown = known_in old.by_text old.refused old.built c.self.invariant text false (sym c.contains_key.ensures ∙ c.if-contains_key.false) in
    subst S c.self.view_is (on_ok_map h.result (settles_refused text old.refused old.built asked asked_then (c.in-Err-Refused.ensures.asked (λ e. absurd cc)) unknown texts) h.ensures.listed)
