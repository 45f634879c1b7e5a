use Rattle.std.proofs.Common.{◌≡◌, ◌++◌, ℕ, false, List, IsTrue, length, take, drop, ◌+◌, ◌-◌, sym, subst}
use Rattle.std.proofs.lemmas.List.{take_rest}
use Rattle.wire_stream.specs.Fronts.{IsSizedFront}
use Rattle.wire_stream.specs.Lines.{IsName}
use Rattle.wire_stream.proofs.Opening.{spaced, not_spaced, if_ok_more}
use Rattle.wire_stream.proofs.open.opens_spaced.Goals as goal

pub returns-in-Some-clause-open : goal.returns-in-Some-clause-open
returns-in-Some-clause-open c =
    if_ok_more c.opens_name.result
    (λ b. IsTrue b → (more : List ℕ) × IsName (take (length c.args.bytes.now - (c.args.space + 1)) (drop (c.args.space + 1) c.args.bytes.now) ++ more))
    (λ b. IsTrue b → IsSizedFront c.args.bytes.now)
    (λ b p t.
    let x = p t in
    spaced c.args.bytes.now c.args.space _ x.0 c.requires c.in-Some.ensures.0 c.in-Some.ensures.1
    (subst (λ (l : List ℕ). IsName (l ++ x.0)) (take_rest c.args.bytes.now (c.args.space + 1)) x.1))
    c.opens_name.ensures.open

pub returns-in-Some-clause-closed : goal.returns-in-Some-clause-closed
returns-in-Some-clause-closed c =
    if_ok_more c.opens_name.result
    (λ b. b ≡ false → (more : List ℕ) → IsName (take (length c.args.bytes.now - (c.args.space + 1)) (drop (c.args.space + 1) c.args.bytes.now) ++ more) → ⊥)
    (λ b. b ≡ false → IsSizedFront c.args.bytes.now → ⊥)
    (λ b p f. not_spaced c.args.bytes.now c.args.space c.requires
    (λ n more small e g. p f more (subst (λ (l : List ℕ). IsName (l ++ more)) (sym (take_rest c.args.bytes.now (c.args.space + 1))) g)))
    c.opens_name.ensures.closed

pub returns-in-None-clause-closed : goal.returns-in-None-clause-closed
returns-in-None-clause-closed c = λ f. not_spaced c.args.bytes.now c.args.space c.requires (λ n more small e g. c.in-None.ensures n small e)
