use Rattle.std.proofs.Common.{◌≡◌, ◌++◌, ℕ, Bool, true, false, List, IsTrue}
use Rattle.wire_stream.specs.Fronts.{IsLineFront, IsSizedFront}
use Rattle.wire_stream.specs.Lines.{IsName}
use Rattle.wire_stream.proofs.Fills.{refuted}
use Rattle.wire_stream.proofs.Opening.{if_ok_more, put_front, rule_front, del_front, unrule_front, sync_front, no_put, no_rule, no_del, no_unrule, no_sync, named_line, bare_line, line_word}
use Rattle.wire_stream.proofs.open.is_open.Goals as goal

pub returns-in-Some-clause-open : goal.returns-in-Some-clause-open
returns-in-Some-clause-open c =
    if_ok_more c.opens_sized.result (λ b. IsTrue b → IsSizedFront c.in-Some.rest.now) (λ b. IsTrue b → IsLineFront c.args.bytes.now)
    (λ b p t. put_front c.args.bytes.now c.in-Some.rest.now c.in-Some.ensures (p t)) c.opens_sized.ensures.open

pub returns-in-Some-clause-closed : goal.returns-in-Some-clause-closed
returns-in-Some-clause-closed c =
    if_ok_more c.opens_sized.result (λ b. b ≡ false → IsSizedFront c.in-Some.rest.now → ⊥) (λ b. b ≡ false → IsLineFront c.args.bytes.now → ⊥)
    (λ b p f. no_put c.args.bytes.now c.in-Some.rest.now c.in-Some.ensures (p f)) c.opens_sized.ensures.closed

pub returns-in-Some-after-clause-open : goal.returns-in-Some-after-clause-open
returns-in-Some-after-clause-open c =
    if_ok_more c.opens_sized-in-Some-after.result (λ b. IsTrue b → IsSizedFront c.in-Some-after.rest.now) (λ b. IsTrue b → IsLineFront c.args.bytes.now)
    (λ b p t. rule_front c.args.bytes.now c.in-Some-after.rest.now c.in-Some-after.ensures (p t)) c.opens_sized-in-Some-after.ensures.open

pub returns-in-Some-after-clause-closed : goal.returns-in-Some-after-clause-closed
returns-in-Some-after-clause-closed c =
    if_ok_more c.opens_sized-in-Some-after.result (λ b. b ≡ false → IsSizedFront c.in-Some-after.rest.now → ⊥) (λ b. b ≡ false → IsLineFront c.args.bytes.now → ⊥)
    (λ b p f. no_rule c.args.bytes.now c.in-Some-after.rest.now c.in-Some-after.ensures (p f)) c.opens_sized-in-Some-after.ensures.closed

pub returns-in-Some-after-2-clause-open : goal.returns-in-Some-after-2-clause-open
returns-in-Some-after-2-clause-open c =
    if_ok_more c.opens_name.result (λ b. IsTrue b → (more : List ℕ) × IsName (c.in-Some-after-2.rest.now ++ more)) (λ b. IsTrue b → IsLineFront c.args.bytes.now)
    (λ b p t. let x = p t in del_front c.args.bytes.now c.in-Some-after-2.rest.now x.0 c.in-Some-after-2.ensures x.1) c.opens_name.ensures.open

pub returns-in-Some-after-2-clause-closed : goal.returns-in-Some-after-2-clause-closed
returns-in-Some-after-2-clause-closed c =
    if_ok_more c.opens_name.result (λ b. b ≡ false → (more : List ℕ) → IsName (c.in-Some-after-2.rest.now ++ more) → ⊥) (λ b. b ≡ false → IsLineFront c.args.bytes.now → ⊥)
    (λ b p f. no_del c.args.bytes.now c.in-Some-after-2.rest.now c.in-Some-after-2.ensures (p f)) c.opens_name.ensures.closed

pub returns-in-Some-after-3-clause-open : goal.returns-in-Some-after-3-clause-open
returns-in-Some-after-3-clause-open c =
    if_ok_more c.opens_name-in-Some-after-3.result (λ b. IsTrue b → (more : List ℕ) × IsName (c.in-Some-after-3.rest.now ++ more)) (λ b. IsTrue b → IsLineFront c.args.bytes.now)
    (λ b p t. let x = p t in unrule_front c.args.bytes.now c.in-Some-after-3.rest.now x.0 c.in-Some-after-3.ensures x.1) c.opens_name-in-Some-after-3.ensures.open

pub returns-in-Some-after-3-clause-closed : goal.returns-in-Some-after-3-clause-closed
returns-in-Some-after-3-clause-closed c =
    if_ok_more c.opens_name-in-Some-after-3.result (λ b. b ≡ false → (more : List ℕ) → IsName (c.in-Some-after-3.rest.now ++ more) → ⊥) (λ b. b ≡ false → IsLineFront c.args.bytes.now → ⊥)
    (λ b p f. no_unrule c.args.bytes.now c.in-Some-after-3.rest.now c.in-Some-after-3.ensures (p f)) c.opens_name-in-Some-after-3.ensures.closed

pub returns-in-Some-after-4-clause-open : goal.returns-in-Some-after-4-clause-open
returns-in-Some-after-4-clause-open c =
    if_ok_more c.opens_name-in-Some-after-4.result (λ b. IsTrue b → (more : List ℕ) × IsName (c.in-Some-after-4.rest.now ++ more)) (λ b. IsTrue b → IsLineFront c.args.bytes.now)
    (λ b p t. let x = p t in sync_front c.args.bytes.now c.in-Some-after-4.rest.now x.0 c.in-Some-after-4.ensures x.1) c.opens_name-in-Some-after-4.ensures.open

pub returns-in-Some-after-4-clause-closed : goal.returns-in-Some-after-4-clause-closed
returns-in-Some-after-4-clause-closed c =
    if_ok_more c.opens_name-in-Some-after-4.result (λ b. b ≡ false → (more : List ℕ) → IsName (c.in-Some-after-4.rest.now ++ more) → ⊥) (λ b. b ≡ false → IsLineFront c.args.bytes.now → ⊥)
    (λ b p f. no_sync c.args.bytes.now c.in-Some-after-4.rest.now c.in-Some-after-4.ensures (p f)) c.opens_name-in-Some-after-4.ensures.closed

pub returns-then-opens_named-clause-open : goal.returns-then-opens_named-clause-open
returns-then-opens_named-clause-open c = λ t. named_line c.args.bytes.now (c.opens_named.ensures.0 t)

apart : (b : Bool) → b ≡ true → b ≡ false → ⊥
apart b t f = absurd cc

pub returns-then-opens_named-clause-closed : goal.returns-then-opens_named-clause-closed
returns-then-opens_named-clause-closed c = λ f. absurd (apart c.opens_named.result c.if-opens_named.true f)

pub returns-else-opens_named-clause-open : goal.returns-else-opens_named-clause-open
returns-else-opens_named-clause-open c = λ t. bare_line c.args.bytes.now (c.opens_bare.ensures.0 t)

pub returns-else-opens_named-clause-closed : goal.returns-else-opens_named-clause-closed
returns-else-opens_named-clause-closed c = λ f. line_word c.args.bytes.now
    (record { put = c.in_default.ensures; rule = c.in_default-after.ensures; del = c.in_default-after-2.ensures; unrule = c.in_default-after-3.ensures; sync = c.in_default-after-4.ensures })
    (refuted c.opens_named.result _ c.if-opens_named.false c.opens_named.ensures.1) (refuted c.opens_bare.result _ f c.opens_bare.ensures.1)
