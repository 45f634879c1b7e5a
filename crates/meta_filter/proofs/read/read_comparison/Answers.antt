use Rattle.std.proofs.Common.{rules, refl, sym}
use Rattle.meta_filter.proofs.Whole.{refused, no_tokens, no_part, meant}
use Rattle.meta_filter.proofs.read.read_comparison.Goals as goal

pub returns-in_err-tokens-clause-fault : goal.returns-in_err-tokens-clause-fault
returns-in_err-tokens-clause-fault c = let h : _ = refused c.args.text.now c.in_err-tokens.field-0.0 (no_tokens c.args.text.now c.in_err-tokens.field-0.0 c.in_err-tokens.ensures.only) in search (rules, h)

pub returns-in_err-tokens-clause-only : goal.returns-in_err-tokens-clause-only
returns-in_err-tokens-clause-only c = λ a is. let h : _ = no_tokens c.args.text.now c.in_err-tokens.field-0.0 c.in_err-tokens.ensures.only a is in search (rules, h)

pub returns-in_err-part-clause-fault : goal.returns-in_err-part-clause-fault
returns-in_err-part-clause-fault c = let h : _ = refused c.args.text.now c.in_err-part.field-0.0 (no_part c.args.text.now c.in_ok-tokens.tokens c.as_slice.result.now c.in_ok-tokens.ensures.only c.as_slice.ensures c.in_err-part.field-0.0 c.in_err-part.ensures.only) in search (rules, h)

pub returns-in_err-part-clause-only : goal.returns-in_err-part-clause-only
returns-in_err-part-clause-only c = λ a is. let h : _ = no_part c.args.text.now c.in_ok-tokens.tokens c.as_slice.result.now c.in_ok-tokens.ensures.only c.as_slice.ensures c.in_err-part.field-0.0 c.in_err-part.ensures.only a is in search (rules, h)

pub returns-in_default : goal.returns-in_default
returns-in_default c =
    let none : _ = λ a is. c.in_default.not-Truth a (sym (meant c.args.text.now c.in_ok-tokens.tokens c.as_slice.result.now c.in_ok-tokens.ensures.only c.as_slice.ensures c.in_ok-part.part c.in_ok-part.ensures.only a is)) in
    record { found = tt; fault = none; only = none }

pub returns-clause-only : goal.returns-clause-only
returns-clause-only c = λ a is. let h : _ = meant c.args.text.now c.in_ok-tokens.tokens c.as_slice.result.now c.in_ok-tokens.ensures.only c.as_slice.ensures c.in_ok-part.part c.in_ok-part.ensures.only a is in rw (sym h) refl
