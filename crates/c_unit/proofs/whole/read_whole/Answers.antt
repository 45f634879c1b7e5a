use Rattle.std.proofs.Common.{rules, ◌≡◌, ◌≤◌, ◌∙◌, ℕ, sym, ap, subst, arith}
use Rattle.std.specs.Prelude.{Err}
use Rattle.c_expr.specs.declared.word.Word.TheVariants.{End}
use Rattle.c_expr.specs.Words.{class}
use Rattle.c_expr.specs.Build.{token_at, tallest}
use Rattle.c_expr.specs.reader.Reading.{parts}
use Rattle.c_unit.proofs.Wholes.{read_is_all, all_is_read, is_end, same_read, one_reading, not_past, no_end}
use Rattle.c_unit.proofs.whole.read_whole.Goals as goal

pub returns-then-shallow-first_end-clause-only : goal.returns-then-shallow-first_end-clause-only
returns-then-shallow-first_end-clause-only c = λ ps end a few.
    absurd (not_past c.args.whole c.args.tokens.now ps end c.shallow_end-shallow.result a c.shallow_end-shallow.ensures.many (grind (arith, c.if-shallow-first_end.true, c.first_end.ensures end a.ends)))

pub returns-in_err-parts-clause-only : goal.returns-in_err-parts-clause-only
returns-in_err-parts-clause-only c = λ ps end a few. let h : _ = same_read parts (Err c.in_err-parts.field-0.0) c.args.whole c.args.tokens.now ps end a c.in_err-parts.ensures.gives in search (rules, h)

pub returns-then-not-is-clause-only : goal.returns-then-not-is-clause-only
returns-then-not-is-clause-only c = λ ps end a few.
    let one = one_reading c.args.whole c.args.tokens.now ps c.in_ok-parts.parts.items end c.in_ok-parts.end a c.in_ok-parts.ensures.gives in
    absurd (no_end c.args.tokens.now c.in_ok-parts.end (sym c.if-not-is.ensures.test) (subst (λ (n : ℕ). class (token_at c.args.tokens.now n).word ≡ class End) one.1 a.ends))

pub returns-then-deepest-most-clause-only : goal.returns-then-deepest-most-clause-only
returns-then-deepest-most-clause-only c = λ ps end a few.
    let one = one_reading c.args.whole c.args.tokens.now ps c.in_ok-parts.parts.items end c.in_ok-parts.end a c.in_ok-parts.ensures.gives in
    let deep : c.deepest.result ≡ tallest ps = c.deepest.ensures ∙ ap tallest (c.as_slice.ensures.value ∙ sym one.0) in
    absurd (grind (arith, deep, few, c.if-deepest-most.true))

pub returns-then-shallow-end-clause-only : goal.returns-then-shallow-end-clause-only
returns-then-shallow-end-clause-only c = λ ps end a few.
    let one = one_reading c.args.whole c.args.tokens.now ps c.in_ok-parts.parts.items end c.in_ok-parts.end a c.in_ok-parts.ensures.gives in
    absurd (not_past c.args.whole c.args.tokens.now ps end c.shallow_end-shallow.result a c.shallow_end-shallow.ensures.many (grind (arith, one.1, c.if-shallow-end.true)))

pub returns-clause-found : goal.returns-clause-found
returns-clause-found c =
    let deep : c.deepest.result ≡ tallest c.in_ok-parts.parts.items = c.deepest.ensures ∙ ap tallest c.as_slice.ensures.value in
    let shallow : tallest c.in_ok-parts.parts.items ≤ 500 = grind (arith, deep, c.if-deepest-most.false, c.requires) in
    read_is_all c.args.whole c.args.tokens.now c.in_ok-parts.parts.items c.in_ok-parts.end c.in_ok-parts.ensures.gives c.in_ok-parts.ensures.within (is_end c.args.tokens.now c.in_ok-parts.end (sym c.if-not-is.ensures.test)) shallow
    (λ k onward before. c.shallow_end-shallow.ensures.few k onward (grind (arith, before, c.if-shallow-end.false)))

pub returns-clause-only : goal.returns-clause-only
returns-clause-only c = λ ps end a few. sym (all_is_read c.args.whole c.args.tokens.now ps end a) ∙ c.in_ok-parts.ensures.gives
