use Rattle.std.proofs.Common.{rules, ◌≤◌, arith, sym, ap, Some}
use Rattle.meta_filter.specs.declared.part.Part.{Part}
use Rattle.meta_filter.proofs.Whole.{read_is_part, one_part, part_is_shallow, fails_still}
use Rattle.meta_filter.proofs.read.whole_part.Goals as goal

pub returns-clause-found : goal.returns-clause-found
returns-clause-found c = read_is_part c.args.tokens.now c.in_ok-part.part c.in_ok-part.end c.in_ok-part.ensures.gives (grind arith) (grind arith)

pub returns-in_err-part-clause-only : goal.returns-in_err-part-clause-only
returns-in_err-part-clause-only c = λ p is. let h : _ = fails_still c.args.tokens.now p c.in_err-part.field-0.0 is c.in_err-part.ensures.gives in search (rules, h)

pub returns-then-end-tokens-clause-only : goal.returns-then-end-tokens-clause-only
returns-then-end-tokens-clause-only c = λ p is. absurd (c.if-end-tokens.true (sym (one_part c.args.tokens.now p c.in_ok-part.part c.in_ok-part.end is c.in_ok-part.ensures.gives).1))

pub returns-clause-only : goal.returns-clause-only
returns-clause-only c = λ p is. ap (λ (q : Part). Some q) (one_part c.args.tokens.now p c.in_ok-part.part c.in_ok-part.end is c.in_ok-part.ensures.gives).0

pub returns-then-part-gt-MAX_DEPTH-clause-only : goal.returns-then-part-gt-MAX_DEPTH-clause-only
returns-then-part-gt-MAX_DEPTH-clause-only c = λ p is.
    let d : c.in_ok-part.part.depth ≤ 100 = rw (one_part c.args.tokens.now p c.in_ok-part.part c.in_ok-part.end is c.in_ok-part.ensures.gives).0 at (part_is_shallow c.args.tokens.now p is) in
    absurd (omega (arith, d, c.if-part-gt-MAX_DEPTH.true))
