use Rattle.std.proofs.Common.{rules, ◌≤◌, arith, sym, refl, ap, Some}
use Rattle.node_tree.specs.declared.node.Node.{Node}
use Rattle.node_tree.specs.Tree.{depth_of}
use Rattle.json_tree.proofs.Whole.{read_is_value, one_value, value_is_shallow, value_is_bracketed, fails_still, leb_true}
use Rattle.json_tree.proofs.read.whole_value.Goals as goal

pub returns-clause-found : goal.returns-clause-found
returns-clause-found c = read_is_value c.args.tokens.now c.in_ok-found.found c.in_ok-found.end c.in_ok-found.ensures.gives (grind arith) (leb_true _ _ (grind arith)) (c.if-not-few_brackets.ensures.few refl)

pub returns-in_err-found-clause-only : goal.returns-in_err-found-clause-only
returns-in_err-found-clause-only c = λ n p. let h : _ = fails_still c.args.tokens.now n c.in_err-found.field-0.0 p c.in_err-found.ensures.gives in search (rules, h)

pub returns-then-end-tokens-clause-only : goal.returns-then-end-tokens-clause-only
returns-then-end-tokens-clause-only c = λ n p. absurd (c.if-end-tokens.true (sym (one_value c.args.tokens.now n c.in_ok-found.found c.in_ok-found.end p c.in_ok-found.ensures.gives).1))

pub returns-then-not-is_shallow-clause-only : goal.returns-then-not-is_shallow-clause-only
returns-then-not-is_shallow-clause-only c = λ n p.
    let d : depth_of c.in_ok-found.found ≤ 499 = rw (one_value c.args.tokens.now n c.in_ok-found.found c.in_ok-found.end p c.in_ok-found.ensures.gives).0 at (value_is_shallow c.args.tokens.now n p) in
    grind (arith, d)

pub returns-then-not-few_brackets-clause-only : goal.returns-then-not-few_brackets-clause-only
returns-then-not-few_brackets-clause-only c = λ n p.
    let m : _ = c.if-not-few_brackets.ensures.many refl in
    absurd (omega (arith, m.2, value_is_bracketed c.args.tokens.now n p m.0 m.1))

pub returns-clause-only : goal.returns-clause-only
returns-clause-only c = λ n p. ap (λ (m : Node). Some m) (one_value c.args.tokens.now n c.in_ok-found.found c.in_ok-found.end p c.in_ok-found.ensures.gives).0
