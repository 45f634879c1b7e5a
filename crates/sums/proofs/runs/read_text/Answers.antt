use Rattle.std.proofs.Common.{rules, ◌≤◌, length, arith, sym, refl, ap, [], ◌∷◌, Some}
use Rattle.sums.specs.Tree.{depth, view}
use Rattle.sums.specs.Table.{Text}
use Rattle.sums.proofs.ClosedRuns.{whole_is_read, read_is_whole, whole_is_shallow, whole_is_bracketed, one_answer, leb_true, fails_still}
use Rattle.sums.proofs.runs.read_text.Goals as goal

pub returns-clause-found : goal.returns-clause-found
returns-clause-found c = read_is_whole c.args.tokens.now _ _ c.in_ok-node.ensures.gives (grind arith) (leb_true _ _ (grind arith)) (c.if-not-few_brackets.ensures.few refl)

pub returns-in_err-node-clause-only : goal.returns-in_err-node-clause-only
returns-in_err-node-clause-only c = λ t p.
    let h : _ = fails_still c.in_err-node.field-0.0 _ (t ∷ [], length c.args.tokens.now) t c.in_err-node.ensures.gives (whole_is_read c.args.tokens.now t p) in
    search (rules, h)

pub returns-then-end-tokens-clause-only : goal.returns-then-end-tokens-clause-only
returns-then-end-tokens-clause-only c = λ t p.
    let e : _ = one_answer Text c.args.tokens.now 0 t (view c.in_ok-node.node) (length c.args.tokens.now) c.in_ok-node.end (whole_is_read c.args.tokens.now t p) c.in_ok-node.ensures.gives in
    absurd (c.if-end-tokens.true (sym e.1))

pub returns-then-not-is_shallow-clause-only : goal.returns-then-not-is_shallow-clause-only
returns-then-not-is_shallow-clause-only c = λ t p.
    let e : _ = one_answer Text c.args.tokens.now 0 t (view c.in_ok-node.node) (length c.args.tokens.now) c.in_ok-node.end (whole_is_read c.args.tokens.now t p) c.in_ok-node.ensures.gives in
    let d : depth (view c.in_ok-node.node) ≤ 500 = rw e.0 at (whole_is_shallow c.args.tokens.now t p) in
    grind (arith, d)

pub returns-then-not-few_brackets-clause-only : goal.returns-then-not-few_brackets-clause-only
returns-then-not-few_brackets-clause-only c = λ t p.
    let e : _ = one_answer Text c.args.tokens.now 0 t (view c.in_ok-node.node) (length c.args.tokens.now) c.in_ok-node.end (whole_is_read c.args.tokens.now t p) c.in_ok-node.ensures.gives in
    let m : _ = c.if-not-few_brackets.ensures.many refl in
    absurd (omega (arith, m.3, whole_is_bracketed c.args.tokens.now t p m.0 m.1 (omega (arith, m.2, e.1))))

pub returns-clause-only : goal.returns-clause-only
returns-clause-only c = λ t p.
    let e : _ = one_answer Text c.args.tokens.now 0 t (view c.in_ok-node.node) (length c.args.tokens.now) c.in_ok-node.end (whole_is_read c.args.tokens.now t p) c.in_ok-node.ensures.gives in
    ap (λ u. Some u) e.0
