use Rattle.std.proofs.Common.{rules, ◌≤◌, arith, sym, ◌∙◌, refl}
use Rattle.sums.specs.Tree.{depth, view}
use Rattle.sums.proofs.ClosedRuns.{run_is_read, text_is_read, read_is_run, forward, one_answer, is_shallow_run, is_bracketed_run, leb_true}
use Rattle.sums.specs.Reading.{of_text, of_pattern, level_of}
use Rattle.sums.proofs.runs.read_run.Goals as goal

pub returns-clause-found : goal.returns-clause-found
returns-clause-found c = read_is_run c.args.start c.args.tokens.now c.args.from _ _ c.in_ok-node.ensures.gives (grind arith) (leb_true _ _ (grind arith)) (c.if-not-few_brackets.ensures.few refl)

pub few_brackets-requires-clause-ordered : goal.few_brackets-requires-clause-ordered
few_brackets-requires-clause-ordered c = forward c.args.start c.args.tokens.now c.args.from _ _ c.in_ok-node.ensures.gives

pub returns-clause-only : goal.returns-clause-only
returns-clause-only c = λ t j r. sym (run_is_read c.args.start c.args.tokens.now c.args.from t j r) ∙ c.in_ok-node.ensures.gives

pub returns-clause-only_text : goal.returns-clause-only_text
returns-clause-only_text c = λ all t j r. sym (text_is_read c.args.start c.args.tokens.now c.args.from t j all r) ∙ c.in_ok-node.ensures.gives

pub returns-in_err-node-clause-only : goal.returns-in_err-node-clause-only
returns-in_err-node-clause-only c = λ t j r. rw (← run_is_read c.args.start c.args.tokens.now c.args.from t j r) (search rules)

pub returns-in_err-node-clause-only_text : goal.returns-in_err-node-clause-only_text
returns-in_err-node-clause-only_text c = λ all t j r. rw (← text_is_read c.args.start c.args.tokens.now c.args.from t j all r) (search rules)

pub returns-then-not-is_shallow-clause-only : goal.returns-then-not-is_shallow-clause-only
returns-then-not-is_shallow-clause-only c = λ t j r.
    let e : _ = one_answer (level_of c.args.start) c.args.tokens.now c.args.from t (view c.in_ok-node.node) j c.in_ok-node.end (run_is_read c.args.start c.args.tokens.now c.args.from t j r) c.in_ok-node.ensures.gives in
    let d : depth (view c.in_ok-node.node) ≤ 500 = rw e.0 at (is_shallow_run of_pattern c.args.start c.args.tokens.now c.args.from t j r) in
    grind (arith, d)

pub returns-then-not-is_shallow-clause-only_text : goal.returns-then-not-is_shallow-clause-only_text
returns-then-not-is_shallow-clause-only_text c = λ all t j r.
    let e : _ = one_answer (level_of c.args.start) c.args.tokens.now c.args.from t (view c.in_ok-node.node) j c.in_ok-node.end (text_is_read c.args.start c.args.tokens.now c.args.from t j all r) c.in_ok-node.ensures.gives in
    let d : depth (view c.in_ok-node.node) ≤ 500 = rw e.0 at (is_shallow_run of_text c.args.start c.args.tokens.now c.args.from t j r) in
    grind (arith, d)

pub returns-then-not-few_brackets-clause-only : goal.returns-then-not-few_brackets-clause-only
returns-then-not-few_brackets-clause-only c = λ t j r.
    let e : _ = one_answer (level_of c.args.start) c.args.tokens.now c.args.from t (view c.in_ok-node.node) j c.in_ok-node.end (run_is_read c.args.start c.args.tokens.now c.args.from t j r) c.in_ok-node.ensures.gives in
    let m : _ = c.if-not-few_brackets.ensures.many refl in
    absurd (omega (arith, m.3, is_bracketed_run of_pattern c.args.start c.args.tokens.now c.args.from t j r m.0 m.1 (omega (arith, m.2, e.1))))

pub returns-then-not-few_brackets-clause-only_text : goal.returns-then-not-few_brackets-clause-only_text
returns-then-not-few_brackets-clause-only_text c = λ all t j r.
    let e : _ = one_answer (level_of c.args.start) c.args.tokens.now c.args.from t (view c.in_ok-node.node) j c.in_ok-node.end (text_is_read c.args.start c.args.tokens.now c.args.from t j all r) c.in_ok-node.ensures.gives in
    let m : _ = c.if-not-few_brackets.ensures.many refl in
    absurd (omega (arith, m.3, is_bracketed_run of_text c.args.start c.args.tokens.now c.args.from t j r m.0 m.1 (omega (arith, m.2, e.1))))
