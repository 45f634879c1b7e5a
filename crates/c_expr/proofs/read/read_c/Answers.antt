use Rattle.std.proofs.Common.{rules, ◌≡◌, ◌∙◌, map, arith}
use Rattle.c_expr.specs.Words.{token_of}
use Rattle.c_expr.specs.Runs.{AreOf}
use Rattle.c_expr.proofs.Ends.{tree_lies}
use Rattle.c_expr.proofs.Runs.{tree_of_tokens, tree_of_classed, all_of_mode, answer_there}
use Rattle.c_expr.proofs.read.read_c.Goals as goal

pub returns-in_err-node-clause-only : goal.returns-in_err-node-clause-only
returns-in_err-node-clause-only c = λ n to r.
    let classed : c.as_slice.result.now ≡ map (token_of c.args.mode) c.args.tokens.now = c.as_slice.ensures ∙ c.in_ok-classed.ensures in
    let all : AreOf c.args.mode c.as_slice.result.now = all_of_mode c.args.mode c.args.tokens.now c.as_slice.result.now classed in
    let h : _ = c.in_err-node.ensures.only c.args.mode n to all (tree_of_classed c.args.mode c.args.tokens.now c.as_slice.result.now c.args.level c.args.from n to classed r) in
    search (rules, h)

pub returns-clause-found : goal.returns-clause-found
returns-clause-found c =
    let classed : c.as_slice.result.now ≡ map (token_of c.args.mode) c.args.tokens.now = c.as_slice.ensures ∙ c.in_ok-classed.ensures in
    let same : c.in_ok-node.end ≡ c.in-Ok.end = grind arith in
    tree_of_tokens c.args.mode c.args.tokens.now c.as_slice.result.now c.args.level c.args.from c.in_ok-node.node c.in_ok-node.end c.in-Ok.end classed same (c.in_ok-node.ensures.found c.args.mode)

pub returns-clause-placed : goal.returns-clause-placed
returns-clause-placed c = λ text h. tree_lies c.args.mode c.args.tokens.now c.args.level c.args.from c.in_ok-node.node c.in-Ok.end text h (returns-clause-found c)

pub returns-clause-only : goal.returns-clause-only
returns-clause-only c = λ n to r.
    let classed : c.as_slice.result.now ≡ map (token_of c.args.mode) c.args.tokens.now = c.as_slice.ensures ∙ c.in_ok-classed.ensures in
    let all : AreOf c.args.mode c.as_slice.result.now = all_of_mode c.args.mode c.args.tokens.now c.as_slice.result.now classed in
    let same : c.in_ok-node.end ≡ c.in-Ok.end = grind arith in
    answer_there n c.in_ok-node.node to c.in_ok-node.end c.in-Ok.end same (c.in_ok-node.ensures.only c.args.mode n to all (tree_of_classed c.args.mode c.args.tokens.now c.as_slice.result.now c.args.level c.args.from n to classed r))
