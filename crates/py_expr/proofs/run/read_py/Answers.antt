use Rattle.std.proofs.Common.{rules, ◌≡◌, arith}
use Rattle.py_expr.specs.Insides.{HasNodes}
use Rattle.py_expr.specs.Runs.{AreOf}
use Rattle.py_expr.proofs.Modes.{all_of_mode}
use Rattle.py_expr.proofs.Runs.{AreMade, are_made, from_within, tree_of_tokens, tree_of_items, answer_there}
use Rattle.py_expr.proofs.Spans.{tree_lies}
use Rattle.py_expr.proofs.run.read_py.Goals as goal

pub read_items-requires : goal.read_items-requires
read_items-requires c =
    let made : AreMade c.args.mode c.args.tokens.now c.as_slice-2.result.now = are_made c.args.mode _ _ _ _ c.as_slice.ensures c.as_slice-2.ensures c.in_ok-items.ensures.found c.in_ok-items.ensures.only in
    from_within (HasNodes 500 c.args.mode) c.args.mode c.args.tokens.now c.as_slice-2.result.now c.args.from made.are c.requires

pub returns-in_err-node-clause-only : goal.returns-in_err-node-clause-only
returns-in_err-node-clause-only c = λ n to r.
    let made : AreMade c.args.mode c.args.tokens.now c.as_slice-2.result.now = are_made c.args.mode _ _ _ _ c.as_slice.ensures c.as_slice-2.ensures c.in_ok-items.ensures.found c.in_ok-items.ensures.only in
    let all : AreOf c.args.mode c.as_slice-2.result.now = all_of_mode c.args.mode (HasNodes 500 c.args.mode) c.args.tokens.now c.as_slice-2.result.now made.are in
    let h : _ = c.in_err-node.ensures.only c.args.mode n to all (tree_of_items c.args.mode c.args.tokens.now c.as_slice-2.result.now c.args.level c.args.from n to made r) in
    search (rules, h)

pub returns-clause-found : goal.returns-clause-found
returns-clause-found c =
    let made : AreMade c.args.mode c.args.tokens.now c.as_slice-2.result.now = are_made c.args.mode _ _ _ _ c.as_slice.ensures c.as_slice-2.ensures c.in_ok-items.ensures.found c.in_ok-items.ensures.only in
    let same : c.in_ok-node.end ≡ c.in-Ok.end = grind arith in
    tree_of_tokens c.args.mode c.args.tokens.now c.as_slice-2.result.now c.args.level c.args.from c.in_ok-node.node c.in_ok-node.end c.in-Ok.end made same (c.in_ok-node.ensures.found c.args.mode)

pub returns-clause-placed : goal.returns-clause-placed
returns-clause-placed c = λ text h. tree_lies c.args.mode c.args.tokens.now c.args.level c.args.from c.in_ok-node.node c.in-Ok.end text h (returns-clause-found c)

pub returns-clause-only : goal.returns-clause-only
returns-clause-only c = λ n to r.
    let made : AreMade c.args.mode c.args.tokens.now c.as_slice-2.result.now = are_made c.args.mode _ _ _ _ c.as_slice.ensures c.as_slice-2.ensures c.in_ok-items.ensures.found c.in_ok-items.ensures.only in
    let all : AreOf c.args.mode c.as_slice-2.result.now = all_of_mode c.args.mode (HasNodes 500 c.args.mode) c.args.tokens.now c.as_slice-2.result.now made.are in
    let same : c.in_ok-node.end ≡ c.in-Ok.end = grind arith in
    answer_there n c.in_ok-node.node to c.in_ok-node.end c.in-Ok.end same (c.in_ok-node.ensures.only c.args.mode n to all (tree_of_items c.args.mode c.args.tokens.now c.as_slice-2.result.now c.args.level c.args.from n to made r))
