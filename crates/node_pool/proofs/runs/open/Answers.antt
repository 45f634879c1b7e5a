use Rattle.std.proofs.Common.{ℕ, ap, sym, arith, subst, List, ◌+◌, ◌∷◌, ◌++◌, ◌≡◌, length}
use Rattle.node_tree.specs.declared.node.Node.{Node}
use Rattle.node_pool.specs.Preorder.{AreAt}
use Rattle.node_pool.specs.Runs.{longer, runs_of}
use Rattle.node_pool.proofs.Placing.{first_kid}
use Rattle.node_pool.proofs.Siblings.{are_few}
use Rattle.node_pool.proofs.runs.open.Goals as goal

pub size-requires : goal.size-requires
size-requires c = (first_kid c.args.pool.now.nodes c.args.next _ _ _ c.requires.stand c.in_ok-others.ensures.cases.0).lt

pub returns-clause-at : goal.returns-clause-at
returns-clause-at c =
    let f = first_kid c.args.pool.now.nodes c.args.next _ _ _ c.requires.stand c.in_ok-others.ensures.cases.0 in
    let P : ℕ → Type 0 = λ k. AreAt c.args.pool.now.nodes (c.args.next + k) c.in_ok-others.others.now in
    subst P (sym (c.size.ensures.size _ f.is)) f.rest

pub overflow_cast-result : goal.overflow_cast-result
overflow_cast-result c = omega (arith, are_few _ c.args.next _ c.requires.stand, c.requires.few)

pub returns-clause-runs : goal.returns-clause-runs
returns-clause-runs c =
    let at = c.args.next in
    let first = c.in_ok-others.field-0-0.now in
    let others = c.in_ok-others.others.now in
    let cases = c.in_ok-others.ensures.cases.0 in
    let f = first_kid c.args.pool.now.nodes at _ _ _ c.requires.stand cases in
    let P : List Node → Type 0 = λ xs. runs_of at xs ≡ longer at 0 (length xs) ++ runs_of (at + c.size.result) others in
    subst P (sym cases) (ap (λ (k : ℕ). longer at 0 (length (first ∷ others)) ++ runs_of (at + k) others) (sym (c.size.ensures.size _ f.is)))
