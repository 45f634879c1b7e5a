use Rattle.std.proofs.Common.{ℕ, ap, sym, ◌∙◌, subst, ◌+◌, ◌∷◌}
use Rattle.node_pool.specs.Preorder.{AreAt, starts}
use Rattle.node_pool.proofs.Placing.{first_kid}
use Rattle.node_pool.proofs.kids.step.Goals as goal

pub size-requires : goal.size-requires
size-requires c = (first_kid c.args.pool.now.nodes c.args.next _ _ _ c.requires c.in_ok-others.ensures.cases.0).lt

pub returns-clause-none : goal.returns-clause-none
returns-clause-none c =
    let f = first_kid c.args.pool.now.nodes c.args.next _ _ _ c.requires c.in_ok-others.ensures.cases.0 in
    ap (starts c.args.next) c.in_ok-others.ensures.cases.0 ∙ ap (λ (k : ℕ). c.args.next ∷ starts (c.args.next + k) c.in_ok-others.others.now) (sym (c.size.ensures.size _ f.is))

pub returns-clause-at : goal.returns-clause-at
returns-clause-at c =
    let f = first_kid c.args.pool.now.nodes c.args.next _ _ _ c.requires c.in_ok-others.ensures.cases.0 in
    let P : ℕ → Type 0 = λ k. AreAt c.args.pool.now.nodes (c.args.next + k) c.in_ok-others.others.now in
    subst P (sym (c.size.ensures.size _ f.is)) f.rest
