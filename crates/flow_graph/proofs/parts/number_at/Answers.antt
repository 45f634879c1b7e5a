use Rattle.std.proofs.Common.{◌≡◌, ◌+◌, ◌-◌, ℕ, length, take, subst, arith}
use Rattle.node_tree.specs.Tree.{pre_all}
use Rattle.flow_graph.proofs.parts.number_at.Goals as goal

pub returns-then-at-eq0 : goal.returns-then-at-eq0
returns-then-at-eq0 c first is =
    let P : ℕ → Type 0 = λ k. c.args.before ≡ first + length (pre_all (take k c.args.nodes.now)) in
    let q : c.args.at - 1 ≡ c.args.at = omega (arith, c.if-at-eq0.true) in
    subst P q is
