use Rattle.std.proofs.Common.{◌≡◌, ℕ, suc, ◌-◌, subst, arith, IfOk}
use Rattle.flow_edges.specs.Flow.{first}
use Rattle.flow_edges.proofs.first_points.+first.Goals as goal

pub first_of-returns : goal.first_of-returns
first_of-returns t c =
    let e : suc (c.args.depth - 1) ≡ c.args.depth = omega arith in
    let P : ℕ → Type 0 = λ n. IfOk c.first_over.result (λ points. points ≡ first n c.args.statement.now c.args.next.now) in
    subst P e c.first_over.ensures
