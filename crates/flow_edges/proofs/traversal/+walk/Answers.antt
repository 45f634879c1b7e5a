use Rattle.std.proofs.Common.{◌≡◌, ℕ, suc, ◌+◌, ◌-◌, ◌≤◌, ◌<◌, ◌∷◌, ◌++◌, ◌⊎◌, inl, inr, subst, sym, ap, ◌∙◌, arith, drop, length, List}
use Rattle.std.specs.Prelude.{OnOk}
use Rattle.graph_form.specs.declared.graph.Point.{Point}
use Rattle.flow_edges.specs.declared.around.Around.{Around}
use Rattle.flow_edges.specs.declared.statement.Statement.{Statement}
use Rattle.flow_edges.specs.Flow.{first, firsts, before, Flow, InRow}
use Rattle.flow_edges.specs.Grows.{Adds}
use Rattle.flow_edges.proofs.Grown.{drop_read, row_more, try_adds, from_none}
use Rattle.flow_edges.proofs.traversal.+walk.Goals as goal

pub walk-returns : goal.walk-returns
walk-returns t c =
    let e : suc (c.args.depth - 1) ≡ c.args.depth = omega arith in
    let P : ℕ → Type 0 = λ n. OnOk c.walk_over.result (Adds c.args.out.now c.walk_over.new.out (Flow n c.args.around.now c.args.statement.now)) in
    subst P e c.walk_over.ensures

pub walk_row-loop-left-preserved : goal.walk_row-loop-left-preserved
walk_row-loop-left-preserved t c =
    let i = c.loop-left.invariant in
    let at = c.loop-left.left - 1 in
    let lt : at < length c.args.statements.now = omega (arith, i.within) in
    let back : at + 1 ≡ c.loop-left.left = omega arith in
    let one : drop at c.args.statements.now ≡ c.index-statements-left.result ∷ drop c.loop-left.left c.args.statements.now = drop_read c.args.statements.now at c.loop-left.left c.index-statements-left.result lt back c.index-statements-left.is in
    let two : drop at c.args.statements.now ≡ c.index-statements-left-in-loop-left.result ∷ drop c.loop-left.left c.args.statements.now = drop_read c.args.statements.now at c.loop-left.left c.index-statements-left-in-loop-left.result lt back c.index-statements-left-in-loop-left.is in
    let F = first c.args.depth in
    record {
      within = omega (arith, i.within);
      next = c.in_ok-before_next.ensures ∙ ap (F c.index-statements-left.result) (c.as_slice-in-loop-left.ensures ∙ i.next) ∙ sym (ap (λ ss. firsts F ss c.args.around.now.next) one);
      adds = row_more c.args.depth c.args.around.now c.in_ok-inner.inner c.loop-left.next c.index-statements-left-in-loop-left.result (drop c.loop-left.left c.args.statements.now) (drop at c.args.statements.now) _ _ _ two i.next c.in_ok-inner.ensures i.adds c.in_ok-walk.ensures;
    }

pub walk_try-returns : goal.walk_try-returns
walk_try-returns t c =
    try_adds c.args.depth c.args.around.now c.args.statement.now c.in_ok-firsts.firsts c.in_ok-body.body c.in_ok-side.side c.in_ok-last.last c.in_ok-start.start c.pend_inside.new.routes _ _ _ _ _ _ _ c.in_ok-firsts.ensures c.in_ok-body.ensures c.in_ok-side.ensures c.in_ok-last.ensures c.in_ok-start.ensures
    (from_none _ _ _ c.new-inside.ensures c.in_ok-pend_inside.ensures) c.in_ok-to_each.ensures c.in_ok-walk_part.ensures c.in_ok-walk_handlers.ensures c.in_ok-walk_part-2.ensures c.in_ok-escapes.ensures c.in_ok-walk_part-3.ensures
