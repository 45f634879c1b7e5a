use Rattle.std.proofs.Common.{◌∙◌, ap, map}
use Rattle.meta_bind.specs.declared.bound.Bound.{Bound}
use Rattle.meta_bind.specs.Bounds.{with_bound}
use Rattle.node_tree.specs.declared.span.Span.{Span}
use Rattle.node_tree.specs.Tree.{content_of}
use Rattle.node_search.proofs.Steps.{bound_again, bound_not, bound_fresh}
use Rattle.node_search.proofs.list.bound_run.Goals as goal

pub returns-in_ok-copy-in-Some : goal.returns-in_ok-copy-in-Some
returns-in_ok-copy-in-Some c =
    bound_again c.args.holder.now c.args.name.now c.args.run.now c.args.trail.now _ _ c.in-Some.ensures (c.same_all.ensures.0 c.if-same_all.true) c.in_ok-copy-in-Some.ensures

pub returns-else-same_all : goal.returns-else-same_all
returns-else-same_all c =
    bound_not c.args.holder.now c.args.name.now c.args.run.now c.args.trail.now _ c.in-Some.ensures (λ e. let yes = c.same_all.ensures.1 e in let no = c.if-same_all.false in cc)

pub returns-in_ok-bind-in-None : goal.returns-in_ok-bind-in-None
returns-in_ok-bind-in-None c =
    let f : Span → Bound = λ s. record { name = c.args.name.now; span = s; nodes = map content_of c.args.run.now } in
    bound_fresh c.args.holder.now c.args.name.now c.args.run.now c.args.trail.now _ c.in-None.ensures
    (c.in_ok-bind-in-None.ensures.ok ∙ ap (λ b. with_bound (f c.span_of_run-span.result) b) c.in_ok-bound-in-None.ensures ∙ ap (λ s. with_bound (f s) c.args.trail.now) c.span_of_run-span.ensures)
