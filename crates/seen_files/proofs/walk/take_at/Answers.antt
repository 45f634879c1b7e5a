use Rattle.std.proofs.Common.{ℕ, List, sym, ap, ◌∙◌}
use Rattle.meta_bind.specs.Bounds.{name_cmp}
use Rattle.seen_files.proofs.Stacks.{taking_none, taking_on, takes_it, takes_none, takes_all}
use Rattle.seen_files.proofs.walk.take_at.Goals as goal

pub loop-next-init : goal.loop-next-init
loop-next-init c = taking_none c.args.path.now c.args.left.now

pub loop-next-preserved : goal.loop-next-preserved
loop-next-preserved c =
    taking_on c.args.path.now c.args.left.now c.loop-next.left c.loop-next.invariant c.pop.new.self c.in-Some.next c.in-Some.ensures (sym (c.in-Less.ensures ∙ ap (λ (p : List ℕ). name_cmp p c.args.path.now) c.as_str.ensures))

pub returns-in-Equal : goal.returns-in-Equal
returns-in-Equal c =
    takes_it c.args.path.now c.args.left.now c.loop-next.left c.loop-next.invariant c.pop.new.self c.in-Some.next c.in-Some.ensures (sym (c.in-Equal.ensures ∙ ap (λ (p : List ℕ). name_cmp p c.args.path.now) c.as_str.ensures))

pub returns-in-Greater : goal.returns-in-Greater
returns-in-Greater c =
    takes_none c.args.path.now c.args.left.now c.loop-next.left c.loop-next.invariant c.pop.new.self c.in-Some.next c.in-Some.ensures c.push.new.self c.in_ok-push-in-Greater.ensures.ok
    (sym (c.in-Greater.ensures ∙ ap (λ (p : List ℕ). name_cmp p c.args.path.now) c.as_str.ensures))

pub returns : goal.returns
returns c = takes_all c.args.path.now c.args.left.now c.loop-next.left c.pop.new.self c.loop-next.invariant c.in_default.ensures.0 c.in_default.ensures.1
