use Rattle.std.proofs.Common.{arith, ap, refl, length}
use Rattle.trace_path.specs.declared.queue.Class.{Class}
use Rattle.trace_path.proofs.Places.{long_append, step_none, step_some}
use Rattle.trace_path.proofs.queue.Queue.lengthen.Goals as goal

pub returns-then-end-first : goal.returns-then-end-first
returns-then-end-first c =
    step_none _ _ _ _ c.args.self.now _ c.requires.within c.in_ok-gather.ensures.gathers c.in_ok-gather.ensures.classes (omega (arith, c.if-end-first.true, c.len-end.ensures, c.len-first.ensures))

pub returns : goal.returns
returns c =
    let d : Class = record { point = c.args.point; parent = c.args.head; first = c.len-first.result; end = c.len-end.result } in
    let g = c.in_ok-gather.ensures.gathers in
    step_some _ _ _ _ c.args.self.now c.gather.new.self _ d c.requires.within g c.in_ok-gather.ensures.classes refl refl (omega (arith, c.len-first.ensures)) (omega (arith, c.len-end.ensures)) (omega (arith, c.if-end-first.false, c.len-first.ensures, c.len-end.ensures, ap length g.same, long_append c.args.self.now.facts.items g.found)) c.in_ok-push.ensures.items refl refl
