use Rattle.std.proofs.Common.{arith, ap, refl, sym, subst, ◌∙◌, List, ℕ, length, []}
use Rattle.flow_reach.proofs.Words.{has_none}
use Rattle.trace_path.specs.declared.queue.Class.{Class}
use Rattle.trace_path.specs.Fresh.{Gathers}
use Rattle.trace_path.proofs.Counts.{missing_small}
use Rattle.trace_path.proofs.Places.{long_append, first_is}
use Rattle.trace_path.proofs.queue.Queue.new.Goals as goal

pub overflow_cast-end : goal.overflow_cast-end
overflow_cast-end c =
    let G : List ℕ → Type 0 = λ fs. Gathers 0 c.args.start.now c.in_ok-none.field-0.items c.gather.new.self.seen.items fs c.gather.new.self.facts.items in
    let g = subst G c.new-2.ensures.items c.in_ok-gather.ensures.gathers in
    omega (arith, c.len-end.ensures, ap length g.same, long_append [] g.found, g.finds.less, missing_small c.in_ok-none.field-0.items, c.in_ok-none.ensures.room, c.requires.few)

pub returns : goal.returns
returns c =
    let d : Class = record { point = 0; parent = 0; first = 0; end = c.len-end.result } in
    let G : List ℕ → Type 0 = λ fs. Gathers 0 c.args.start.now c.in_ok-none.field-0.items c.gather.new.self.seen.items fs c.gather.new.self.facts.items in
    let g = subst G c.new-2.ensures.items c.in_ok-gather.ensures.gathers in
    let old = c.in_ok-none.field-0.items in
    first_is c.args.words c.args.start.now old c.gather.new.self _ d c.in_ok-none.ensures.room (λ k h. has_none old k (c.in_ok-none.ensures.none k) h) g (ap (λ v. v.items) c.in_ok-gather.ensures.classes ∙ c.new.ensures.items) refl refl (omega (arith, c.len-end.ensures)) c.in_ok-push.ensures.items refl refl
