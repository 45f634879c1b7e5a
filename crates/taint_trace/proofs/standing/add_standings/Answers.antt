use Rattle.std.proofs.Common.{◌≡◌, ◌↔◌, ◌⊎◌, inl, inr, List, subst}
use Rattle.std.proofs.lemmas.List.{take_all}
use Rattle.node_tree.specs.declared.span.Span.{Span}
use Rattle.graph_form.specs.Sets.{Among}
use Rattle.taint_trace.proofs.Standings.{standing_more}
use Rattle.taint_trace.proofs.standing.add_standings.Goals as goal

abbrev none : Span
none = record { from = 0; to = 0 }

pub loop-span-init : goal.loop-span-init
loop-span-init c s = (λ h. inl h, λ h. elim h [ inl a ↦ a | inr b ↦ absurd b.1 ])

pub loop-span-preserved : goal.loop-span-preserved
loop-span-preserved c = standing_more c.args.spans.now c.loop-span.span-index none c.args.place c.args.into.now.items c.loop-span.into.items _ c.loop-span-test.true c.loop-span.invariant c.in_ok-push.ensures.items

pub returns : goal.returns
returns c s =
    let P : List Span → Type 0 = λ xs. Among c.loop-span.into.items s ↔ (Among c.args.into.now.items s ⊎ ((s.place ≡ c.args.place) × Among xs s.span)) in
    subst P (take_all c.loop-span.span-index c.args.spans.now c.loop-span-test.false) (c.loop-span.invariant s)
