use Rattle.std.proofs.Common.{◌≡◌, ◌+◌, ℕ, take, arith, get_or, sym, subst}
use Rattle.graph_form.proofs.Amongs.{among_at}
use Rattle.flow_reach.specs.Reached.{Tells}
use Rattle.node_tree.specs.declared.span.Span.{Span}
use Rattle.taint_flow.specs.declared.least.Least.{Least}
use Rattle.taint_plan.specs.declared.goal.Goal.{Goal}
use Rattle.taint_flow.specs.Found.{BySource}
use Rattle.taint_flow.specs.Lowest.{Lowers}
use Rattle.taint_flow.proofs.Finding.{note_none, note_some}
use Rattle.taint_flow.proofs.search.note.Goals.{then-has, else-has}
use Rattle.taint_flow.proofs.search.note.Goals as goal

pub has-requires-clause-point : goal.has-requires-clause-point
has-requires-clause-point c = (c.requires.goals _ (among_at c.args.goals.now c.loop-goal.goal-index (record { sink = 0; point = 0; fact = 0 }) c.loop-goal-test.true)).0

pub has-requires-clause-fact : goal.has-requires-clause-fact
has-requires-clause-fact c = (c.requires.goals _ (among_at c.args.goals.now c.loop-goal.goal-index (record { sink = 0; point = 0; fact = 0 }) c.loop-goal-test.true)).1

pub note-requires : goal.note-requires
note-requires c =
    let less = c.requires.sinks _ (among_at c.args.goals.now c.loop-goal.goal-index (record { sink = 0; point = 0; fact = 0 }) c.loop-goal-test.true) in
    omega (arith, less, c.loop-goal.invariant.size)

pub loop-goal-preserved : goal.loop-goal-preserved
loop-goal-preserved c =
    let goals = c.args.goals.now in
    let i = c.loop-goal.goal-index in
    let source = c.args.source in
    let tells = Tells c.args.names.now in
    let d : Goal = record { sink = 0; point = 0; fact = 0 } in
    let old = c.args.least.now.sources.items in
    let One : Least → Type 0 = λ l. Lowers (λ (k : ℕ) (s : Span). (k ≡ (get_or goals i d).sink) × (s ≡ source)) c.loop-goal.least.sources.items l.sources.items in
    elim c.if-has.branch [
      | then-has w ↦ note_some source tells goals i d c.loop-goal-test.true old c.loop-goal.least.sources.items c.if-has.least.sources.items (c.has.ensures.0 w.if-has.true) c.loop-goal.invariant (subst One (sym w.least-is) w.note.ensures)
      | else-has w ↦ (let Same : Least → Type 0 = λ l. Lowers (BySource source tells (take (i + 1) goals)) old l.sources.items in subst Same (sym w.least-is) (note_none source tells goals i d c.loop-goal-test.true old c.loop-goal.least.sources.items (λ t. (let yes = c.has.ensures.1 t in let e = w.if-has.false in cc)) c.loop-goal.invariant))
    ]
