use Rattle.std.proofs.Common.{◌≡◌, ◌+◌, ℕ, take, arith, get_or, sym, subst}
use Rattle.std.proofs.lemmas.Option.{slice_get-get_or}
use Rattle.graph_form.proofs.Amongs.{among_at}
use Rattle.flow_reach.specs.Reached.{Tells}
use Rattle.node_tree.specs.declared.span.Span.{Span}
use Rattle.taint_flow.specs.declared.least.Least.{Least}
use Rattle.taint_plan.specs.declared.goal.Goal.{Goal}
use Rattle.taint_flow.specs.Lowest.{Lowers}
use Rattle.taint_flow.specs.Still.{BySources}
use Rattle.taint_flow.proofs.Reaching.{goal_none, goal_some}
use Rattle.taint_flow.proofs.still.note_reached.Goals.{then-has, else-has}
use Rattle.taint_flow.proofs.still.note_reached.Goals as goal

pub has-requires-clause-point : goal.has-requires-clause-point
has-requires-clause-point c = (c.requires.goals _ (among_at c.args.goals.now c.loop-goal.goal-index (record { sink = 0; point = 0; fact = 0 }) c.loop-goal-test.true)).0

pub note-requires : goal.note-requires
note-requires c =
    let less = c.requires.sinks _ (among_at c.args.goals.now c.loop-goal.goal-index (record { sink = 0; point = 0; fact = 0 }) c.loop-goal-test.true) in
    omega (arith, less, c.loop-goal.invariant.size)

pub bounds-sources-goal : goal.bounds-sources-goal
bounds-sources-goal c = (c.requires.goals _ (among_at c.args.goals.now c.loop-goal.goal-index (record { sink = 0; point = 0; fact = 0 }) c.loop-goal-test.true)).1

pub loop-goal-preserved : goal.loop-goal-preserved
loop-goal-preserved c =
    let goals = c.args.goals.now in
    let sources = c.args.sources.now in
    let i = c.loop-goal.goal-index in
    let d : Goal = record { sink = 0; point = 0; fact = 0 } in
    let g = get_or goals i d in
    let At : ℕ → Type 0 = λ point. Tells c.args.reached.now point 0 in
    let old = c.args.least.now.sources.items in
    let source = get_or sources g.fact (record { from = 0; to = 0 }) in
    let inside = c.requires.goals g (among_at goals i d c.loop-goal-test.true) in
    let One : Least → Type 0 = λ l. Lowers (λ (k : ℕ) (s : Span). (k ≡ g.sink) × (s ≡ source)) c.loop-goal.least.sources.items l.sources.items in
    let All : Least → Type 0 = λ l. Lowers (BySources At sources (take (i + 1) goals)) old l.sources.items in
    elim c.if-has.branch [
      | then-has w ↦ goal_some At sources goals i d c.loop-goal-test.true old c.loop-goal.least.sources.items c.if-has.least.sources.items source (c.has.ensures.0 w.if-has.true) (slice_get-get_or sources g.fact (record { from = 0; to = 0 }) inside.1) c.loop-goal.invariant (subst One (sym w.least-is) w.note.ensures)
      | else-has w ↦ subst All (sym w.least-is) (goal_none At sources goals i d c.loop-goal-test.true old c.loop-goal.least.sources.items (λ t. (let yes = c.has.ensures.1 t in let e = w.if-has.false in cc)) c.loop-goal.invariant)
    ]
