use Rattle.std.proofs.Common.{inr, ◌≡◌, ◌↔◌, ◌⊎◌, inl, ◌+◌, List, take, get_or, subst}
use Rattle.std.proofs.lemmas.List.{take_all}
use Rattle.node_pool.specs.Spots.{all_seen}
use Rattle.graph_form.specs.Sets.{Among}
use Rattle.graph_form.proofs.Amongs.{among_more}
use Rattle.flow_reach.proofs.Steps.{more}
use Rattle.taint_tables.specs.declared.sink.Sink.{Sink}
use Rattle.taint_tables.specs.Numbers.{numbers_of}
use Rattle.taint_plan.specs.SinkGoals.{IsGoalBy}
use Rattle.taint_plan.proofs.GoalLists.{goals_by_more}
use Rattle.taint_plan.proofs.goals.add_sinks.Goals as goal

abbrev none : Sink
none = record { place = 0; range = record { from = 0; to = 0 } }

pub loop-sink-init : goal.loop-sink-init
loop-sink-init c spans holds g = (λ h. inl h, λ h. elim h [ inl a ↦ a | inr bad ↦ absurd bad.1.1 ])

pub loop-sink-preserved : goal.loop-sink-preserved
loop-sink-preserved c spans holds g =
    let xs = c.args.sinks.now in
    let i = c.loop-sink.sink-index in
    more _ _ _ _ _ _ (c.in_ok-add_sink.ensures spans holds g) (c.loop-sink.invariant spans holds g)
    (goals_by_more spans (numbers_of c.args.look.census.now) (all_seen c.args.heads.now) c.args.place (take i xs) (take (i + 1) xs) (get_or xs i none) (among_more xs i none c.loop-sink-test.true) g)

pub returns : goal.returns
returns c spans holds g =
    let P : List Sink → Type 0 = λ xs. Among c.loop-sink.into g ↔ (Among c.args.into.now g ⊎ ((g.point ≡ c.args.place) × IsGoalBy spans xs (numbers_of c.args.look.census.now) (all_seen c.args.heads.now) g.sink g.fact)) in
    subst P (take_all c.loop-sink.sink-index c.args.sinks.now c.loop-sink-test.false) (c.loop-sink.invariant spans holds g)
