use Rattle.std.proofs.Common.{◌≡◌, ◌↔◌, ◌⊎◌, List, ap, ◌∙◌, subst}
use Rattle.node_tree.specs.declared.node.Node.{Node}
use Rattle.node_tree.specs.Numbers.{Numbered}
use Rattle.node_pool.specs.Spots.{all_seen}
use Rattle.graph_form.specs.Sets.{Among}
use Rattle.flow_reach.proofs.Steps.{as_right}
use Rattle.point_nodes.specs.Tops.{tops_of}
use Rattle.taint_tables.specs.declared.sink.Sink.{Sink}
use Rattle.taint_tables.specs.Numbers.{numbers_of}
use Rattle.taint_plan.specs.SinkGoals.{IsGoalBy, outermost_among}
use Rattle.taint_plan.proofs.GoalLists.{goals_by_some}
use Rattle.taint_plan.proofs.goals.add_point.Goals as goal

pub returns : goal.returns
returns c spans holds g =
    let numbers = numbers_of c.args.look.census.now in
    let tops = tops_of c.args.tree.now c.args.point in
    let P : List Numbered → Type 0 = λ ns. Among c.add_sinks.new.into g ↔ (Among c.args.into.now g ⊎ ((g.point ≡ c.args.place) × IsGoalBy spans c.deref.result.now numbers ns g.sink g.fact)) in
    let Q : List Sink → Type 0 = λ ss. Among c.add_sinks.new.into g ↔ (Among c.args.into.now g ⊎ ((g.point ≡ c.args.place) × IsGoalBy spans ss numbers tops g.sink g.fact)) in
    let found = c.in_ok-sinks.sinks.items in
    let A : List Numbered → Type 0 = λ ns. (s : Sink) → Among c.args.index.now s → (e : Node) → Among (outermost_among s.range ns) e → Among found s in
    let all = subst A (ap all_seen c.as_slice.ensures ∙ c.in_ok-heads.ensures) c.in_ok-sinks.ensures.all in
    let same = goals_by_some spans numbers tops found c.args.index.now c.in_ok-sinks.ensures.only all g.sink g.fact in
    as_right _ _ _ _ (subst Q c.deref.ensures.value (subst P (ap all_seen c.as_slice-2.ensures ∙ c.in_ok-heads.ensures) (c.in_ok-add_sinks.ensures spans holds g)))
    (λ (p, by). (p, same.0 by), λ (p, by). (p, same.1 by))
