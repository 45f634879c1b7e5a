use Rattle.std.proofs.Common.{◌≡◌, ◌↔◌, ℕ, ◌+◌, List, take, get_or, subst}
use Rattle.std.specs.Prelude.{Some, None}
use Rattle.std.proofs.lemmas.List.{take_all}
use Rattle.graph_form.specs.declared.graph.Point.{Point}
use Rattle.graph_form.specs.declared.graph.Role.TheVariants.{Entry}
use Rattle.graph_form.specs.Sets.{Among}
use Rattle.flow_reach.proofs.Steps.{either_way}
use Rattle.point_nodes.specs.Tops.{tops_of}
use Rattle.taint_plan.specs.declared.goal.Goal.{Goal}
use Rattle.taint_tables.specs.Numbers.{numbers_of}
use Rattle.taint_plan.specs.SinkGoals.{AtPoints, IsGoalBy}
use Rattle.taint_tables.proofs.ItemPlaces.{got_more}
use Rattle.taint_plan.proofs.GoalLists.{points_more}
use Rattle.taint_plan.proofs.goals.goals.Goals as goal

abbrev none : Point
none = record { node = 0; role = Entry }

pub loop-place-init : goal.loop-place-init
loop-place-init c spans holds g = (
  λ h. (let P : List Goal → Type 0 = λ gs. Among gs g in absurd (subst P c.new-goals.ensures h)),
  λ (p, got, by). absurd (let e : None ≡ Some p = got in cc),
)

pub loop-place-preserved : goal.loop-place-preserved
loop-place-preserved c spans holds g =
    let points = c.args.points.now in
    let i = c.loop-place.place in
    let gives : Point → ℕ → ℕ → Type 0 = λ p. IsGoalBy spans c.args.index.now (numbers_of c.args.look.census.now) (tops_of c.args.tree.now p) in
    let more = points_more gives i (get_or points i none) (take i points) (take (i + 1) points) (got_more points i none c.loop-place-test.true) g in
    either_way _ _ _ _ _ _ (c.in_ok-add_point.ensures spans holds g) (c.loop-place.invariant spans holds g) (λ h. h, λ h. h) more

pub returns : goal.returns
returns c spans holds g =
    let P : List Point → Type 0 = λ ps. Among c.loop-place.goals g ↔ AtPoints (λ p. IsGoalBy spans c.args.index.now (numbers_of c.args.look.census.now) (tops_of c.args.tree.now p)) ps g in
    subst P (take_all c.loop-place.place c.args.points.now c.loop-place-test.false) (c.loop-place.invariant spans holds g)
