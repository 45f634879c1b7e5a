use Rattle.std.proofs.Common.{◌≡◌, ◌↔◌, ◌⊎◌, ◌+◌, ◌<◌, ℕ, List, length, sym, ◌∙◌, subst, arith}
use Rattle.std.specs.Global.{Vec}
use Rattle.graph_form.specs.Sets.{Among}
use Rattle.flow_reach.specs.Spread.{RowHas}
use Rattle.flow_reach.proofs.Steps.{both_ways}
use Rattle.assignments.specs.Declarators.{parameters_of}
use Rattle.taint_plan.specs.declared.goal.Goal.{Goal}
use Rattle.taint_plan.specs.Begins.{BeginsAmong}
use Rattle.taint_tables.specs.Numbers.{numbers_of}
use Rattle.taint_plan.specs.SinkGoals.{IsGoal}
use Rattle.taint_plan.proofs.GoalLists.{goals_are}
use Rattle.taint_plan.proofs.PlanLists.{begins_are, begin_below, carried_as, goal_below}
use Rattle.taint_plan.proofs.plan.plan_of.Goals as goal

pub returns : goal.returns
returns c sets are holds =
    let census = c.args.look.census.now in
    let numbers = numbers_of census in
    let nodes = c.args.tree.now in
    let points = c.args.points.now in
    let begins = c.in_ok-begins.begins.items in
    let most : c.in-Some.facts ≡ length census.sources.keys.items + length census.names.keys.items =
    omega (arith, c.in-Some.ensures.1, c.in_ok-sources.ensures, c.len.ensures, c.in_ok-names.ensures, c.len-2.ensures) in
    let counted : c.in_ok-sources.sources ≡ length census.sources.keys.items = c.in_ok-sources.ensures ∙ c.len.ensures in
    let B : ℕ → Type 0 = λ n. (source fact : ℕ) → RowHas begins source fact ↔ (((source < n) × (fact ≡ source)) ⊎ BeginsAmong numbers (parameters_of nodes c.args.unit) source fact) in
    let rows = subst B counted c.in_ok-begins.ensures.begins in
    let V : List (Vec ℕ) → Type 0 = λ vs. (fact : ℕ) → Among c.in_ok-start.start.items fact ↔ ((x : Vec ℕ) × Among vs x × Among x.items fact) in
    let W : List ℕ → Type 0 = λ xs. (fact : ℕ) → Among xs fact ↔ ((x : Vec ℕ) × Among begins x × Among x.items fact) in
    let goals : (g : Goal) → Among c.in_ok-goals.goals g ↔ IsGoal nodes points sets.sanitizers sets.sinks numbers g =
    λ g. both_ways _ _ _ (c.in_ok-goals.ensures sets.sanitizers holds g) (goals_are sets.sanitizers sets.sinks numbers nodes points c.args.places.now.sinks are.sinks g) in
    record {
      facts = most;
      rows = c.in_ok-rows.ensures.rows;
      turns = λ i p row at got from to. both_ways _ _ _ (c.in_ok-rows.ensures.each sets.sanitizers holds i p row at got from to) (carried_as nodes sets.sanitizers c.args.places.now.carries sets.carries numbers are.carries p from to);
      lists = c.in_ok-begins.ensures.size ∙ counted;
      begins = begins_are census c.requires.numbered nodes c.args.unit begins rows;
      begin_facts = λ facts among fact is. omega (arith, most, begin_below census c.requires.numbered nodes c.args.unit begins rows facts among fact is);
      start = subst W (sym c.from_vec.ensures) (subst V c.deref.ensures.value c.in_ok-start.ensures);
      goals = goals;
      goal_facts = λ g among. omega (arith, most, goal_below census c.requires.numbered nodes points sets.sanitizers sets.sinks g ((goals g).0 among));
    }
