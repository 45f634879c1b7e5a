use Rattle.std.proofs.Common.{◌↔◌, ◌⊎◌, List, ap, ◌∙◌, subst}
use Rattle.node_tree.specs.declared.node.Node.{Node}
use Rattle.graph_form.specs.Sets.{Among}
use Rattle.taint_form.specs.Expressions.{nodes_now}
use Rattle.taint_tables.specs.Numbers.{numbers_of}
use Rattle.taint_plan.specs.SinkGoals.{IsOf, TaintsAny}
use Rattle.taint_plan.proofs.goals.add_sink.Goals as goal

pub returns : goal.returns
returns c spans holds g =
    let P : List Node → Type 0 = λ ns. Among c.add_all_facts.new.into g ↔ (Among c.args.into.now g ⊎ IsOf c.args.sink.place c.args.place (TaintsAny spans (numbers_of c.args.look.census.now) ns) g) in
    subst P (ap nodes_now c.as_slice.ensures ∙ c.in_ok-outer.ensures) (c.in_ok-add_all_facts.ensures spans holds g)
