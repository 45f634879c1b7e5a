use Rattle.std.proofs.Common.{◌↔◌, ℕ, sym, subst}
use Rattle.std.specs.Prelude.{Option}
use Rattle.std.specs.Borrow.{Bor}
use Rattle.node_tree.specs.declared.node.Node.{Node}
use Rattle.graph_form.specs.Sets.{Among}
use Rattle.assignments.specs.Seen.{seen_value}
use Rattle.taint_plan.specs.Facts.{TaintsValue}
use Rattle.taint_tables.specs.Numbers.{numbers_of}
use Rattle.taint_plan.proofs.rows.value_facts.Goals as goal

pub returns-in_ok-facts-in-Some : goal.returns-in_ok-facts-in-Some
returns-in_ok-facts-in-Some c spans holds =
    let P : Option (Bor Node) → Type 0 = λ v. (f : ℕ) → Among c.in_ok-facts-in-Some.facts.items f ↔ TaintsValue spans (numbers_of c.args.look.census.now) (seen_value v) f in
    subst P (sym c.in-Some.is) (c.in_ok-facts-in-Some.ensures spans holds)
