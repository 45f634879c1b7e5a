use Rattle.std.proofs.Common.{◌↔◌, ℕ, List, sym, subst}
use Rattle.graph_form.specs.Sets.{Among}
use Rattle.assignments.specs.Seen.{seen_assignment}
use Rattle.taint_form.specs.declared.origins.Aim.{Aim}
use Rattle.taint_form.specs.Origins.{Comes}
use Rattle.taint_plan.specs.Facts.{TaintsValue}
use Rattle.taint_tables.specs.Numbers.{numbers_of}
use Rattle.taint_plan.specs.RowFacts.{AreAims}
use Rattle.taint_plan.proofs.RowLists.{after_fact}
use Rattle.taint_plan.proofs.rows.follow.Goals as goal

pub returns-clause-after : goal.returns-clause-after
returns-clause-after c spans holds =
    let numbers = numbers_of c.args.look.census.now in
    let a = seen_assignment c.args.one.now in
    let P : List ℕ → Type 0 = λ xs. (f : ℕ) → Among xs f ↔ TaintsValue spans numbers a.value f in
    let Q : List Aim → Type 0 = AreAims numbers a in
    after_fact spans numbers a (Comes c.args.origins.now) (Comes c.assign.new.self) c.deref.result.now c.deref-2.result.now (subst P (sym c.deref.ensures.value) (c.in_ok-value.ensures spans holds)) (subst Q (sym c.deref-2.ensures.value) c.in_ok-aims.ensures) c.in_ok-assign.ensures.after
