use Rattle.std.proofs.Common.{◌↔◌, List, subst}
use Rattle.std.proofs.lemmas.List.{take_all}
use Rattle.assignments.specs.declared.assignment.Assignment.{Assignment}
use Rattle.assignments.specs.Seen.{all_assignments}
use Rattle.taint_form.specs.Origins.{Comes}
use Rattle.taint_plan.specs.Facts.{AfterFacts, Same}
use Rattle.taint_tables.specs.Numbers.{numbers_of}
use Rattle.taint_plan.proofs.RowLists.{after_more}
use Rattle.taint_plan.proofs.rows.origins_of.Goals as goal

pub returns-clause-after : goal.returns-clause-after
returns-clause-after c spans holds from to =
    let P : List Assignment → Type 0 = λ xs. Comes c.loop-one.origins from to ↔ AfterFacts spans (numbers_of c.args.look.census.now) Same (all_assignments xs) from to in
    subst P (take_all c.loop-one.one-index c.args.given.now c.loop-one-test.false) (c.loop-one.invariant.after spans holds from to)

pub loop-one-preserved : goal.loop-one-preserved
loop-one-preserved c = record {
  listed = c.in_ok-follow.ensures.listed;
  after = λ spans holds.
      after_more spans (numbers_of c.args.look.census.now) Same (Comes c.loop-one.origins) (Comes c.follow.new.origins) c.args.given.now c.loop-one.one-index c.one-item.result c.loop-one-test.true c.one-item.is
      (c.loop-one.invariant.after spans holds) (c.in_ok-follow.ensures.after spans holds);
}
