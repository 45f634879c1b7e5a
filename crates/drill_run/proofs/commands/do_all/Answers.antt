use Rattle.std.proofs.Common.{drop, refl, ◌∙◌, []}
use Rattle.std.proofs.lemmas.List.{drop_all}
use Rattle.std.proofs.lemmas.Result.{err_from_is_err_and}
use Rattle.folder_files.proofs.Told.{keeps_self, keeps_on}
use Rattle.drill_run.proofs.Counts.{two_reports}
use Rattle.drill_run.proofs.Far.{first_far, next_far, next_ends, not_memory, all_far, all_asking, only_far}
use Rattle.drill_run.proofs.Once.{only_end}
use Rattle.drill_run.proofs.commands.do_all.Goals as goal

pub loop-wire-init : goal.loop-wire-init
loop-wire-init g c = record {
  far = first_far (g.W.Workspace.readings (g.W.Workspace.reader c.args.workspace.now)) (g.W.Workspace.state c.args.workspace.now).most (g.P.Patterns.refusals c.args.patterns.now) (g.P.Patterns.asked c.args.patterns.now) c.args.count c.args.steps.now (g.W.Workspace.state c.args.workspace.now) c.requires.new refl (g.W.Workspace.seen c.args.workspace.now) c.requires.unseen c.as_slice-wire-items.result.now c.new-reports.result (c.as_slice-wire-items.ensures ∙ c.in_ok-wires.ensures) c.new-reports.ensures;
  same_reader = refl;
  kept = keeps_self (g.T.Tree.files c.args.tree.now);
  faults = refl;
}

pub returns-in_err-do_one-clause-ends : goal.returns-in_err-do_one-clause-ends
returns-in_err-do_one-clause-ends g c =
    let p = err_from_is_err_and c.from_residual-in_err-do_one.result c.from_residual-in_err-do_one.ensures.1 in
    rw (p.1, p.2)
    (λ a. let x = next_ends (g.W.Workspace.readings (g.W.Workspace.reader c.args.workspace.now)) (g.W.Workspace.state c.args.workspace.now).most (g.P.Patterns.refusals c.args.patterns.now) (g.P.Patterns.asked c.args.patterns.now) c.args.count c.args.steps.now (g.W.Workspace.state c.loop-wire.workspace) (g.W.Workspace.seen c.loop-wire.workspace) c.loop-wire.steps (g.P.Patterns.refusals c.loop-wire.patterns) (g.P.Patterns.asked c.loop-wire.patterns) c.as_slice-wire-items.result.now c.loop-wire.wire-index c.loop-wire.reports c.loop-wire.invariant.far c.wire-item.result _ c.loop-wire-test.true c.wire-item.is (g.W.Workspace.state c.do_one.new.workspace) (g.P.Patterns.refusals c.do_one.new.patterns) (g.P.Patterns.asked c.do_one.new.patterns) c.do_one.ensures.keeps (g.W.Workspace.seen c.do_one.new.workspace) c.do_one.new.steps c.in_err-do_one.field-0.0 (λ a. rw c.loop-wire.invariant.same_reader at (c.in_err-do_one.ensures.once (λ e. not_memory c.in_err-do_one.field-0.0 _ refl a e))) (λ a. rw c.loop-wire.invariant.same_reader at (c.in_err-do_one.ensures.asks (λ e. not_memory c.in_err-do_one.field-0.0 _ refl a e))) (λ a. c.in_err-do_one.ensures.refused (λ e. not_memory c.in_err-do_one.field-0.0 _ refl a e)) (λ a. rw c.loop-wire.invariant.same_reader at (c.in_err-do_one.ensures.work (λ e. not_memory c.in_err-do_one.field-0.0 _ refl a e))) (rw c.loop-wire.invariant.same_reader at c.in_err-do_one.ensures.stops) a in (x.0, x.1))

pub returns-in_err-do_one-clause-asked_to_end : goal.returns-in_err-do_one-clause-asked_to_end
returns-in_err-do_one-clause-asked_to_end g c =
    let p = err_from_is_err_and c.from_residual-in_err-do_one.result c.from_residual-in_err-do_one.ensures.1 in
    rw (p.1, p.2)
    (λ a. let x = next_ends (g.W.Workspace.readings (g.W.Workspace.reader c.args.workspace.now)) (g.W.Workspace.state c.args.workspace.now).most (g.P.Patterns.refusals c.args.patterns.now) (g.P.Patterns.asked c.args.patterns.now) c.args.count c.args.steps.now (g.W.Workspace.state c.loop-wire.workspace) (g.W.Workspace.seen c.loop-wire.workspace) c.loop-wire.steps (g.P.Patterns.refusals c.loop-wire.patterns) (g.P.Patterns.asked c.loop-wire.patterns) c.as_slice-wire-items.result.now c.loop-wire.wire-index c.loop-wire.reports c.loop-wire.invariant.far c.wire-item.result _ c.loop-wire-test.true c.wire-item.is (g.W.Workspace.state c.do_one.new.workspace) (g.P.Patterns.refusals c.do_one.new.patterns) (g.P.Patterns.asked c.do_one.new.patterns) c.do_one.ensures.keeps (g.W.Workspace.seen c.do_one.new.workspace) c.do_one.new.steps c.in_err-do_one.field-0.0 (λ a. rw c.loop-wire.invariant.same_reader at (c.in_err-do_one.ensures.once (λ e. not_memory c.in_err-do_one.field-0.0 _ refl a e))) (λ a. rw c.loop-wire.invariant.same_reader at (c.in_err-do_one.ensures.asks (λ e. not_memory c.in_err-do_one.field-0.0 _ refl a e))) (λ a. c.in_err-do_one.ensures.refused (λ e. not_memory c.in_err-do_one.field-0.0 _ refl a e)) (λ a. rw c.loop-wire.invariant.same_reader at (c.in_err-do_one.ensures.work (λ e. not_memory c.in_err-do_one.field-0.0 _ refl a e))) (rw c.loop-wire.invariant.same_reader at c.in_err-do_one.ensures.stops) a in (x.0, x.3))

pub returns-in_err-do_one-clause-only_end : goal.returns-in_err-do_one-clause-only_end
returns-in_err-do_one-clause-only_end g c =
    let p = err_from_is_err_and c.from_residual-in_err-do_one.result c.from_residual-in_err-do_one.ensures.1 in
    rw (p.1, p.2)
    (λ a. let x = next_ends (g.W.Workspace.readings (g.W.Workspace.reader c.args.workspace.now)) (g.W.Workspace.state c.args.workspace.now).most (g.P.Patterns.refusals c.args.patterns.now) (g.P.Patterns.asked c.args.patterns.now) c.args.count c.args.steps.now (g.W.Workspace.state c.loop-wire.workspace) (g.W.Workspace.seen c.loop-wire.workspace) c.loop-wire.steps (g.P.Patterns.refusals c.loop-wire.patterns) (g.P.Patterns.asked c.loop-wire.patterns) c.as_slice-wire-items.result.now c.loop-wire.wire-index c.loop-wire.reports c.loop-wire.invariant.far c.wire-item.result _ c.loop-wire-test.true c.wire-item.is (g.W.Workspace.state c.do_one.new.workspace) (g.P.Patterns.refusals c.do_one.new.patterns) (g.P.Patterns.asked c.do_one.new.patterns) c.do_one.ensures.keeps (g.W.Workspace.seen c.do_one.new.workspace) c.do_one.new.steps c.in_err-do_one.field-0.0 (λ a. rw c.loop-wire.invariant.same_reader at (c.in_err-do_one.ensures.once (λ e. not_memory c.in_err-do_one.field-0.0 _ refl a e))) (λ a. rw c.loop-wire.invariant.same_reader at (c.in_err-do_one.ensures.asks (λ e. not_memory c.in_err-do_one.field-0.0 _ refl a e))) (λ a. c.in_err-do_one.ensures.refused (λ e. not_memory c.in_err-do_one.field-0.0 _ refl a e)) (λ a. rw c.loop-wire.invariant.same_reader at (c.in_err-do_one.ensures.work (λ e. not_memory c.in_err-do_one.field-0.0 _ refl a e))) (rw c.loop-wire.invariant.same_reader at c.in_err-do_one.ensures.stops) a in only_end _ c.args.count c.in_err-do_one.field-0.0 [] x.0 x.2)

pub loop-wire-preserved : goal.loop-wire-preserved
loop-wire-preserved g c = record {
  far = next_far (g.W.Workspace.readings (g.W.Workspace.reader c.args.workspace.now)) (g.W.Workspace.state c.args.workspace.now).most (g.P.Patterns.refusals c.args.patterns.now) (g.P.Patterns.asked c.args.patterns.now) c.args.count c.args.steps.now (g.W.Workspace.state c.loop-wire.workspace) (g.W.Workspace.seen c.loop-wire.workspace) c.loop-wire.steps (g.P.Patterns.refusals c.loop-wire.patterns) (g.P.Patterns.asked c.loop-wire.patterns) c.as_slice-wire-items.result.now c.loop-wire.wire-index c.loop-wire.reports c.loop-wire.invariant.far c.wire-item.result _ c.loop-wire-test.true c.wire-item.is (g.W.Workspace.state c.do_one.new.workspace) (g.P.Patterns.refusals c.do_one.new.patterns) (g.P.Patterns.asked c.do_one.new.patterns) c.do_one.ensures.keeps (g.W.Workspace.seen c.do_one.new.workspace) c.do_one.new.steps (rw c.loop-wire.invariant.same_reader at (c.in_ok-do_one.ensures.once (λ e. cc))) (rw c.loop-wire.invariant.same_reader at (c.in_ok-do_one.ensures.asks (λ e. cc))) (c.in_ok-do_one.ensures.refused (λ e. cc)) (rw c.loop-wire.invariant.same_reader at (c.in_ok-do_one.ensures.work (λ e. cc))) c.do_one.new.reports (rw c.loop-wire.invariant.same_reader at c.in_ok-do_one.ensures.does);
  same_reader = c.do_one.ensures.same_reader ∙ c.loop-wire.invariant.same_reader;
  kept = keeps_on (g.T.Tree.files c.args.tree.now) (g.T.Tree.files c.loop-wire.tree) (g.T.Tree.files c.do_one.new.tree) c.loop-wire.invariant.kept c.do_one.ensures.files_kept;
  faults = c.in_ok-do_one.ensures.unfailed ∙ c.loop-wire.invariant.faults;
}

pub returns-clause-drilled : goal.returns-clause-drilled
returns-clause-drilled g c = all_far (g.W.Workspace.readings (g.W.Workspace.reader c.args.workspace.now)) (g.W.Workspace.state c.args.workspace.now).most (g.P.Patterns.refusals c.args.patterns.now) (g.P.Patterns.asked c.args.patterns.now) c.args.count c.args.steps.now (g.W.Workspace.state c.loop-wire.workspace) (g.W.Workspace.seen c.loop-wire.workspace) c.loop-wire.steps (g.P.Patterns.refusals c.loop-wire.patterns) (g.P.Patterns.asked c.loop-wire.patterns) (drop c.loop-wire.wire-index c.as_slice-wire-items.result.now) c.loop-wire.reports c.loop-wire.invariant.far (drop_all c.loop-wire.wire-index c.as_slice-wire-items.result.now c.loop-wire-test.false)

pub returns-clause-asked : goal.returns-clause-asked
returns-clause-asked g c = all_asking (g.W.Workspace.readings (g.W.Workspace.reader c.args.workspace.now)) (g.W.Workspace.state c.args.workspace.now).most (g.P.Patterns.refusals c.args.patterns.now) (g.P.Patterns.asked c.args.patterns.now) c.args.count c.args.steps.now (g.W.Workspace.state c.loop-wire.workspace) (g.W.Workspace.seen c.loop-wire.workspace) c.loop-wire.steps (g.P.Patterns.refusals c.loop-wire.patterns) (g.P.Patterns.asked c.loop-wire.patterns) (drop c.loop-wire.wire-index c.as_slice-wire-items.result.now) c.loop-wire.reports c.loop-wire.invariant.far (drop_all c.loop-wire.wire-index c.as_slice-wire-items.result.now c.loop-wire-test.false)

pub returns-clause-only : goal.returns-clause-only
returns-clause-only g c = only_far (g.W.Workspace.readings (g.W.Workspace.reader c.args.workspace.now)) (g.W.Workspace.state c.args.workspace.now).most (g.P.Patterns.refusals c.args.patterns.now) (g.P.Patterns.asked c.args.patterns.now) c.args.count c.args.steps.now (g.W.Workspace.state c.loop-wire.workspace) (g.W.Workspace.seen c.loop-wire.workspace) c.loop-wire.steps (g.P.Patterns.refusals c.loop-wire.patterns) (g.P.Patterns.asked c.loop-wire.patterns) (drop c.loop-wire.wire-index c.as_slice-wire-items.result.now) c.loop-wire.reports c.loop-wire.invariant.far (drop_all c.loop-wire.wire-index c.as_slice-wire-items.result.now c.loop-wire-test.false)

pub returns-clause-two : goal.returns-clause-two
returns-clause-two g c =
    two_reports _ c.args.count c.loop-wire.reports ((all_far (g.W.Workspace.readings (g.W.Workspace.reader c.args.workspace.now)) (g.W.Workspace.state c.args.workspace.now).most (g.P.Patterns.refusals c.args.patterns.now) (g.P.Patterns.asked c.args.patterns.now) c.args.count c.args.steps.now (g.W.Workspace.state c.loop-wire.workspace) (g.W.Workspace.seen c.loop-wire.workspace) c.loop-wire.steps (g.P.Patterns.refusals c.loop-wire.patterns) (g.P.Patterns.asked c.loop-wire.patterns) (drop c.loop-wire.wire-index c.as_slice-wire-items.result.now) c.loop-wire.reports c.loop-wire.invariant.far (drop_all c.loop-wire.wire-index c.as_slice-wire-items.result.now c.loop-wire-test.false)).0)
