use Rattle.std.proofs.Common.{length, sym, ap, ◌∙◌}
use Rattle.decided_texts.specs.Refused.{gained}
use Rattle.drill_run.specs.Commands.{drill_setting}
use Rattle.drill_run.proofs.Counts.{pair_of}
use Rattle.drill_run.proofs.Ends.{ends_after, ends_front, ends_early, asking_to_end, asking_early, only_early, only_after}
use Rattle.drill_run.proofs.drilling.drill.Goals as goal

pub returns-in-Err-clause-work : goal.returns-in-Err-clause-work
returns-in-Err-clause-work g c a =
    ends_early (drill_setting (g.W.Workspace.readings (g.W.Workspace.reader c.args.workspace.now)) (g.W.Workspace.state c.args.workspace.now).most (gained (g.P.Patterns.refusals c.args.patterns.now) (g.P.Patterns.refusals c.do_all.new.patterns))) c.args.count c.args.steps.now c.do_all.new.steps (g.K.Sink.written c.args.out.now) c.in-Err.status (c.in-Err.ensures.ends a)

pub returns-clause-ends : goal.returns-clause-ends
returns-clause-ends g c a =
    let p = c.print_counts.ensures.printed a in
    (ends_after (drill_setting (g.W.Workspace.readings (g.W.Workspace.reader c.args.workspace.now)) (g.W.Workspace.state c.args.workspace.now).most (gained (g.P.Patterns.refusals c.args.patterns.now) (g.P.Patterns.refusals c.do_all.new.patterns))) c.args.count c.args.steps.now c.do_all.new.steps (g.K.Sink.written c.args.out.now) c.in-Ok.reports c.in-Ok.ensures.drilled c.first-item.result c.second-item.result (sym c.as_slice.ensures ∙ pair_of c.as_slice.result.now c.first-item.result c.second-item.result (ap length c.as_slice.ensures ∙ c.in-Ok.ensures.two) c.first-item.is c.second-item.is) (g.K.Sink.written c.print_counts.new.out) c.print_counts.result p.0 p.1).prints

pub returns-clause-work : goal.returns-clause-work
returns-clause-work g c a =
    let p = c.print_counts.ensures.printed a in
    ends_after (drill_setting (g.W.Workspace.readings (g.W.Workspace.reader c.args.workspace.now)) (g.W.Workspace.state c.args.workspace.now).most (gained (g.P.Patterns.refusals c.args.patterns.now) (g.P.Patterns.refusals c.do_all.new.patterns))) c.args.count c.args.steps.now c.do_all.new.steps (g.K.Sink.written c.args.out.now) c.in-Ok.reports c.in-Ok.ensures.drilled c.first-item.result c.second-item.result (sym c.as_slice.ensures ∙ pair_of c.as_slice.result.now c.first-item.result c.second-item.result (ap length c.as_slice.ensures ∙ c.in-Ok.ensures.two) c.first-item.is c.second-item.is) (g.K.Sink.written c.print_counts.new.out) c.print_counts.result p.0 p.1

pub returns-clause-front_written : goal.returns-clause-front_written
returns-clause-front_written g c e = ends_front (drill_setting (g.W.Workspace.readings (g.W.Workspace.reader c.args.workspace.now)) (g.W.Workspace.state c.args.workspace.now).most (gained (g.P.Patterns.refusals c.args.patterns.now) (g.P.Patterns.refusals c.do_all.new.patterns))) c.args.count c.args.steps.now c.do_all.new.steps (g.K.Sink.written c.args.out.now) c.in-Ok.reports c.in-Ok.ensures.drilled c.first-item.result c.second-item.result (sym c.as_slice.ensures ∙ pair_of c.as_slice.result.now c.first-item.result c.second-item.result (ap length c.as_slice.ensures ∙ c.in-Ok.ensures.two) c.first-item.is c.second-item.is) (g.K.Sink.written c.print_counts.new.out) (c.print_counts.ensures.front e)

pub returns-in-Err-clause-only : goal.returns-in-Err-clause-only
returns-in-Err-clause-only g c a = only_early (drill_setting (g.W.Workspace.readings (g.W.Workspace.reader c.args.workspace.now)) (g.W.Workspace.state c.args.workspace.now).most (gained (g.P.Patterns.refusals c.args.patterns.now) (g.P.Patterns.refusals c.do_all.new.patterns))) c.args.count (g.K.Sink.written c.args.out.now) c.in-Err.status (c.in-Err.ensures.only_end a)

pub returns-clause-only : goal.returns-clause-only
returns-clause-only g c a =
    let p = c.print_counts.ensures.printed a in
    only_after (drill_setting (g.W.Workspace.readings (g.W.Workspace.reader c.args.workspace.now)) (g.W.Workspace.state c.args.workspace.now).most (gained (g.P.Patterns.refusals c.args.patterns.now) (g.P.Patterns.refusals c.do_all.new.patterns))) c.args.count (g.K.Sink.written c.args.out.now) c.in-Ok.reports c.in-Ok.ensures.only c.first-item.result c.second-item.result (sym c.as_slice.ensures ∙ pair_of c.as_slice.result.now c.first-item.result c.second-item.result (ap length c.as_slice.ensures ∙ c.in-Ok.ensures.two) c.first-item.is c.second-item.is) (g.K.Sink.written c.print_counts.new.out) c.print_counts.result p.0 p.1

pub returns-in-Err-clause-asked : goal.returns-in-Err-clause-asked
returns-in-Err-clause-asked g c a =
    asking_early (drill_setting (g.W.Workspace.readings (g.W.Workspace.reader c.args.workspace.now)) (g.W.Workspace.state c.args.workspace.now).most (gained (g.P.Patterns.refusals c.args.patterns.now) (g.P.Patterns.refusals c.do_all.new.patterns))) c.args.count (g.K.Sink.written c.args.out.now) (g.P.Patterns.asked c.args.patterns.now) (g.P.Patterns.asked c.do_all.new.patterns) c.in-Err.status (c.in-Err.ensures.asked_to_end a)

pub returns-clause-asked : goal.returns-clause-asked
returns-clause-asked g c a =
    let p = c.print_counts.ensures.printed a in
    asking_to_end (drill_setting (g.W.Workspace.readings (g.W.Workspace.reader c.args.workspace.now)) (g.W.Workspace.state c.args.workspace.now).most (gained (g.P.Patterns.refusals c.args.patterns.now) (g.P.Patterns.refusals c.do_all.new.patterns))) c.args.count (g.K.Sink.written c.args.out.now) (g.P.Patterns.asked c.args.patterns.now) (g.P.Patterns.asked c.do_all.new.patterns) c.in-Ok.reports c.in-Ok.ensures.asked c.first-item.result c.second-item.result (sym c.as_slice.ensures ∙ pair_of c.as_slice.result.now c.first-item.result c.second-item.result (ap length c.as_slice.ensures ∙ c.in-Ok.ensures.two) c.first-item.is c.second-item.is) (g.K.Sink.written c.print_counts.new.out) c.print_counts.result p.0 p.1
