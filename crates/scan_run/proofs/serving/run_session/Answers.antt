use Rattle.run_status.specs.Ways.{IsOnlyEnd}
use Rattle.stream_run.specs.Doing.{Setting}
use Rattle.stream_run.specs.Playing.{SessionEnds, PrintsEnd, PrintsFirst, PrintsFront, PrintsWhole, PrintsToSync}
use Rattle.stream_run.specs.Costs.{EndsAfter}
use Rattle.stream_run.specs.Asking.{EndsAsking, FrontAsking}
use Rattle.scan_run.proofs.Settings.{is_new, of_setting, printed_of, first_lines, no_absence}
use Rattle.scan_run.proofs.serving.run_session.Goals as goal

pub serve-status-requires : goal.serve-status-requires
serve-status-requires g c = record { new = is_new c.args.most _ c.new-session.ensures.new; unseen = c.new-session.ensures.unseen }

pub returns-clause-ends : goal.returns-clause-ends
returns-clause-ends g c a =
    printed_of _ _ _ _ c.serve-status.result
    (of_setting (g.T.Tree.files c.args.tree.now) _ c.args.most c.args.traced _ _ c.new-session.ensures.new c.new-session.ensures.traced (λ (s : Setting). PrintsEnd s (g.S.Source.left c.args.input.now) (g.K.Sink.written c.args.out.now) (g.K.Sink.written c.serve-status.new.out) c.serve-status.result) (c.serve-status.ensures.ends a))

pub returns-clause-work : goal.returns-clause-work
returns-clause-work g c a =
    of_setting (g.T.Tree.files c.args.tree.now) _ c.args.most c.args.traced _ _ c.new-session.ensures.new c.new-session.ensures.traced
    (λ (s : Setting). EndsAfter s (g.S.Source.left c.args.input.now) (g.K.Sink.written c.args.out.now) (g.K.Sink.written c.serve-status.new.out) c.serve-status.result c.args.steps.now c.serve-status.new.steps) (c.serve-status.ensures.work a)

pub returns-clause-asked : goal.returns-clause-asked
returns-clause-asked g c a =
    of_setting (g.T.Tree.files c.args.tree.now) _ c.args.most c.args.traced _ _ c.new-session.ensures.new c.new-session.ensures.traced
    (λ (s : Setting). EndsAsking s (g.S.Source.left c.args.input.now) (g.K.Sink.written c.args.out.now) (g.K.Sink.written c.serve-status.new.out) c.serve-status.result (g.P.Patterns.asked c.args.patterns.now) (g.P.Patterns.asked c.serve-status.new.patterns)) (c.serve-status.ensures.asked a)

pub returns-clause-asked_to_fault : goal.returns-clause-asked_to_fault
returns-clause-asked_to_fault g c fault got =
    of_setting (g.T.Tree.files c.args.tree.now) _ c.args.most c.args.traced _ _ c.new-session.ensures.new c.new-session.ensures.traced
    (λ (s : Setting). FrontAsking s (g.S.Source.left c.args.input.now) (g.K.Sink.written c.args.out.now) (g.K.Sink.written c.serve-status.new.out) (g.P.Patterns.asked c.args.patterns.now) (g.P.Patterns.asked c.serve-status.new.patterns)) (c.serve-status.ensures.asked_to_fault fault got)

pub returns-clause-commands_written : goal.returns-clause-commands_written
returns-clause-commands_written g c cut =
    of_setting (g.T.Tree.files c.args.tree.now) _ c.args.most c.args.traced _ _ c.new-session.ensures.new c.new-session.ensures.traced (λ (s : Setting). PrintsFirst s (g.S.Source.left c.args.input.now) (g.K.Sink.written c.args.out.now) (g.K.Sink.written c.serve-status.new.out))
    (first_lines _ _ _ _ _ c.serve-status.result c.serve-status.ensures.first_lines c.serve-status.ensures.before_sync c.serve-status.ensures.whole_lines cut)

pub returns-clause-front_written : goal.returns-clause-front_written
returns-clause-front_written g c e =
    of_setting (g.T.Tree.files c.args.tree.now) _ c.args.most c.args.traced _ _ c.new-session.ensures.new c.new-session.ensures.traced (λ (s : Setting). PrintsFront s (g.S.Source.left c.args.input.now) (g.K.Sink.written c.args.out.now) (g.K.Sink.written c.serve-status.new.out)) (c.serve-status.ensures.front e)

pub returns-clause-there : goal.returns-clause-there
returns-clause-there g c e = no_absence _ _ _ _ c.serve-status.result c.serve-status.ensures.ends e

pub returns-clause-all_read_written : goal.returns-clause-all_read_written
returns-clause-all_read_written g c e =
    of_setting (g.T.Tree.files c.args.tree.now) _ c.args.most c.args.traced _ _ c.new-session.ensures.new c.new-session.ensures.traced
    (λ (s : Setting). PrintsWhole s (g.S.Source.left c.args.input.now) (g.S.Source.left c.serve-status.new.input) (g.K.Sink.written c.args.out.now) (g.K.Sink.written c.serve-status.new.out)) (c.serve-status.ensures.whole_lines e)

pub returns-clause-before_sync_written : goal.returns-clause-before_sync_written
returns-clause-before_sync_written g c e =
    of_setting (g.T.Tree.files c.args.tree.now) _ c.args.most c.args.traced _ _ c.new-session.ensures.new c.new-session.ensures.traced
    (λ (s : Setting). PrintsToSync s (g.S.Source.left c.args.input.now) (g.K.Sink.written c.args.out.now) (g.K.Sink.written c.serve-status.new.out)) (c.serve-status.ensures.before_sync e)

pub returns-clause-only : goal.returns-clause-only
returns-clause-only g c a left told =
    of_setting (g.T.Tree.files c.args.tree.now) _ c.args.most c.args.traced _ _ c.new-session.ensures.new c.new-session.ensures.traced
    (λ (s : Setting). IsOnlyEnd (SessionEnds s (g.S.Source.left c.args.input.now)) (g.K.Sink.written c.args.out.now) (g.K.Sink.written c.serve-status.new.out) c.serve-status.result) (c.serve-status.ensures.only a left told)
