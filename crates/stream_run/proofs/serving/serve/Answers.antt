use Rattle.std.proofs.Common.{◌≡◌, [], ap, refl, ◌∙◌, Err, arith}
use Rattle.std.specs.Prelude.{IsErrOf}
use Rattle.stream_run.specs.declared.fault.PlayFault.{PlayFault}
use Rattle.stream_run.specs.Doing.{empty_shelves}
use Rattle.stream_run.specs.Playing.{begun}
use Rattle.folder_files.proofs.Told.{keeps_self, keeps_on}
use Rattle.wire_stream.specs.Feeds.{FeedState}
use Rattle.stream_run.proofs.Streaming.{nothing_written, some_bytes}
use Rattle.stream_run.proofs.Turns.{first_turn, grows_on, one_turn}
use Rattle.stream_run.proofs.Ends.{served_as}
use Rattle.stream_run.proofs.Served.{served_unread, served_done, served_unplayed, served_unprinted}
use Rattle.stream_run.proofs.serving.serve.Goals as goal

err_is : (X : Type 0) (a b : PlayFault) → IsErrOf {T = X} (Err a) b → a ≡ b
err_is X a b h = cc

pub returns-in_default-clause-first_lines : goal.returns-in_default-clause-first_lines
returns-in_default-clause-first_lines g c =
    λ _. record { lines = []; first = (0, empty_shelves, (g.S.Source.left c.args.input.now), begun); printed = nothing_written (g.K.Sink.written c.args.out.now) }

pub loop-init : goal.loop-init
loop-init g c =
    let at = ap (λ (f : FeedState). f.place) c.in-Ok.ensures in
    record {
      plays = first_turn (g.W.Workspace.readings (g.W.Workspace.reader c.args.workspace.now)) (g.T.Tree.files c.args.tree.now) (g.W.Workspace.state c.args.workspace.now).most (g.S.Source.left c.args.input.now) (g.P.Patterns.refusals c.args.patterns.now) (g.P.Patterns.asked c.args.patterns.now) (g.K.Sink.written c.args.out.now) c.args.steps.now (g.W.Workspace.state c.args.workspace.now) c.requires.new refl (g.W.Workspace.seen c.args.workspace.now) c.requires.unseen c.in-Ok.feed at (ap (λ (f : FeedState). f.hand) c.in-Ok.ensures);
      going = ap (λ (f : FeedState). f.failed) c.in-Ok.ensures;
      counted = omega (arith, at);
      within = omega (arith, at);
      same_reader = refl;
      kept = keeps_self (g.T.Tree.files c.args.tree.now);
      source = refl;
      sink = refl;
      tree = refl;
    }

pub returns-in-Err-clause-ends : goal.returns-in-Err-clause-ends
returns-in-Err-clause-ends g c =
    let served = served_as _ _ _ _ _ _ _ _ _ _ _ _ _ _ _ _ _ c.unread.ensures
    (served_unread (g.W.Workspace.readings (g.W.Workspace.reader c.args.workspace.now)) (g.T.Tree.files c.args.tree.now) (g.W.Workspace.state c.args.workspace.now).most (g.S.Source.left c.args.input.now) (g.P.Patterns.refusals c.args.patterns.now) (g.P.Patterns.asked c.args.patterns.now) (g.K.Sink.written c.args.out.now) c.args.steps.now (g.W.Workspace.state c.loop.workspace) (g.W.Workspace.seen c.loop.workspace) c.loop.steps (g.P.Patterns.refusals c.loop.patterns) (g.P.Patterns.asked c.loop.patterns) (g.K.Sink.written c.loop.out) c.loop.feed (g.S.Source.left c.loop.input) c.loop.invariant.plays (g.S.Source.faults c.args.input.now) (g.S.Source.faults c.loop.input) (g.K.Sink.faults c.args.out.now) (g.K.Sink.faults c.loop.out) (g.T.Tree.faults c.args.tree.now) (g.T.Tree.faults c.loop.tree) c.loop.invariant.source c.loop.invariant.sink c.loop.invariant.tree (g.S.Source.left c.next_command.new.input) (g.S.Source.faults c.next_command.new.input) c.in-Err.fault c.in-Err.ensures.fault c.in-Err.ensures.cause (λ e. c.in-Err.ensures.waits (ap Err e))) in
    served.ends

pub returns-in-Err-clause-only : goal.returns-in-Err-clause-only
returns-in-Err-clause-only g c =
    let served = served_as _ _ _ _ _ _ _ _ _ _ _ _ _ _ _ _ _ c.unread.ensures
    (served_unread (g.W.Workspace.readings (g.W.Workspace.reader c.args.workspace.now)) (g.T.Tree.files c.args.tree.now) (g.W.Workspace.state c.args.workspace.now).most (g.S.Source.left c.args.input.now) (g.P.Patterns.refusals c.args.patterns.now) (g.P.Patterns.asked c.args.patterns.now) (g.K.Sink.written c.args.out.now) c.args.steps.now (g.W.Workspace.state c.loop.workspace) (g.W.Workspace.seen c.loop.workspace) c.loop.steps (g.P.Patterns.refusals c.loop.patterns) (g.P.Patterns.asked c.loop.patterns) (g.K.Sink.written c.loop.out) c.loop.feed (g.S.Source.left c.loop.input) c.loop.invariant.plays (g.S.Source.faults c.args.input.now) (g.S.Source.faults c.loop.input) (g.K.Sink.faults c.args.out.now) (g.K.Sink.faults c.loop.out) (g.T.Tree.faults c.args.tree.now) (g.T.Tree.faults c.loop.tree) c.loop.invariant.source c.loop.invariant.sink c.loop.invariant.tree (g.S.Source.left c.next_command.new.input) (g.S.Source.faults c.next_command.new.input) c.in-Err.fault c.in-Err.ensures.fault c.in-Err.ensures.cause (λ e. c.in-Err.ensures.waits (ap Err e))) in
    served.only

pub returns-in-Err-clause-first_lines : goal.returns-in-Err-clause-first_lines
returns-in-Err-clause-first_lines g c =
    let served = served_as _ _ _ _ _ _ _ _ _ _ _ _ _ _ _ _ _ c.unread.ensures
    (served_unread (g.W.Workspace.readings (g.W.Workspace.reader c.args.workspace.now)) (g.T.Tree.files c.args.tree.now) (g.W.Workspace.state c.args.workspace.now).most (g.S.Source.left c.args.input.now) (g.P.Patterns.refusals c.args.patterns.now) (g.P.Patterns.asked c.args.patterns.now) (g.K.Sink.written c.args.out.now) c.args.steps.now (g.W.Workspace.state c.loop.workspace) (g.W.Workspace.seen c.loop.workspace) c.loop.steps (g.P.Patterns.refusals c.loop.patterns) (g.P.Patterns.asked c.loop.patterns) (g.K.Sink.written c.loop.out) c.loop.feed (g.S.Source.left c.loop.input) c.loop.invariant.plays (g.S.Source.faults c.args.input.now) (g.S.Source.faults c.loop.input) (g.K.Sink.faults c.args.out.now) (g.K.Sink.faults c.loop.out) (g.T.Tree.faults c.args.tree.now) (g.T.Tree.faults c.loop.tree) c.loop.invariant.source c.loop.invariant.sink c.loop.invariant.tree (g.S.Source.left c.next_command.new.input) (g.S.Source.faults c.next_command.new.input) c.in-Err.fault c.in-Err.ensures.fault c.in-Err.ensures.cause (λ e. c.in-Err.ensures.waits (ap Err e))) in
    served.first_lines

pub returns-in-Err-clause-whole_lines : goal.returns-in-Err-clause-whole_lines
returns-in-Err-clause-whole_lines g c =
    let served = served_as _ _ _ _ _ _ _ _ _ _ _ _ _ _ _ _ _ c.unread.ensures
    (served_unread (g.W.Workspace.readings (g.W.Workspace.reader c.args.workspace.now)) (g.T.Tree.files c.args.tree.now) (g.W.Workspace.state c.args.workspace.now).most (g.S.Source.left c.args.input.now) (g.P.Patterns.refusals c.args.patterns.now) (g.P.Patterns.asked c.args.patterns.now) (g.K.Sink.written c.args.out.now) c.args.steps.now (g.W.Workspace.state c.loop.workspace) (g.W.Workspace.seen c.loop.workspace) c.loop.steps (g.P.Patterns.refusals c.loop.patterns) (g.P.Patterns.asked c.loop.patterns) (g.K.Sink.written c.loop.out) c.loop.feed (g.S.Source.left c.loop.input) c.loop.invariant.plays (g.S.Source.faults c.args.input.now) (g.S.Source.faults c.loop.input) (g.K.Sink.faults c.args.out.now) (g.K.Sink.faults c.loop.out) (g.T.Tree.faults c.args.tree.now) (g.T.Tree.faults c.loop.tree) c.loop.invariant.source c.loop.invariant.sink c.loop.invariant.tree (g.S.Source.left c.next_command.new.input) (g.S.Source.faults c.next_command.new.input) c.in-Err.fault c.in-Err.ensures.fault c.in-Err.ensures.cause (λ e. c.in-Err.ensures.waits (ap Err e))) in
    served.whole_lines

pub returns-in-Err-clause-work : goal.returns-in-Err-clause-work
returns-in-Err-clause-work g c =
    let served = served_as _ _ _ _ _ _ _ _ _ _ _ _ _ _ _ _ _ c.unread.ensures
    (served_unread (g.W.Workspace.readings (g.W.Workspace.reader c.args.workspace.now)) (g.T.Tree.files c.args.tree.now) (g.W.Workspace.state c.args.workspace.now).most (g.S.Source.left c.args.input.now) (g.P.Patterns.refusals c.args.patterns.now) (g.P.Patterns.asked c.args.patterns.now) (g.K.Sink.written c.args.out.now) c.args.steps.now (g.W.Workspace.state c.loop.workspace) (g.W.Workspace.seen c.loop.workspace) c.loop.steps (g.P.Patterns.refusals c.loop.patterns) (g.P.Patterns.asked c.loop.patterns) (g.K.Sink.written c.loop.out) c.loop.feed (g.S.Source.left c.loop.input) c.loop.invariant.plays (g.S.Source.faults c.args.input.now) (g.S.Source.faults c.loop.input) (g.K.Sink.faults c.args.out.now) (g.K.Sink.faults c.loop.out) (g.T.Tree.faults c.args.tree.now) (g.T.Tree.faults c.loop.tree) c.loop.invariant.source c.loop.invariant.sink c.loop.invariant.tree (g.S.Source.left c.next_command.new.input) (g.S.Source.faults c.next_command.new.input) c.in-Err.fault c.in-Err.ensures.fault c.in-Err.ensures.cause (λ e. c.in-Err.ensures.waits (ap Err e))) in
    served.work

pub returns-in-Err-clause-work_to_fault : goal.returns-in-Err-clause-work_to_fault
returns-in-Err-clause-work_to_fault g c =
    let served = served_as _ _ _ _ _ _ _ _ _ _ _ _ _ _ _ _ _ c.unread.ensures
    (served_unread (g.W.Workspace.readings (g.W.Workspace.reader c.args.workspace.now)) (g.T.Tree.files c.args.tree.now) (g.W.Workspace.state c.args.workspace.now).most (g.S.Source.left c.args.input.now) (g.P.Patterns.refusals c.args.patterns.now) (g.P.Patterns.asked c.args.patterns.now) (g.K.Sink.written c.args.out.now) c.args.steps.now (g.W.Workspace.state c.loop.workspace) (g.W.Workspace.seen c.loop.workspace) c.loop.steps (g.P.Patterns.refusals c.loop.patterns) (g.P.Patterns.asked c.loop.patterns) (g.K.Sink.written c.loop.out) c.loop.feed (g.S.Source.left c.loop.input) c.loop.invariant.plays (g.S.Source.faults c.args.input.now) (g.S.Source.faults c.loop.input) (g.K.Sink.faults c.args.out.now) (g.K.Sink.faults c.loop.out) (g.T.Tree.faults c.args.tree.now) (g.T.Tree.faults c.loop.tree) c.loop.invariant.source c.loop.invariant.sink c.loop.invariant.tree (g.S.Source.left c.next_command.new.input) (g.S.Source.faults c.next_command.new.input) c.in-Err.fault c.in-Err.ensures.fault c.in-Err.ensures.cause (λ e. c.in-Err.ensures.waits (ap Err e))) in
    served.work_to_fault

pub returns-in-Err-clause-asked : goal.returns-in-Err-clause-asked
returns-in-Err-clause-asked g c =
    let served = served_as _ _ _ _ _ _ _ _ _ _ _ _ _ _ _ _ _ c.unread.ensures
    (served_unread (g.W.Workspace.readings (g.W.Workspace.reader c.args.workspace.now)) (g.T.Tree.files c.args.tree.now) (g.W.Workspace.state c.args.workspace.now).most (g.S.Source.left c.args.input.now) (g.P.Patterns.refusals c.args.patterns.now) (g.P.Patterns.asked c.args.patterns.now) (g.K.Sink.written c.args.out.now) c.args.steps.now (g.W.Workspace.state c.loop.workspace) (g.W.Workspace.seen c.loop.workspace) c.loop.steps (g.P.Patterns.refusals c.loop.patterns) (g.P.Patterns.asked c.loop.patterns) (g.K.Sink.written c.loop.out) c.loop.feed (g.S.Source.left c.loop.input) c.loop.invariant.plays (g.S.Source.faults c.args.input.now) (g.S.Source.faults c.loop.input) (g.K.Sink.faults c.args.out.now) (g.K.Sink.faults c.loop.out) (g.T.Tree.faults c.args.tree.now) (g.T.Tree.faults c.loop.tree) c.loop.invariant.source c.loop.invariant.sink c.loop.invariant.tree (g.S.Source.left c.next_command.new.input) (g.S.Source.faults c.next_command.new.input) c.in-Err.fault c.in-Err.ensures.fault c.in-Err.ensures.cause (λ e. c.in-Err.ensures.waits (ap Err e))) in
    served.asked

pub returns-in-Err-clause-asked_to_fault : goal.returns-in-Err-clause-asked_to_fault
returns-in-Err-clause-asked_to_fault g c =
    let served = served_as _ _ _ _ _ _ _ _ _ _ _ _ _ _ _ _ _ c.unread.ensures
    (served_unread (g.W.Workspace.readings (g.W.Workspace.reader c.args.workspace.now)) (g.T.Tree.files c.args.tree.now) (g.W.Workspace.state c.args.workspace.now).most (g.S.Source.left c.args.input.now) (g.P.Patterns.refusals c.args.patterns.now) (g.P.Patterns.asked c.args.patterns.now) (g.K.Sink.written c.args.out.now) c.args.steps.now (g.W.Workspace.state c.loop.workspace) (g.W.Workspace.seen c.loop.workspace) c.loop.steps (g.P.Patterns.refusals c.loop.patterns) (g.P.Patterns.asked c.loop.patterns) (g.K.Sink.written c.loop.out) c.loop.feed (g.S.Source.left c.loop.input) c.loop.invariant.plays (g.S.Source.faults c.args.input.now) (g.S.Source.faults c.loop.input) (g.K.Sink.faults c.args.out.now) (g.K.Sink.faults c.loop.out) (g.T.Tree.faults c.args.tree.now) (g.T.Tree.faults c.loop.tree) c.loop.invariant.source c.loop.invariant.sink c.loop.invariant.tree (g.S.Source.left c.next_command.new.input) (g.S.Source.faults c.next_command.new.input) c.in-Err.fault c.in-Err.ensures.fault c.in-Err.ensures.cause (λ e. c.in-Err.ensures.waits (ap Err e))) in
    served.asked_to_fault

pub returns-in-End-clause-ends : goal.returns-in-End-clause-ends
returns-in-End-clause-ends g c =
    (served_done (g.W.Workspace.readings (g.W.Workspace.reader c.args.workspace.now)) (g.T.Tree.files c.args.tree.now) (g.W.Workspace.state c.args.workspace.now).most (g.S.Source.left c.args.input.now) (g.P.Patterns.refusals c.args.patterns.now) (g.P.Patterns.asked c.args.patterns.now) (g.K.Sink.written c.args.out.now) c.args.steps.now (g.W.Workspace.state c.loop.workspace) (g.W.Workspace.seen c.loop.workspace) c.loop.steps (g.P.Patterns.refusals c.loop.patterns) (g.P.Patterns.asked c.loop.patterns) (g.K.Sink.written c.loop.out) c.loop.feed (g.S.Source.left c.loop.input) c.loop.invariant.plays (g.S.Source.faults c.args.input.now) (g.S.Source.faults c.loop.input) (g.K.Sink.faults c.args.out.now) (g.K.Sink.faults c.loop.out) (g.T.Tree.faults c.args.tree.now) (g.T.Tree.faults c.loop.tree) c.loop.invariant.source c.loop.invariant.sink c.loop.invariant.tree c.next_command.new.feed (g.S.Source.left c.next_command.new.input) c.in-Ok-next_command.wire c.in-Ok-next_command.ensures.next (g.S.Source.faults c.next_command.new.input) c.in-Ok-next_command.ensures.cause c.in-End.is).ends

pub returns-in-End-clause-only : goal.returns-in-End-clause-only
returns-in-End-clause-only g c =
    (served_done (g.W.Workspace.readings (g.W.Workspace.reader c.args.workspace.now)) (g.T.Tree.files c.args.tree.now) (g.W.Workspace.state c.args.workspace.now).most (g.S.Source.left c.args.input.now) (g.P.Patterns.refusals c.args.patterns.now) (g.P.Patterns.asked c.args.patterns.now) (g.K.Sink.written c.args.out.now) c.args.steps.now (g.W.Workspace.state c.loop.workspace) (g.W.Workspace.seen c.loop.workspace) c.loop.steps (g.P.Patterns.refusals c.loop.patterns) (g.P.Patterns.asked c.loop.patterns) (g.K.Sink.written c.loop.out) c.loop.feed (g.S.Source.left c.loop.input) c.loop.invariant.plays (g.S.Source.faults c.args.input.now) (g.S.Source.faults c.loop.input) (g.K.Sink.faults c.args.out.now) (g.K.Sink.faults c.loop.out) (g.T.Tree.faults c.args.tree.now) (g.T.Tree.faults c.loop.tree) c.loop.invariant.source c.loop.invariant.sink c.loop.invariant.tree c.next_command.new.feed (g.S.Source.left c.next_command.new.input) c.in-Ok-next_command.wire c.in-Ok-next_command.ensures.next (g.S.Source.faults c.next_command.new.input) c.in-Ok-next_command.ensures.cause c.in-End.is).only

pub returns-in-End-clause-work : goal.returns-in-End-clause-work
returns-in-End-clause-work g c =
    (served_done (g.W.Workspace.readings (g.W.Workspace.reader c.args.workspace.now)) (g.T.Tree.files c.args.tree.now) (g.W.Workspace.state c.args.workspace.now).most (g.S.Source.left c.args.input.now) (g.P.Patterns.refusals c.args.patterns.now) (g.P.Patterns.asked c.args.patterns.now) (g.K.Sink.written c.args.out.now) c.args.steps.now (g.W.Workspace.state c.loop.workspace) (g.W.Workspace.seen c.loop.workspace) c.loop.steps (g.P.Patterns.refusals c.loop.patterns) (g.P.Patterns.asked c.loop.patterns) (g.K.Sink.written c.loop.out) c.loop.feed (g.S.Source.left c.loop.input) c.loop.invariant.plays (g.S.Source.faults c.args.input.now) (g.S.Source.faults c.loop.input) (g.K.Sink.faults c.args.out.now) (g.K.Sink.faults c.loop.out) (g.T.Tree.faults c.args.tree.now) (g.T.Tree.faults c.loop.tree) c.loop.invariant.source c.loop.invariant.sink c.loop.invariant.tree c.next_command.new.feed (g.S.Source.left c.next_command.new.input) c.in-Ok-next_command.wire c.in-Ok-next_command.ensures.next (g.S.Source.faults c.next_command.new.input) c.in-Ok-next_command.ensures.cause c.in-End.is).work

pub returns-in-End-clause-asked : goal.returns-in-End-clause-asked
returns-in-End-clause-asked g c =
    (served_done (g.W.Workspace.readings (g.W.Workspace.reader c.args.workspace.now)) (g.T.Tree.files c.args.tree.now) (g.W.Workspace.state c.args.workspace.now).most (g.S.Source.left c.args.input.now) (g.P.Patterns.refusals c.args.patterns.now) (g.P.Patterns.asked c.args.patterns.now) (g.K.Sink.written c.args.out.now) c.args.steps.now (g.W.Workspace.state c.loop.workspace) (g.W.Workspace.seen c.loop.workspace) c.loop.steps (g.P.Patterns.refusals c.loop.patterns) (g.P.Patterns.asked c.loop.patterns) (g.K.Sink.written c.loop.out) c.loop.feed (g.S.Source.left c.loop.input) c.loop.invariant.plays (g.S.Source.faults c.args.input.now) (g.S.Source.faults c.loop.input) (g.K.Sink.faults c.args.out.now) (g.K.Sink.faults c.loop.out) (g.T.Tree.faults c.args.tree.now) (g.T.Tree.faults c.loop.tree) c.loop.invariant.source c.loop.invariant.sink c.loop.invariant.tree c.next_command.new.feed (g.S.Source.left c.next_command.new.input) c.in-Ok-next_command.wire c.in-Ok-next_command.ensures.next (g.S.Source.faults c.next_command.new.input) c.in-Ok-next_command.ensures.cause c.in-End.is).asked

pub returns-in-Err-play : goal.returns-in-Err-play
returns-in-Err-play g c =
    let served = served_as _ _ _ _ _ _ _ _ _ _ _ _ _ _ _ _ _ c.status.ensures
    (served_unplayed (g.W.Workspace.readings (g.W.Workspace.reader c.args.workspace.now)) (g.T.Tree.files c.args.tree.now) (g.W.Workspace.state c.args.workspace.now).most (g.S.Source.left c.args.input.now) (g.P.Patterns.refusals c.args.patterns.now) (g.P.Patterns.asked c.args.patterns.now) (g.K.Sink.written c.args.out.now) c.args.steps.now (g.W.Workspace.state c.loop.workspace) (g.W.Workspace.seen c.loop.workspace) c.loop.steps (g.P.Patterns.refusals c.loop.patterns) (g.P.Patterns.asked c.loop.patterns) (g.K.Sink.written c.loop.out) c.loop.feed (g.S.Source.left c.loop.input) c.loop.invariant.plays (g.S.Source.faults c.args.input.now) (g.S.Source.faults c.loop.input) (g.K.Sink.faults c.args.out.now) (g.K.Sink.faults c.loop.out) (g.T.Tree.faults c.args.tree.now) (g.T.Tree.faults c.loop.tree) c.loop.invariant.source c.loop.invariant.sink c.loop.invariant.tree c.next_command.new.feed (g.S.Source.left c.next_command.new.input) c.in-Ok-next_command.wire c.in-Ok-next_command.ensures.next (g.S.Source.faults c.next_command.new.input) c.in-Ok-next_command.ensures.cause (g.W.Workspace.state c.play.new.workspace) (g.P.Patterns.refusals c.play.new.patterns) (g.P.Patterns.asked c.play.new.patterns) c.play.ensures.keeps (g.W.Workspace.seen c.play.new.workspace) c.play.new.steps (g.T.Tree.files c.loop.tree) c.loop.invariant.kept (g.T.Tree.faults c.play.new.tree) c.in-Err-play.stop (rw c.loop.invariant.same_reader at c.in-Err-play.ensures.passes) c.in-Err-play.ensures.cause
    (λ no_memory. c.in-Err-play.ensures.refused (λ e. no_memory (err_is _ _ _ e))) (λ no_memory. rw c.loop.invariant.same_reader at (c.in-Err-play.ensures.work (λ e. no_memory (err_is _ _ _ e)))) (λ e. c.in-Err-play.ensures.unspent (ap Err e)) (λ e. c.in-Err-play.ensures.fails (ap Err e)) (λ no_memory. rw c.loop.invariant.same_reader at (c.in-Err-play.ensures.once (λ e. no_memory (err_is _ _ _ e)))) (λ no_memory. rw c.loop.invariant.same_reader at (c.in-Err-play.ensures.asks (λ e. no_memory (err_is _ _ _ e))))) in
    record {
      ends = served.ends;
      only = served.only;
      input_kept = served.input_kept;
      output_kept = served.output_kept;
      tree_kept = served.tree_kept;
      first_lines = served.first_lines;
      whole_lines = served.whole_lines;
      before_sync = served.before_sync;
      front = served.front;
      work = served.work;
      work_to_fault = served.work_to_fault;
      asked = served.asked;
      asked_to_fault = served.asked_to_fault;
      input_fault = served.input_fault;
      output_fault = served.output_fault;
      tree_fault = served.tree_fault;
      files_kept = keeps_on (g.T.Tree.files c.args.tree.now) (g.T.Tree.files c.loop.tree) (g.T.Tree.files c.play.new.tree) c.loop.invariant.kept c.play.ensures.files_kept;
      patterns_grow = grows_on (g.W.Workspace.readings (g.W.Workspace.reader c.args.workspace.now)) (g.T.Tree.files c.args.tree.now) (g.W.Workspace.state c.args.workspace.now).most (g.S.Source.left c.args.input.now) (g.P.Patterns.refusals c.args.patterns.now) (g.P.Patterns.asked c.args.patterns.now) (g.K.Sink.written c.args.out.now) c.args.steps.now (g.W.Workspace.state c.loop.workspace) (g.W.Workspace.seen c.loop.workspace) c.loop.steps (g.P.Patterns.refusals c.loop.patterns) (g.P.Patterns.asked c.loop.patterns) (g.K.Sink.written c.loop.out) c.loop.feed (g.S.Source.left c.loop.input) c.loop.invariant.plays (g.W.Workspace.state c.play.new.workspace) (g.P.Patterns.refusals c.play.new.patterns) (g.P.Patterns.asked c.play.new.patterns) c.play.ensures.keeps;
    }

pub returns-in-Err-print : goal.returns-in-Err-print
returns-in-Err-print g c =
    let served = served_as _ _ _ _ _ _ _ _ _ _ _ _ _ _ _ _ _ c.status-in-Err-print.ensures
    (served_unprinted (g.W.Workspace.readings (g.W.Workspace.reader c.args.workspace.now)) (g.T.Tree.files c.args.tree.now) (g.W.Workspace.state c.args.workspace.now).most (g.S.Source.left c.args.input.now) (g.P.Patterns.refusals c.args.patterns.now) (g.P.Patterns.asked c.args.patterns.now) (g.K.Sink.written c.args.out.now) c.args.steps.now (g.W.Workspace.state c.loop.workspace) (g.W.Workspace.seen c.loop.workspace) c.loop.steps (g.P.Patterns.refusals c.loop.patterns) (g.P.Patterns.asked c.loop.patterns) (g.K.Sink.written c.loop.out) c.loop.feed (g.S.Source.left c.loop.input) c.loop.invariant.plays (g.S.Source.faults c.args.input.now) (g.S.Source.faults c.loop.input) (g.K.Sink.faults c.args.out.now) (g.K.Sink.faults c.loop.out) (g.T.Tree.faults c.args.tree.now) (g.T.Tree.faults c.loop.tree) c.loop.invariant.source c.loop.invariant.sink c.loop.invariant.tree c.next_command.new.feed (g.S.Source.left c.next_command.new.input) c.in-Ok-next_command.wire c.in-Ok-next_command.ensures.next (g.S.Source.faults c.next_command.new.input) c.in-Ok-next_command.ensures.cause (g.W.Workspace.state c.play.new.workspace) (g.P.Patterns.refusals c.play.new.patterns) (g.P.Patterns.asked c.play.new.patterns) c.play.ensures.keeps (g.W.Workspace.seen c.play.new.workspace) c.play.new.steps (g.T.Tree.files c.loop.tree) c.loop.invariant.kept c.in-Ok-play.reply (rw c.loop.invariant.same_reader at c.in-Ok-play.ensures.does) (c.in-Ok-play.ensures.refused (λ e. cc)) c.in_default-wire.not-End (rw c.loop.invariant.same_reader at (c.in-Ok-play.ensures.work (λ e. cc))) (rw c.loop.invariant.same_reader at (c.in-Ok-play.ensures.once (λ e. cc))) (rw c.loop.invariant.same_reader at (c.in-Ok-play.ensures.asks (λ e. cc))) (g.T.Tree.faults c.play.new.tree) (g.K.Sink.written c.print.new.out) (g.K.Sink.faults c.print.new.out) c.in-Err-print.fault
    (λ e. c.in-Err-print.ensures.unwritten (ap Err e)) (λ e. c.in-Err-print.ensures.front (ap Err e)) (λ e. c.in-Err-print.ensures.failed (ap Err e))) in
    record {
      ends = served.ends;
      only = served.only;
      input_kept = served.input_kept;
      output_kept = served.output_kept;
      tree_kept = served.tree_kept;
      first_lines = served.first_lines;
      whole_lines = served.whole_lines;
      before_sync = served.before_sync;
      front = served.front;
      work = served.work;
      work_to_fault = served.work_to_fault;
      asked = served.asked;
      asked_to_fault = served.asked_to_fault;
      input_fault = served.input_fault;
      output_fault = served.output_fault;
      tree_fault = served.tree_fault;
      files_kept = keeps_on (g.T.Tree.files c.args.tree.now) (g.T.Tree.files c.loop.tree) (g.T.Tree.files c.play.new.tree) c.loop.invariant.kept c.play.ensures.files_kept;
      patterns_grow = grows_on (g.W.Workspace.readings (g.W.Workspace.reader c.args.workspace.now)) (g.T.Tree.files c.args.tree.now) (g.W.Workspace.state c.args.workspace.now).most (g.S.Source.left c.args.input.now) (g.P.Patterns.refusals c.args.patterns.now) (g.P.Patterns.asked c.args.patterns.now) (g.K.Sink.written c.args.out.now) c.args.steps.now (g.W.Workspace.state c.loop.workspace) (g.W.Workspace.seen c.loop.workspace) c.loop.steps (g.P.Patterns.refusals c.loop.patterns) (g.P.Patterns.asked c.loop.patterns) (g.K.Sink.written c.loop.out) c.loop.feed (g.S.Source.left c.loop.input) c.loop.invariant.plays (g.W.Workspace.state c.play.new.workspace) (g.P.Patterns.refusals c.play.new.patterns) (g.P.Patterns.asked c.play.new.patterns) c.play.ensures.keeps;
    }

pub loop-preserved : goal.loop-preserved
loop-preserved g c =
    let next = c.in-Ok-next_command.ensures.next in
    let some = some_bytes _ _ _ _ _ _ next.used in
    let counted = c.loop.invariant.counted in
    record {
      plays = one_turn (g.W.Workspace.readings (g.W.Workspace.reader c.args.workspace.now)) (g.T.Tree.files c.args.tree.now) (g.W.Workspace.state c.args.workspace.now).most (g.S.Source.left c.args.input.now) (g.P.Patterns.refusals c.args.patterns.now) (g.P.Patterns.asked c.args.patterns.now) (g.K.Sink.written c.args.out.now) c.args.steps.now (g.W.Workspace.state c.loop.workspace) (g.W.Workspace.seen c.loop.workspace) c.loop.steps (g.P.Patterns.refusals c.loop.patterns) (g.P.Patterns.asked c.loop.patterns) (g.K.Sink.written c.loop.out) c.loop.feed (g.S.Source.left c.loop.input) c.loop.invariant.plays (g.W.Workspace.state c.play.new.workspace) (g.P.Patterns.refusals c.play.new.patterns) (g.P.Patterns.asked c.play.new.patterns) c.play.ensures.keeps (c.in-Ok-play.ensures.refused (λ e. cc)) (g.T.Tree.files c.loop.tree) c.loop.invariant.kept c.in-Ok-next_command.wire c.in-Ok-play.reply (rw c.loop.invariant.same_reader at c.in-Ok-play.ensures.does) c.next_command.new.feed (g.S.Source.left c.next_command.new.input)
          next c.in_default-wire.not-End (g.W.Workspace.seen c.play.new.workspace) c.play.new.steps (rw c.loop.invariant.same_reader at (c.in-Ok-play.ensures.work (λ e. cc))) (rw c.loop.invariant.same_reader at (c.in-Ok-play.ensures.once (λ e. cc))) (rw c.loop.invariant.same_reader at (c.in-Ok-play.ensures.asks (λ e. cc))) (g.K.Sink.written c.print.new.out) c.in_default-print.ensures.printed;
      going = c.in-Ok-next_command.ensures.going;
      counted = omega (arith, next.place, some, counted);
      within = next.within;
      same_reader = c.play.ensures.same_reader ∙ c.loop.invariant.same_reader;
      kept = keeps_on (g.T.Tree.files c.args.tree.now) (g.T.Tree.files c.loop.tree) (g.T.Tree.files c.play.new.tree) c.loop.invariant.kept c.play.ensures.files_kept;
      source = c.in-Ok-next_command.ensures.cause ∙ c.loop.invariant.source;
      sink = c.in_default-print.ensures.kept ∙ c.loop.invariant.sink;
      tree = c.in-Ok-play.ensures.cause ∙ c.loop.invariant.tree;
    }
