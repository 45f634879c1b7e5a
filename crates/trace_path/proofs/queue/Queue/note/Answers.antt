use Rattle.std.proofs.Common.{inr}
use Rattle.trace_path.proofs.Counts.{puts, not_has}
use Rattle.trace_path.proofs.queue.Queue.note.Goals as goal

pub returns-clause-notes : goal.returns-clause-notes
returns-clause-notes c =
    let none = not_has _ _ _ _ c.deref.ensures.value c.has.ensures c.if-has.false in
    inr (none, puts _ _ _ _ c.requires.room none c.put.ensures.room c.one.ensures c.put.ensures.there c.put.ensures.others, c.in_ok-push.ensures.items)
