use Rattle.std.proofs.Common.{◌≡◌, ap, refl}
use Rattle.std.specs.Prelude.{Err, IsErrOf}
use Rattle.wire_stream.specs.Feeds.{FeedState}
use Rattle.wire_stream.specs.declared.trouble.Trouble.{Trouble}
use Rattle.wire_stream.specs.declared.wire.WireFault.{WireFault}
use Rattle.wire_stream.specs.declared.wire.WireFault.TheVariants as faults
use Rattle.wire_stream.proofs.Whole.{longer_fault, next_of, fault_is, waits_is, cause_is}
use Rattle.wire_stream.proofs.feed.next_command.Goals as goal

pub returns-then-place-gt-MOST_STREAM-clause-fault : goal.returns-then-place-gt-MOST_STREAM-clause-fault
returns-then-place-gt-MOST_STREAM-clause-fault g c = (
  refl,
  longer_fault _ _ c.args.feed.now c.feed.inside.hand _ c.in-Ok.wire c.feed.inside.place c.in-Ok.count (ap (λ (f : FeedState). f.hand) c.feed.view_is) (ap (λ (f : FeedState). f.place) c.feed.view_is)
      c.feed.invariant c.in-Ok.ensures.used c.if-place-gt-MOST_STREAM.true,
)

pub returns-else-place-gt-MOST_STREAM-clause-next : goal.returns-else-place-gt-MOST_STREAM-clause-next
returns-else-place-gt-MOST_STREAM-clause-next g c =
    next_of _ _ c.args.feed.now c.feed.inside.hand c.read_command.new.hand c.in-Ok.wire c.feed.inside.place c.in-Ok.count (ap (λ (f : FeedState). f.hand) c.feed.view_is) (ap (λ (f : FeedState). f.place) c.feed.view_is)
    c.in-Ok.ensures.used c.if-place-gt-MOST_STREAM.false

pub returns-in-Err-clause-fault : goal.returns-in-Err-clause-fault
returns-in-Err-clause-fault g c =
    fault_is _ c.args.feed.now c.feed.inside.hand c.feed.inside.place c.in-Err.trouble c.fault.result (ap (λ (f : FeedState). f.hand) c.feed.view_is) (ap (λ (f : FeedState). f.place) c.feed.view_is) c.fault.ensures
    (λ e. c.in-Err.ensures.bad (ap (λ (y : Trouble). Err y) e))

same_fault : (T : Type 0) (r : WireFault) → IsErrOf {T = T} (Err r) faults.Failed → r ≡ faults.Failed
same_fault T r h = cc

pub returns-in-Err-clause-waits : goal.returns-in-Err-clause-waits
returns-in-Err-clause-waits g c = λ e.
    waits_is _ _ c.args.feed.now c.feed.inside.hand c.feed.inside.place c.in-Err.trouble c.fault.result (ap (λ (f : FeedState). f.hand) c.feed.view_is) c.fault.ensures (same_fault _ _ e)
    (λ t. c.in-Err.ensures.failed (ap (λ (y : Trouble). Err y) t))

pub returns-in-Err-clause-cause : goal.returns-in-Err-clause-cause
returns-in-Err-clause-cause g c = cause_is _ _ c.feed.inside.place c.in-Err.trouble c.fault.result c.fault.ensures c.in-Err.ensures.cause
