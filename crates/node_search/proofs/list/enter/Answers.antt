use Rattle.node_match.proofs.Sets.{gathered, gathered_all}
use Rattle.node_search.proofs.Steps.{put_from, entered_last, no_entered}
use Rattle.node_search.proofs.list.enter.Goals as goal

pub loop-trail-preserved : goal.loop-trail-preserved
loop-trail-preserved c k h ps b =
    gathered _ _ _ _ _ _ (put_from k h _ _ _ c.in_ok-put.ensures ps b) (entered_last k h ps c.args.at _ _ c.in-Some.trail b c.in-Some.ensures) (c.loop-trail.invariant k h ps b)

pub returns : goal.returns
returns c k h ps b =
    gathered_all _ _ _ (no_entered k h ps c.args.at _ b c.in_default.ensures.0) (c.loop-trail.invariant k h ps b)
