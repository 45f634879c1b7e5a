use Rattle.piece_match.proofs.Merges.{go_step, go_same, one_taken}
use Rattle.piece_match.proofs.merge.go_on.Goals as goal

pub loop-right-preserved : goal.loop-right-preserved
loop-right-preserved c =
    let l = c.loop-right in
    let takes = one_taken _ c.in-Some.one l.left l.right _ _ c.in-Some.is c.in_ok-one.ensures in
    record {
      can = go_step l.done l.left l.right _ _ _ c.in-Some.one l.invariant.can takes c.in_ok-push.ensures.ok;
      same = λ m. go_same l.done l.left l.right _ _ _ c.in-Some.one takes c.in_ok-push.ensures.ok _ m (l.invariant.same m);
    }
