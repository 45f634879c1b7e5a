use Rattle.std.proofs.Common.{ap, arith, length}
use Rattle.std.proofs.lemmas.List.{length_push}
use Rattle.flow_reach.specs.declared.moves.Move.{Move}
use Rattle.taint_flow.proofs.Reaching.{still_more}
use Rattle.taint_flow.proofs.still.still.Goals as goal

pub loop-preserved : goal.loop-preserved
loop-preserved c =
    let row : Move = record { drops = c.new-drops.result; adds = c.new-adds.result } in
    let size = length_push c.loop.rows row in
    let all = ap length c.in_ok-push.ensures.ok in
    record {
      size = omega (arith, size, all, c.loop.invariant.size);
      still = still_more c.loop.rows c.push.new.self row c.in_ok-push.ensures.ok (c.new-drops.ensures, c.new-adds.ensures) c.loop.invariant.still;
    }
