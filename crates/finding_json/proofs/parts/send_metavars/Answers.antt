use Rattle.std.proofs.Common.{refl, rules}
use Rattle.std.proofs.lemmas.Result.{on_ok_weaker}
use Rattle.finding_json.proofs.Sent.{metavars_end}
use Rattle.finding_json.proofs.parts.send_metavars.Goals as goal

pub returns : goal.returns
returns g c =
    on_ok_weaker c.end_map.result
    (λ e. (_, c.in_ok-key.ensures, metavars_end c.args.bounds.now _ c.loop-bound.bound-index _ _ _ _ refl (search rules) c.in_ok-begin_map.ensures c.loop-bound.invariant e)) c.end_map.ensures
