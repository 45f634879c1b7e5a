use Rattle.std.proofs.lemmas.Result.{on_ok_weaker}
use Rattle.finding_json.proofs.parts.send_result.Goals as goal

pub returns : goal.returns
returns g c =
    let id = c.in_ok-send_text.ensures in
    let end = c.in_ok-send_place.ensures in
    let extra = c.in_ok-send_extra.ensures in
    let path = c.in_ok-send_text-2.ensures in
    let start = c.in_ok-send_place-2.ensures in
    on_ok_weaker c.end_map.result
    (λ e. (
      _,
      c.in_ok-begin_map.ensures,
      (id.0, _, id.1, id.2, (end.0, _, end.1, end.2, (extra.0, _, extra.1, extra.2, (path.0, _, path.1, path.2, (start.0, _, start.1, start.2, e))))),
    )) c.end_map.ensures
