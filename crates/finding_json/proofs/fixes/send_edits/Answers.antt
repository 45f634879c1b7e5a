use Rattle.std.proofs.Common.{refl, rules}
use Rattle.std.proofs.lemmas.Result.{on_ok_weaker}
use Rattle.finding_json.specs.Reports.{edit_data}
use Rattle.finding_json.proofs.Sent.{items_one_more, items_end}
use Rattle.finding_json.proofs.fixes.send_edits.Goals as goal

pub loop-edit-preserved : goal.loop-edit-preserved
loop-edit-preserved g c = items_one_more edit_data _ _ _ _ _ _ (search rules) c.edit-item.is c.loop-edit.invariant c.in_ok-send_edit.ensures

pub returns : goal.returns
returns g c =
    on_ok_weaker c.end_seq.result (items_end edit_data c.args.edits.now _ c.loop-edit.edit-index _ _ _ _ refl (search rules) c.in_ok-begin_seq.ensures c.loop-edit.invariant) c.end_seq.ensures
