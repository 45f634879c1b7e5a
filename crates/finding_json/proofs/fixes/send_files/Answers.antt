use Rattle.std.proofs.Common.{refl, rules}
use Rattle.std.proofs.lemmas.Result.{on_ok_weaker}
use Rattle.finding_json.specs.Reports.{fixed_data}
use Rattle.finding_json.proofs.Sent.{items_one_more, items_end}
use Rattle.finding_json.proofs.fixes.send_files.Goals as goal

pub loop-file-preserved : goal.loop-file-preserved
loop-file-preserved g c = items_one_more fixed_data _ _ _ _ _ _ (search rules) c.file-item.is c.loop-file.invariant c.in_ok-send_file.ensures

pub returns : goal.returns
returns g c =
    on_ok_weaker c.end_seq.result (items_end fixed_data c.args.files.now _ c.loop-file.file-index _ _ _ _ refl (search rules) c.in_ok-begin_seq.ensures c.loop-file.invariant) c.end_seq.ensures
