use Rattle.std.proofs.Common.{◌+◌, drop}
use Rattle.std.proofs.lemmas.List.{drop_all}
use Rattle.meta_bind.proofs.Lookups.{opened}
use Rattle.running_rules.specs.Running.{file_notices}
use Rattle.running_rules.proofs.Members.{flat_step, flat_end}
use Rattle.running_rules.proofs.running.note_files.Goals as goal

pub loop-file-preserved : goal.loop-file-preserved
loop-file-preserved c =
    let i = c.loop-file.file-index in
    let fs = c.args.files.now in
    let f = c.file-item.result in
    flat_step file_notices c.loop-file.notices.items c.note_content.new.notices.items f (drop i fs) (drop (i + 1) fs) _ c.loop-file.invariant (opened fs i f c.loop-file-test.true c.file-item.is) c.in_ok-note_content.ensures

pub returns : goal.returns
returns c = flat_end file_notices c.loop-file.notices.items _ _ c.loop-file.invariant (drop_all c.loop-file.file-index c.args.files.now c.loop-file-test.false)
