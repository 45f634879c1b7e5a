use Rattle.std.proofs.Common.{◌∙◌}
use Rattle.std.specs.Prelude.{None, Some}
use Rattle.std.proofs.lemmas.Result.{err_from_is_err_and}
use Rattle.folder_files.proofs.Reading.{rest_read}
use Rattle.file_map.specs.Sync.{ReadPasses, SyncPasses}
use Rattle.file_map.proofs.Syncing.{outside_over, both_put, both_pass, tells_sync, limit_more}
use Rattle.file_map.proofs.file_map.FileMap.sync.Goals as goal

pub returns-in_err-files-clause-over : goal.returns-in_err-files-clause-over
returns-in_err-files-clause-over g c =
    let p = err_from_is_err_and c.from_residual.result c.from_residual.ensures.1 in
    let told = g.T.Tree.files c.args.tree.now in
    let now = g.T.Tree.files c.taken_under.new.tree in
    rw (p.1, p.2)
    (tells_sync (SyncPasses told c.args.prefix.now c.args.self.now) c.in_err-files.field-0.0
    (outside_over told now c.in-Ok.ensures.kept c.args.prefix.now c.in-Ok.paths c.in-Ok.ensures.taken c.args.self.now (rest_read now c.in-Ok.paths) c.in_err-files.field-0.0 c.in_err-files.ensures.over))

pub returns-in_err-put_read-clause-over : goal.returns-in_err-put_read-clause-over
returns-in_err-put_read-clause-over g c =
    let p = err_from_is_err_and c.from_residual-in_err-put_read.result c.from_residual-in_err-put_read.ensures.1 in
    let told = g.T.Tree.files c.args.tree.now in
    let now = g.T.Tree.files c.taken_under.new.tree in
    rw (p.1, p.2)
    (limit_more (ReadPasses now c.in-Ok.paths c.in_ok-files.files) (SyncPasses told c.args.prefix.now c.args.self.now)
    (λ over far. both_pass told now c.in-Ok.ensures.kept c.args.prefix.now c.in-Ok.paths c.in-Ok.ensures.taken c.args.self.now c.in_ok-files.files c.in_ok-files.ensures.put (Some over) far)
    c.in_err-put_read.field-0.0 c.in_err-put_read.ensures.over)

pub returns-clause-synced : goal.returns-clause-synced
returns-clause-synced g c =
    let told = g.T.Tree.files c.args.tree.now in
    let now = g.T.Tree.files c.taken_under.new.tree in
    let r = both_put told now c.in-Ok.ensures.kept c.args.prefix.now c.in-Ok.paths c.in-Ok.ensures.taken c.args.self.now c.in_ok-files.files c.in_ok-files.ensures.put c.put_read.new.self c.in_ok-put_read.ensures.put in
    (r.0, r.1, c.files.view_is ∙ r.2)

pub returns-clause-within : goal.returns-clause-within
returns-clause-within g c =
    let told = g.T.Tree.files c.args.tree.now in
    let now = g.T.Tree.files c.taken_under.new.tree in
    let far = c.in_ok-put_read.ensures.put in
    both_pass told now c.in-Ok.ensures.kept c.args.prefix.now c.in-Ok.paths c.in-Ok.ensures.taken c.args.self.now c.in_ok-files.files c.in_ok-files.ensures.put None (record { files = far.files; are_read = far.are_read; passes = far.within })
