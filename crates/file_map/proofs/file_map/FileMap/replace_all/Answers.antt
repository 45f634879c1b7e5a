use Rattle.std.proofs.Common.{◌≡◌, ◌∙◌, ap, map, sym}
use Rattle.std.proofs.lemmas.Result.{err_from_is_err_and}
use Rattle.scan_world.specs.Files.{Files}
use Rattle.file_map.specs.FileMap.{front, over_limit}
use Rattle.file_map.specs.Seen.{files_of}
use Rattle.file_map.specs.Sync.{with_files}
use Rattle.file_map.proofs.Replacing.{cloned}
use Rattle.file_map.proofs.file_map.FileMap.replace_all.Goals as goal

pub returns-in_err-bytes-clause-over : goal.returns-in_err-bytes-clause-over
returns-in_err-bytes-clause-over c =
    let p = err_from_is_err_and c.from_residual-in_err-bytes.result c.from_residual-in_err-bytes.ensures.1 in
    let put : files_of c.put_fronts.new.by_path ≡ with_files c.args.self.now (map front c.args.files.now) =
    c.in_ok-put_fronts.ensures ∙ ap (λ (fs : Files). with_files fs (map front c.args.files.now)) (cloned c.self.inside.by_path.entries c.in_ok-by_path.by_path.entries c.in_ok-by_path.ensures.cases ∙ c.self.view_is) in
    rw (p.1, p.2, ← put) c.in_err-bytes.ensures.over

pub returns-clause-put : goal.returns-clause-put
returns-clause-put c =
    c.in_ok-put_fronts.ensures ∙ ap (λ (fs : Files). with_files fs (map front c.args.files.now)) (cloned c.self.inside.by_path.entries c.in_ok-by_path.by_path.entries c.in_ok-by_path.ensures.cases ∙ c.self.view_is)

pub returns-clause-within : goal.returns-clause-within
returns-clause-within c =
    let put : files_of c.put_fronts.new.by_path ≡ with_files c.args.self.now (map front c.args.files.now) =
    c.in_ok-put_fronts.ensures ∙ ap (λ (fs : Files). with_files fs (map front c.args.files.now)) (cloned c.self.inside.by_path.entries c.in_ok-by_path.by_path.entries c.in_ok-by_path.ensures.cases ∙ c.self.view_is) in
    sym (ap over_limit put) ∙ c.in_ok-bytes.ensures.within
