use Rattle.std.proofs.Common.{◌≡◌, ◌∙◌, ℕ, List, sym, ap, map}
use Rattle.scan_world.specs.Files.{Files}
use Rattle.file_map.specs.FileMap.{with_file, all_bytes, over_limit}
use Rattle.file_map.specs.Seen.{files_of, shown}
use Rattle.file_map.proofs.Shown.{insert_shown}
use Rattle.file_map.proofs.file_map.FileMap.put_shared.Goals as goal

pub returns-clause-put : goal.returns-clause-put
returns-clause-put c =
    ap (map shown) c.in_ok-insert.ensures.entries ∙ insert_shown c.self.inside.by_path.entries c.in_ok-name.name c.args.bytes
    ∙ ap (λ (name : List ℕ). with_file (files_of c.self.inside.by_path) (name, c.args.bytes.value)) c.in_ok-name.ensures.ok ∙ ap (λ (fs : Files). with_file fs (c.args.path.now, c.args.bytes.value)) c.self.view_is

pub invariant_of-self-2 : goal.invariant_of-self-2
invariant_of-self-2 c =
    let put : files_of c.insert.new.self ≡ with_file c.args.self.now (c.args.path.now, c.args.bytes.value) =
    ap (map shown) c.in_ok-insert.ensures.entries ∙ insert_shown c.self.inside.by_path.entries c.in_ok-name.name c.args.bytes
    ∙ ap (λ (name : List ℕ). with_file (files_of c.self.inside.by_path) (name, c.args.bytes.value)) c.in_ok-name.ensures.ok ∙ ap (λ (fs : Files). with_file fs (c.args.path.now, c.args.bytes.value)) c.self.view_is in
    let same : c.as_slice.result.now ≡ c.args.bytes.value = c.as_slice.ensures ∙ c.as_ref.ensures in
    let as_put : with_file c.args.self.now (c.args.path.now, c.as_slice.result.now) ≡ files_of c.insert.new.self = ap (λ (bytes : List ℕ). with_file c.args.self.now (c.args.path.now, bytes)) same ∙ sym put in
    (c.in_ok-all.ensures.bytes ∙ ap all_bytes as_put, sym (ap over_limit as_put) ∙ c.in_ok-all.ensures.within)

pub returns-clause-within : goal.returns-clause-within
returns-clause-within c =
    let same : c.as_slice.result.now ≡ c.args.bytes.value = c.as_slice.ensures ∙ c.as_ref.ensures in
    ap (λ (bytes : List ℕ). over_limit (with_file c.args.self.now (c.args.path.now, bytes))) (sym same) ∙ c.in_ok-all.ensures.within
