use Rattle.std.proofs.Common.{◌≡◌, ◌∙◌, ℕ, List, ap, map, take}
use Rattle.file_map.specs.FileMap.{with_file}
use Rattle.file_map.specs.Seen.{files_of, shown}
use Rattle.file_map.proofs.Shown.{insert_shown}
use Rattle.file_map.proofs.Replacing.{front_put}
use Rattle.file_map.proofs.replace.put_fronts.Goals as goal

pub loop-path-preserved : goal.loop-path-preserved
loop-path-preserved c =
    let kept : c.in_ok-kept-2.kept.value ≡ take 1000001 c.loop-path-item.result.1 = c.in_ok-kept-2.ensures.ok ∙ c.in_ok-kept.ensures ∙ ap (take 1000001) c.as_slice.ensures in
    let named = c.in_ok-name.ensures.ok ∙ c.as_str.ensures in
    ap (map shown) c.in_ok-insert.ensures.entries ∙ insert_shown c.loop-path.by_path.entries c.in_ok-name.name c.in_ok-kept-2.kept
    ∙ ap (λ (n : List ℕ). with_file (files_of c.loop-path.by_path) (n, c.in_ok-kept-2.kept.value)) named ∙ ap (λ (b : List ℕ). with_file (files_of c.loop-path.by_path) (c.loop-path-item.result.0, b)) kept
    ∙ front_put (files_of c.args.by_path.now) (files_of c.loop-path.by_path) c.args.files.now c.loop-path.path-index c.loop-path-item.result c.loop-path-test.true c.loop-path-item.is c.loop-path.invariant
