use Rattle.std.proofs.Common.{◌≡◌, ℕ, ◌-◌, List, length, get_or, sym, ap, ◌∙◌, arith}
use Rattle.scan_world.specs.Files.{path_cmp}
use Rattle.semscan.proofs.Paths.{ascends_alone, ascends_last}
use Rattle.semscan.proofs.folder.is_above.Goals as goal

pub returns-then-count-eq0 : goal.returns-then-count-eq0
returns-then-count-eq0 c t = ascends_alone c.args.paths.now c.args.path.now (omega arith)

pub returns-in-Less : goal.returns-in-Less
returns-in-Less c t =
    let path = c.args.path.now in
    let item = c.index-paths-count.result in
    let less = sym (c.cmp.ensures ∙ ap (λ (p : List ℕ). path_cmp p path) c.as_str.ensures) ∙ c.in-Less.is in
    ascends_last c.args.paths.now item path c.requires less
    (λ i e. let at : length c.args.paths.now - 1 ≡ i = omega arith in sym (c.index-paths-count.is ∙ ap (λ (j : ℕ). get_or c.args.paths.now j item) (omega arith)))
