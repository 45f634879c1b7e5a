use Rattle.std.proofs.Common.{◌++◌, ◌∷◌, [], ap, sym, ◌∙◌}
use Rattle.std.proofs.lemmas.List.{map-append}
use Rattle.node_pool.specs.Spots.{seen, all_seen}
use Rattle.point_nodes.proofs.Parts.{part_at}
use Rattle.point_nodes.proofs.belonging.add_part.Goals as goal

pub returns-in_ok-push : goal.returns-in_ok-push
returns-in_ok-push c =
    let h = c.in-Some.ensures.lookup in
    let x = c.in-Some.node.now in
    ap all_seen c.in_ok-push.ensures.ok ∙ map-append seen c.args.into.now (x ∷ []) ∙ ap (λ ps. all_seen c.args.into.now ++ ps) (sym (part_at seen c.args.place c.args.nodes.now x h.3.0 (h.3.1 x)))
