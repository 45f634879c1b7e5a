use Rattle.std.proofs.Common.{◌++◌, ◌∷◌, [], ap, sym, ◌∙◌, if◌then◌else◌}
use Rattle.std.proofs.lemmas.List.{map-append}
use Rattle.node_pool.specs.Spots.{seen, all_seen}
use Rattle.assignments.proofs.declarator.add_id.Goals as goal

pub returns-then-is_id : goal.returns-then-is_id
returns-then-is_id c =
    let s = seen c.args.node in
    ap all_seen c.in_ok-push.ensures.ok ∙ map-append seen c.args.into.now (c.args.node ∷ []) ∙ ap (λ b. all_seen c.args.into.now ++ (if b then s ∷ [] else [])) (sym c.if-is_id.true ∙ c.is_id.ensures)
