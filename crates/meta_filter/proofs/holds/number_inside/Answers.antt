use Rattle.std.proofs.Common.{◌≡◌, ◌∷◌, rules, arith, sym, ◌∙◌}
use Rattle.meta_filter.proofs.Contents.{one_node}
use Rattle.meta_filter.proofs.holds.number_inside.Goals as goal

pub returns : goal.returns
returns c =
    let parts : c.args.nodes.now ≡ c.in-Some.node.now ∷ c.in-Some.others.now = search rules in
    c.string_number.ensures ∙ rw parts (sym (one_node c.in-Some.node.now c.in-Some.others.now (grind (arith, c.if-not-is_empty.ensures))))
