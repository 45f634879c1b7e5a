use Rattle.std.proofs.Common.{◌++◌, ap, ◌∙◌}
use Rattle.node_tree.specs.Numbers.{Numbered, kids_at}
use Rattle.node_pool.specs.Spots.{seen, all_seen}
use Rattle.point_nodes.specs.Tops.{part}
use Rattle.point_nodes.proofs.Parts.{flat_more}
use Rattle.point_nodes.proofs.belonging.add_defaults.Goals as goal

pub loop-parameter-preserved : goal.loop-parameter-preserved
loop-parameter-preserved c =
    let has = λ (parameter : Numbered). part 2 (kids_at parameter) in
    let kids = ap all_seen c.as_slice.ensures ∙ c.in_ok-kids.ensures in
    flat_more seen has c.args.parameters.now c.loop-parameter.parameter-index c.parameter-item.result _ _ _ c.loop-parameter-test.true c.parameter-item.is c.loop-parameter.invariant (c.in_ok-add_part.ensures ∙ ap (λ ks. all_seen c.loop-parameter.into ++ part 2 ks) kids)
