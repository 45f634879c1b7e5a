use Rattle.std.proofs.Common.{◌++◌, ap, ◌∙◌}
use Rattle.std.specs.List.{flat_map}
use Rattle.node_tree.specs.Numbers.{Numbered, kids_at}
use Rattle.node_pool.specs.Spots.{seen, all_seen}
use Rattle.point_nodes.specs.Tops.{part}
use Rattle.assignments.specs.Declarators.{id_of}
use Rattle.assignments.proofs.Loops.{all_more}
use Rattle.assignments.proofs.parameter_names.python_parameters.Goals as goal

pub loop-parameter-preserved : goal.loop-parameter-preserved
loop-parameter-preserved c =
    let has = λ (parameter : Numbered). flat_map id_of (part 0 (kids_at parameter)) in
    let kids = c.part.ensures ∙ ap (part 0) (ap all_seen c.as_slice.ensures ∙ c.in_ok-kids.ensures) in
    all_more seen has c.args.parameters.now c.loop-parameter.parameter-index c.parameter-item.result _ _ c.loop-parameter-test.true c.parameter-item.is c.loop-parameter.invariant
    (c.in_ok-add_ids.ensures ∙ ap (λ ks. all_seen c.loop-parameter.names ++ flat_map id_of ks) kids)
