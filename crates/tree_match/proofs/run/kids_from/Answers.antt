use Rattle.std.proofs.Common.{◌∙◌, ◌-◌, ap, sym, arith, length, length-drop, drop}
use Rattle.std.proofs.lemmas.List.{take_all}
use Rattle.node_pool.specs.Spots.{seen}
use Rattle.node_match.proofs.Numbering.{kids_many, rest_nodes}
use Rattle.tree_match.proofs.run.kids_from.Goals as goal

pub overflow_sub-kids : goal.overflow_sub-kids
overflow_sub-kids c = omega (arith, c.requires, kids_many (seen c.args.block), ap length c.as_slice-kids.ensures)

pub part_of-requires : goal.part_of-requires
part_of-requires c = omega (arith, c.requires, kids_many (seen c.args.block), ap length c.as_slice-kids.ensures)

pub returns : goal.returns
returns c =
    let kids = c.as_slice-kids.result.now in
    rest_nodes (seen c.args.block) c.args.from ∙ ap (drop c.args.from) (sym c.as_slice-kids.ensures)
    ∙ sym (take_all (length kids - c.args.from) (drop c.args.from kids) (omega (arith, length-drop c.args.from kids))) ∙ sym c.part_of.ensures
