use Rattle.std.proofs.Common.{◌∙◌, ap}
use Rattle.std.specs.Prelude.{Some}
use Rattle.node_pool.specs.Spots.{seen}
use Rattle.node_match.specs.Free.{parts_of}
use Rattle.tree_match.proofs.Landing.{item_at, past_part}
use Rattle.tree_match.proofs.run.is_part_past.Goals as goal

pub returns : goal.returns
returns c past =
    let lookup = c.in-Some-Some.ensures.lookup in
    let here = item_at c.args.nexts.now c.args.at _ lookup.3.0 lookup.1 ∙ ap Some c.in-Some-Some.field-0-is in
    past_part (seen c.args.block) (parts_of c.args.pattern.now) c.args.at c.args.from c.count_kids.result _ (c.requires.nexts c.args.at _ here) c.count_kids.ensures (c.rule_out.ensures past)
