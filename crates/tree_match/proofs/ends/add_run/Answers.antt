use Rattle.std.proofs.Common.{◌∙◌, ◌-◌, ap, sym, arith, length, drop, take, List}
use Rattle.node_tree.specs.declared.node.Node.{Node}
use Rattle.node_pool.specs.Spots.{seen}
use Rattle.node_match.specs.Relation.{run_span}
use Rattle.node_match.proofs.Sets.{adds_as}
use Rattle.node_match.proofs.Numbering.{kids_many, run_nodes}
use Rattle.tree_match.proofs.RunEnds.{run_member}
use Rattle.tree_match.proofs.ends.add_run.Goals as goal

pub part_of-run-requires : goal.part_of-run-requires
part_of-run-requires c = omega (arith, c.requires.within, c.if-from-end.true, kids_many (seen c.args.holder), ap length c.as_slice.ensures)

pub returns-in_ok-add-clause-added : goal.returns-in_ok-add-clause-added
returns-in_ok-add-clause-added c =
    let h = seen c.args.holder in
    let size = c.args.end - c.args.from in
    let run = c.part_of-run.ensures ∙ ap (λ (xs : List Node). take size (drop c.args.from xs)) c.as_slice.ensures ∙ sym (run_nodes h size c.args.from) in
    adds_as _ _ _ _ c.in_ok-add.ensures.added (run_member h c.args.from c.args.end _ _ _ c.if-from-end.true (c.span_of_run-range.ensures ∙ ap (run_span h.node) run) c.in_ok-copy.ensures)
