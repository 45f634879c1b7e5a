use Rattle.std.proofs.Common.{◌∙◌, arith, sym, ap, take, drop, length, List}
use Rattle.std.proofs.lemmas.List.{drop-drop}
use Rattle.node_tree.specs.declared.node.Node.{Node}
use Rattle.node_match.proofs.Sets.{plus_as, plus_none}
use Rattle.node_search.proofs.Steps.{put_from, run_of, binds_at}
use Rattle.node_match.proofs.Numbering.{run_nodes, kids_many}
use Rattle.node_search.specs.States.{line_of}
use Rattle.node_search.proofs.list.run_at.Goals as goal
use Rattle.node_tree.specs.Numbers.{kids_at}
use Rattle.node_pool.specs.Spots.{seen}

pub returns-in_ok-put : goal.returns-in_ok-put
returns-in_ok-put c k ps b =
    let h = seen c.args.holder in
    let run = c.part_of-run.ensures ∙ ap (λ (xs : List Node). take c.args.size (drop c.args.at xs)) c.as_slice.ensures ∙ sym (run_nodes h c.args.size c.args.at) in
    plus_as _ _ _ _ (put_from k (line_of (seen c.args.holder)) _ _ _ c.in_ok-put.ensures ps b)
    (run_of k (seen c.args.holder) c.args.pattern.now ps (drop c.args.at (kids_at (seen c.args.holder))) _ c.args.size c.args.trail.now c.in-Some.trail b
    (binds_at h.node _ _ _ _ c.args.trail.now _ _ c.as_str.ensures run c.in-Some.is c.in_ok-trail.ensures)
    (sym (drop-drop c.args.size c.args.at (kids_at (seen c.args.holder)))))

pub part_of-run-requires : goal.part_of-run-requires
part_of-run-requires c = omega (arith, c.requires, kids_many (seen c.args.holder), ap length c.as_slice.ensures)

pub returns-in_default : goal.returns-in_default
returns-in_default c k ps b =
    let h = seen c.args.holder in
    let run = c.part_of-run.ensures ∙ ap (λ (xs : List Node). take c.args.size (drop c.args.at xs)) c.as_slice.ensures ∙ sym (run_nodes h c.args.size c.args.at) in
    plus_none _ _ (λ (d, x, y). let e = (binds_at h.node _ _ _ _ c.args.trail.now _ _ c.as_str.ensures run c.in_default.is c.in_ok-trail.ensures d).0 x in absurd (let f = e in cc))

pub overflow_add-at : goal.overflow_add-at
overflow_add-at c = omega (arith, c.requires, kids_many (seen c.args.holder), ap length c.as_slice.ensures)
