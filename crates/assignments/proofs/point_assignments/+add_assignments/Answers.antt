use Rattle.std.proofs.Common.{◌<◌, ◌++◌, ap, sym, subst, ◌∙◌, List, append_assoc, arith}
use Rattle.std.specs.Prelude.{◌||◌}
use Rattle.std.specs.List.{flat_map}
use Rattle.node_tree.specs.Numbers.{Numbered, count_of, kids_at}
use Rattle.node_tree.specs.Tree.{kind_of, text_of}
use Rattle.node_pool.specs.Spots.{seen, all_seen}
use Rattle.assignments.specs.Seen.{all_assignments}
use Rattle.assignments.specs.Assignments.{assigned_by, assigned_at, assigned_in, is_fields}
use Rattle.assignments.proofs.Kids.{Smaller, kids_smaller, smaller_at}
use Rattle.assignments.proofs.Loops.{flat_done}
use Rattle.assignments.proofs.Postorder.{assigned_in_is}
use Rattle.assignments.proofs.point_assignments.+add_assignments.Goals as goal

pub add_assignments-requires : goal.add_assignments-requires
add_assignments-requires t c =
    let s = seen c.args.node in
    let items = ap all_seen c.as_slice-kid-items.ensures ∙ c.in_ok-kids.ensures in
    let P : List Numbered → Type 0 = Smaller (count_of s.node) in
    let all = subst P (sym items) (kids_smaller s) in
    let less : count_of c.kid-item.result.node.now < count_of s.node = smaller_at (count_of s.node) c.as_slice-kid-items.result.now c.loop-kid.kid-index c.kid-item.result all c.loop-kid-test.true c.kid-item.is in
    (omega (arith, less, c.decreases), tt)

pub returns : goal.returns
returns t c =
    let s = seen c.args.node in
    let field = c.args.field in
    let old = all_assignments c.args.into.now in
    let items = ap all_seen c.as_slice-kid-items.ensures ∙ c.in_ok-kids.ensures in
    let kids = ap all_seen c.as_slice.ensures ∙ c.in_ok-kids.ensures in
    let done = flat_done seen (assigned_in c.are_fields_below-below.result) c.as_slice-kid-items.result.now c.loop-kid.kid-index _ old _ c.loop-kid-test.false items c.loop-kid.invariant in
    c.in_ok-add_own.ensures
    ∙ ap (λ ks. all_assignments c.loop-kid.into ++ assigned_by field (kind_of s.node) (text_of s.node) ks) kids
    ∙ ap (λ xs. xs ++ assigned_at field s) (done ∙ ap (λ below. old ++ flat_map (assigned_in below) (kids_at s)) c.are_fields_below-below.ensures)
    ∙ append_assoc old (flat_map (assigned_in (field || is_fields (kind_of s.node))) (kids_at s)) (assigned_at field s)
    ∙ ap (λ xs. old ++ xs) (sym (assigned_in_is field s))
