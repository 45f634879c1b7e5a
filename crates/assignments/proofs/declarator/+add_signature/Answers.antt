use Rattle.std.proofs.Common.{◌≡◌, ◌<◌, ◌++◌, ap, sym, subst, ◌∙◌, List, arith}
use Rattle.node_tree.specs.Numbers.{Numbered, count_of, kids_at}
use Rattle.node_tree.specs.Tree.{kind_of}
use Rattle.node_pool.specs.Spots.{seen, all_seen}
use Rattle.point_nodes.specs.Tops.{part}
use Rattle.assignments.specs.Declarators.{within, is_around_id, signature}
use Rattle.assignments.proofs.Declarators.{smaller_within, signature_here, signature_other}
use Rattle.assignments.proofs.Kids.{Smaller, kids_smaller, smaller_at}
use Rattle.assignments.proofs.Loops.{flat_done}
use Rattle.assignments.proofs.declarator.+add_signature.Goals as goal

pub returns-then-is_around_id : goal.returns-then-is_around_id
returns-then-is_around_id t c =
    let s = seen c.args.declarator in
    let old = all_seen c.args.into.now in
    let kids = ap all_seen c.as_slice.ensures ∙ c.in_ok-kids.ensures in
    let here : is_around_id (kind_of s.node) (kids_at s) ≡ _ = ap (is_around_id (kind_of s.node)) (sym kids) ∙ sym c.is_around_id.ensures ∙ c.if-is_around_id.true in
    c.in_ok-add_all.ensures ∙ ap (λ ns. old ++ ns) (c.part.ensures ∙ ap (part 1) (ap all_seen c.as_slice-then-is_around_id.ensures ∙ c.in_ok-kids.ensures) ∙ sym (signature_here s here))

pub add_signature-requires : goal.add_signature-requires
add_signature-requires t c =
    let s = seen c.args.declarator in
    let items = c.within-kid-items.result.now in
    let lead = c.within-kid-items.ensures ∙ ap (within (kind_of s.node)) (ap all_seen c.as_slice-2.ensures ∙ c.in_ok-kids.ensures) in
    let P : List Numbered → Type 0 = Smaller (count_of s.node) in
    let all = subst P (sym lead) (smaller_within (count_of s.node) (kind_of s.node) (kids_at s) (kids_smaller s)) in
    let less : count_of c.kid-item.result.node.now < count_of s.node = smaller_at (count_of s.node) items c.loop-kid.kid-index c.kid-item.result all c.loop-kid-test.true c.kid-item.is in
    (omega (arith, less, c.decreases), tt)

pub returns : goal.returns
returns t c =
    let s = seen c.args.declarator in
    let old = all_seen c.args.into.now in
    let kids = ap all_seen c.as_slice.ensures ∙ c.in_ok-kids.ensures in
    let lead = c.within-kid-items.ensures ∙ ap (within (kind_of s.node)) (ap all_seen c.as_slice-2.ensures ∙ c.in_ok-kids.ensures) in
    let other : is_around_id (kind_of s.node) (kids_at s) ≡ _ = ap (is_around_id (kind_of s.node)) (sym kids) ∙ sym c.is_around_id.ensures ∙ c.if-is_around_id.false in
    flat_done seen signature c.within-kid-items.result.now c.loop-kid.kid-index _ old _ c.loop-kid-test.false lead c.loop-kid.invariant
    ∙ ap (λ ns. old ++ ns) (sym (signature_other s other))
