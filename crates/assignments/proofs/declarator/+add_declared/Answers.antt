use Rattle.std.proofs.Common.{◌<◌, ◌++◌, ◌∷◌, [], ap, sym, subst, ◌∙◌, List, arith}
use Rattle.std.proofs.lemmas.List.{map-append}
use Rattle.node_tree.specs.Numbers.{Numbered, count_of, kids_at}
use Rattle.node_tree.specs.Tree.{kind_of}
use Rattle.node_pool.specs.Spots.{seen, all_seen}
use Rattle.assignments.specs.Declarators.{within, declared}
use Rattle.assignments.proofs.Declarators.{smaller_within, declared_id, declared_other}
use Rattle.assignments.proofs.Kids.{Smaller, kids_smaller, smaller_at}
use Rattle.assignments.proofs.Loops.{flat_done}
use Rattle.assignments.proofs.declarator.+add_declared.Goals as goal

pub returns-then-is_id : goal.returns-then-is_id
returns-then-is_id t c =
    let old = all_seen c.args.into.now in
    ap all_seen c.in_ok-push.ensures.ok ∙ map-append seen c.args.into.now (c.args.declarator ∷ [])
    ∙ ap (λ ns. old ++ ns) (sym (declared_id (seen c.args.declarator) (sym c.is_id.ensures ∙ c.if-is_id.true)))

pub add_declared-requires : goal.add_declared-requires
add_declared-requires t c =
    let s = seen c.args.declarator in
    let items = c.within-kid-items.result.now in
    let lead = c.within-kid-items.ensures ∙ ap (within (kind_of s.node)) (ap all_seen c.as_slice.ensures ∙ c.in_ok-kids.ensures) in
    let P : List Numbered → Type 0 = Smaller (count_of s.node) in
    let all = subst P (sym lead) (smaller_within (count_of s.node) (kind_of s.node) (kids_at s) (kids_smaller s)) in
    let less : count_of c.kid-item.result.node.now < count_of s.node = smaller_at (count_of s.node) items c.loop-kid.kid-index c.kid-item.result all c.loop-kid-test.true c.kid-item.is in
    (omega (arith, less, c.decreases), tt)

pub returns : goal.returns
returns t c =
    let s = seen c.args.declarator in
    let old = all_seen c.args.into.now in
    let lead = c.within-kid-items.ensures ∙ ap (within (kind_of s.node)) (ap all_seen c.as_slice.ensures ∙ c.in_ok-kids.ensures) in
    flat_done seen declared c.within-kid-items.result.now c.loop-kid.kid-index _ old _ c.loop-kid-test.false lead c.loop-kid.invariant
    ∙ ap (λ ns. old ++ ns) (sym (declared_other s (sym c.is_id.ensures ∙ c.if-is_id.false)))
