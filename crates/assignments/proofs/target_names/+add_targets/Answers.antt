use Rattle.std.proofs.Common.{◌<◌, ◌++◌, ◌∷◌, [], ap, sym, subst, ◌∙◌, List, arith}
use Rattle.std.proofs.lemmas.List.{map-append}
use Rattle.node_tree.specs.Numbers.{Numbered, count_of, kids_at}
use Rattle.node_tree.specs.Tree.{kind_of, text_of}
use Rattle.node_pool.specs.Spots.{seen, all_seen}
use Rattle.point_nodes.proofs.Parts.{flat_more}
use Rattle.assignments.specs.Seen.{seen_target, all_targets}
use Rattle.assignments.specs.Targets.{below, leading, targets}
use Rattle.assignments.proofs.Kids.{Smaller, kids_smaller, smaller_at}
use Rattle.assignments.proofs.Loops.{flat_done}
use Rattle.assignments.proofs.Targets.{smaller_leading, targets_name, targets_other}
use Rattle.assignments.proofs.target_names.+add_targets.Goals as goal

pub returns-then-is_name : goal.returns-then-is_name
returns-then-is_name t c =
    let old = all_targets c.args.into.now in
    ap all_targets c.in_ok-push.ensures.ok ∙ map-append seen_target c.args.into.now (c.target.result ∷ []) ∙ ap (λ n. old ++ n ∷ []) c.target.ensures
    ∙ ap (λ ns. old ++ ns) (sym (targets_name c.args.reach (seen c.args.spot) (sym c.is_name.ensures ∙ c.if-is_name.true)))

pub add_targets-requires : goal.add_targets-requires
add_targets-requires t c =
    let s = seen c.args.spot in
    let items = c.leading-kid-items.result.now in
    let lead = c.leading-kid-items.ensures ∙ ap (leading c.args.reach (kind_of s.node) (text_of s.node)) (ap all_seen c.as_slice.ensures ∙ c.in_ok-kids.ensures) in
    let P : List Numbered → Type 0 = Smaller (count_of s.node) in
    let all = subst P (sym lead) (smaller_leading (count_of s.node) c.args.reach (kind_of s.node) (text_of s.node) (kids_at s) (kids_smaller s)) in
    let less : count_of c.kid-item.result.node.now < count_of s.node = smaller_at (count_of s.node) items c.loop-kid.kid-index c.kid-item.result all c.loop-kid-test.true c.kid-item.is in
    (omega (arith, less, c.decreases), tt)

pub loop-kid-preserved : goal.loop-kid-preserved
loop-kid-preserved t c =
    let kind = kind_of c.args.spot.node.now in
    flat_more seen (targets (below kind)) c.leading-kid-items.result.now c.loop-kid.kid-index c.kid-item.result _ _ _ c.loop-kid-test.true c.kid-item.is c.loop-kid.invariant
    (c.in_ok-add_targets.ensures ∙ ap (λ reach. all_targets c.loop-kid.into ++ targets reach (seen c.kid-item.result)) c.below.ensures)

pub returns : goal.returns
returns t c =
    let s = seen c.args.spot in
    let old = all_targets c.args.into.now in
    let lead = c.leading-kid-items.ensures ∙ ap (leading c.args.reach (kind_of s.node) (text_of s.node)) (ap all_seen c.as_slice.ensures ∙ c.in_ok-kids.ensures) in
    flat_done seen (targets (below (kind_of s.node))) c.leading-kid-items.result.now c.loop-kid.kid-index _ old _ c.loop-kid-test.false lead c.loop-kid.invariant
    ∙ ap (λ ns. old ++ ns) (sym (targets_other c.args.reach s (sym c.is_name.ensures ∙ c.if-is_name.false)))
