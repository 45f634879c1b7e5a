use Rattle.std.proofs.Common.{◌↔◌, inl, inr, List, drop, subst, arith}
use Rattle.node_tree.specs.declared.node.Node.{Node}
use Rattle.node_tree.specs.Tree.{kids_of}
use Rattle.node_pool.specs.Spots.{all_seen}
use Rattle.meta_bind.specs.declared.bound.Bound.{Bound}
use Rattle.node_match.specs.Sets.{Among}
use Rattle.node_match.specs.Choices.{untaken, Chosen}
use Rattle.node_match.proofs.Choosing.{seen_many}
use Rattle.node_match.proofs.Sets.{chain}
use Rattle.tree_match.proofs.ChoiceLaws.{by_as, by_ends}
use Rattle.tree_match.proofs.choosing.chosen_ends.Goals as goal

pub returns-clause-ends : goal.returns-clause-ends
returns-clause-ends c m =
    let choosing = c.args.choosing in
    let s = choosing.search in
    let all = c.in_ok-choose.ensures.added.whole (omega (arith, c.len-room.ensures)) in
    let Set : List Node → List Bound → Type 0 = λ ps d. Chosen s.known.names.now choosing.named choosing.loose (drop c.args.from ps) (untaken c.args.taken.now.items (all_seen choosing.nodes.now)) c.args.trail.now d in
    let same : (d : List Bound) → Among c.choose.new.out d ↔ Set (kids_of s.pattern.now) d = λ d.
    let P : List Node → Type 0 = λ ps. Among c.choose.new.out d ↔ Set ps d in
    let N : List (List Bound) → Type 0 = λ xs. Among xs d in
    subst P c.as_slice.ensures (λ a. elim ((all d).0 a) [ inl x ↦ absurd (subst N c.new-found.ensures x) | inr y ↦ y ], λ y. (all d).1 (inr y)) in
    chain _ _ _ (by_ends s m _ _ _ _ c.new-ends.ensures (omega (arith, seen_many s.holder.kids.now)) c.in_ok-enter.ensures) (by_as s m _ _ same)
