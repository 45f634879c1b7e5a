use Rattle.std.proofs.Common.{◌≡◌, ◌↔◌, inl, inr, List, arith, subst, sym}
use Rattle.node_tree.specs.Tree.{span_of}
use Rattle.node_pool.specs.Spots.{seen}
use Rattle.meta_bind.specs.declared.bound.Bound.{Bound}
use Rattle.node_match.specs.Sets.{Among}
use Rattle.node_match.specs.Relation.{MatchesKids}
use Rattle.node_match.proofs.Sets.{adds_up_as, chain}
use Rattle.tree_match.specs.Members.{MemberAt}
use Rattle.tree_match.proofs.Spreads.{member_kids}
use Rattle.tree_match.proofs.expression.add_chosen.Goals as goal

pub returns-clause-added : goal.returns-clause-added
returns-clause-added c =
    let C = c.args.known.names.now in
    let p = c.args.pattern.now in
    let h = seen c.args.spot in
    let r = c.requires in
    let all = c.in_ok-choose_kids.ensures.whole (omega (arith, c.len-room.ensures)) in
    adds_up_as _ _ _ _ _ c.in_ok-add_all.ensures.added (λ m.
    let By : List Bound → Type 0 = λ b. ((m.0 ≡ span_of h.node) × MatchesKids C p h b m.1) ↔ MemberAt C p h m in
    let N : List (List Bound) → Type 0 = λ xs. Among xs m.1 in
    chain _ _ _ (
      λ (range, among). (range, elim ((all m.1).0 among) [ inl a ↦ absurd (subst N c.new-all.ensures a) | inr x ↦ x ]),
      λ (range, x). (range, (all m.1).1 (inr x)),
    ) (subst By (sym c.new-none.ensures) (member_kids C p h m r.role r.plain r.alike.0 r.alike.1)))
