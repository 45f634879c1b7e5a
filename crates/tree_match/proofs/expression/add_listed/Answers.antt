use Rattle.std.proofs.Common.{◌≡◌, ◌↔◌, ◌∙◌, List, subst, sym}
use Rattle.node_tree.specs.Tree.{span_of}
use Rattle.node_pool.specs.Spots.{seen}
use Rattle.meta_bind.specs.declared.bound.Bound.{Bound}
use Rattle.node_match.specs.Relation.{MatchesKids}
use Rattle.node_match.proofs.Sets.{adds_up_as, chain}
use Rattle.tree_match.specs.Members.{MemberAt}
use Rattle.tree_match.proofs.Spreads.{member_kids}
use Rattle.tree_match.proofs.Founds.{whole_found}
use Rattle.tree_match.proofs.Lasts.{whole_given}
use Rattle.tree_match.proofs.expression.add_listed.Goals as goal

pub add_kids-requires-clause-whole : goal.add_kids-requires-clause-whole
add_kids-requires-clause-whole c m e x = whole_given _ _ _ _ m e x

pub returns-clause-added : goal.returns-clause-added
returns-clause-added c =
    let C = c.args.known.names.now in
    let p = c.args.pattern.now in
    let h = seen c.args.spot in
    let r = c.requires in
    adds_up_as _ _ _ _ _ c.in_ok-add_kids.ensures.added (λ m.
    let By : List Bound → Type 0 = λ b. ((m.0 ≡ span_of h.node) × MatchesKids C p h b m.1) ↔ MemberAt C p h m in
    chain _ _ _ (whole_found C (span_of h.node) h _ (MatchesKids C p h c.new.result) m (c.as_slice-3.ensures ∙ c.new-none.ensures)) (subst By (sym c.new.ensures) (member_kids C p h m r.role r.plain r.alike.0 r.alike.1)))
