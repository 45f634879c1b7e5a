use Rattle.std.proofs.Common.{◌≡◌, ◌∙◌, sym, subst}
use Rattle.std.proofs.lemmas.List.{get_or_default}
use Rattle.node_tree.specs.Numbers.{Numbered, pre_at}
use Rattle.node_pool.specs.Spots.{seen}
use Rattle.node_match.specs.Sets.{AddsUpTo}
use Rattle.tree_match.specs.Members.{MemberAt}
use Rattle.std.proofs.Common.{arith}
use Rattle.node_match.proofs.Sets.{adds_none, adds_up}
use Rattle.node_match.proofs.Numbering.{pre_many}
use Rattle.tree_match.proofs.Starting.{none_begins}
use Rattle.tree_match.proofs.leaf.add_begun_at.Goals as goal

pub returns-then-is_elsewhere-clause-added : goal.returns-then-is_elsewhere-clause-added
returns-then-is_elsewhere-clause-added c s is =
    adds_up _ _ _ _ (adds_none _ _ (none_begins c.args.known.names.now c.args.pattern.now (seen c.args.root) s c.args.further c.args.kind (c.is_elsewhere.ensures c.if-is_elsewhere.true) c.requires.kind c.requires.within is))

pub returns-clause-added : goal.returns-clause-added
returns-clause-added c s is =
    let xs = pre_at (seen c.args.root) in
    let one : seen c.below.result ≡ s = c.below.ensures ∙ get_or_default xs c.args.further (seen c.below.result) s (omega (arith, pre_many (seen c.args.root), c.requires.within)) ∙ sym is in
    let P : Numbered → Type 0 = λ y. AddsUpTo 10000 c.args.members.now c.add_node.new.members (λ m. MemberAt c.args.known.names.now c.args.pattern.now y m) in
    subst P one c.in_ok-add_node.ensures.added
