use Rattle.std.proofs.Common.{◌∙◌, List, [], sym, subst}
use Rattle.piece_match.specs.Pieces.{IsPieceMember, known_piece}
use Rattle.piece_match.proofs.Splitting.{leaf_as}
use Rattle.piece_match.proofs.Standing.{same_piece}
use Rattle.tree_match.specs.declared.leaf.Leaf.TheVariants.{Full}
use Rattle.tree_match.specs.Leaf.{IsLeaf}
use Rattle.tree_match.specs.Members.{Member}
use Rattle.kept_leaves.proofs.matching.leaf_in.Goals as goal

pub returns-then-not-is_resolved-clause-alike : goal.returns-then-not-is_resolved-clause-alike
returns-then-not-is_resolved-clause-alike g c p same =
    let piece = c.args.part.now.placed.piece in
    let pattern = c.args.pattern.now in
    let none = c.requires c.if-absent.true (sym c.is_resolved.ensures ∙ c.if-not-is_resolved.true) in
    let P : List Member → Type 0 = λ ms. IsLeaf (IsPieceMember pattern (known_piece p)) (Full ms) in
    subst P (sym c.empty.ensures) (leaf_as (IsPieceMember pattern (known_piece piece)) (IsPieceMember pattern (known_piece p)) (Full []) (same_piece pattern piece p same) none)
