use Rattle.std.proofs.Common.{subst}
use Rattle.std.specs.Prelude.{IfOk}
use Rattle.node_tree.specs.declared.view.Pattern.{Pattern}
use Rattle.piece_form.specs.declared.piece.Piece.{Piece}
use Rattle.tree_match.specs.Leaf.{IsLeaf}
use Rattle.piece_match.specs.Pieces.{IsPieceMember, known_piece}
use Rattle.piece_match.proofs.Standing.{alike_leaf, standing_leaf}
use Rattle.piece_match.proofs.piece.match_piece.Goals as goal

pub returns-clause-alike : goal.returns-clause-alike
returns-clause-alike g c p same =
    let P : Piece → Type 0 = λ q. IfOk c.leaf_in.result (λ leaf. IsLeaf (IsPieceMember c.args.pattern.now (known_piece q)) leaf) in
    let Q : Pattern → Type 0 = λ r. IfOk c.leaf_in.result (λ leaf. IsLeaf (IsPieceMember r (known_piece c.in_ok-ready.ready)) leaf) in
    alike_leaf c.args.pattern.now c.args.piece.now p c.leaf_in.result same (subst P c.in_ok-ready.ensures (subst Q c.in_ok-pattern.ensures c.leaf_in.ensures))

pub returns-clause-stands : goal.returns-clause-stands
returns-clause-stands g c view n kid alone same =
    let P : Piece → Type 0 = λ q. IfOk c.leaf_in.result (λ leaf. IsLeaf (IsPieceMember c.args.pattern.now (known_piece q)) leaf) in
    let Q : Pattern → Type 0 = λ r. IfOk c.leaf_in.result (λ leaf. IsLeaf (IsPieceMember r (known_piece c.in_ok-ready.ready)) leaf) in
    standing_leaf c.args.pattern.now c.args.piece.now view n c.leaf_in.result kid alone same (subst P c.in_ok-ready.ensures (subst Q c.in_ok-pattern.ensures c.leaf_in.ensures))
