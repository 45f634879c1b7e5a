use Rattle.std.proofs.Common.{◌≤◌, List, ℕ, length, sym, subst}
use Rattle.node_tree.specs.Tree.{span_of}
use Rattle.piece_match.proofs.Names.{own_lies}
use Rattle.piece_match.proofs.cut.piece_at.Goals as goal

pub bytes_in-bytes-requires-clause-ordered : goal.bytes_in-bytes-requires-clause-ordered
bytes_in-bytes-requires-clause-ordered c = let lies = own_lies c.args.view.now.bytes c.args.node.now c.requires in lies.ordered

pub bytes_in-bytes-requires-clause-within : goal.bytes_in-bytes-requires-clause-within
bytes_in-bytes-requires-clause-within c =
    let lies = own_lies c.args.view.now.bytes c.args.node.now c.requires in
    let P : List ℕ → Type 0 = λ bs. (span_of c.args.node.now).to ≤ length bs in
    subst P (sym c.as_slice.ensures) lies.ends.0
