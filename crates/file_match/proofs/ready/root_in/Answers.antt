use Rattle.std.proofs.Common.{◌∙◌, ap, ℕ}
use Rattle.node_tree.specs.declared.node.Node.{Node}
use Rattle.node_tree.specs.Numbers.{Numbered}
use Rattle.tree_match.proofs.Pres.{first_is}
use Rattle.file_match.proofs.ready.root_in.Goals as goal

pub returns : goal.returns
returns c tree nodes =
    let f : ℕ → Numbered = λ i. record { at = i; node = c.spot_at.result.node.now } in
    let g : Node → Numbered = λ n. record { at = 0; node = n } in
    ap f c.spot_at.ensures.number ∙ ap g (first_is _ tree _ nodes c.spot_at.ensures.is)
