use Rattle.std.proofs.Common.{◌≡◌, ◌∷◌, [], ◌∙◌, ap, sym, arith, length, List, get_or}
use Rattle.node_tree.specs.declared.node.Node.{Node}
use Rattle.node_tree.specs.Tree.{kids_of}
use Rattle.node_match.proofs.Sets.{chain}
use Rattle.node_match.proofs.Inversion.{one_kid}
use Rattle.node_search.proofs.Counted.{count_kid}
use Rattle.node_search.proofs.DotsInDots.{dots_in_dots}
use Rattle.node_search.proofs.innermost.+innermost.Goals as goal

pub returns-in-Deep-clause-within : goal.returns-in-Deep-clause-within
returns-in-Deep-clause-within t c =
    let fewer = count_kid c.args.pattern.now c.as_slice-inner.result.now 0 c.index-inner-0.result c.as_slice-inner.ensures (omega (arith, c.if-inner-ne1.false)) c.index-inner-0.is in
    omega (arith, fewer, c.innermost.ensures.within)

pub returns-in-Deep-clause-same : goal.returns-in-Deep-clause-same
returns-in-Deep-clause-same t c C n b d =
    let p = c.args.pattern.now in
    let q = c.index-inner-0.result in
    let one = one_kid (kids_of p) (ap length (sym c.as_slice-inner.ensures) ∙ c.if-inner-ne1.false) in
    let kid : q ≡ one.0 = c.index-inner-0.is ∙ ap (λ (ns : List Node). get_or ns 0 q) (c.as_slice-inner.ensures ∙ one.1) in
    let alone : kids_of p ≡ q ∷ [] = one.1 ∙ ap (λ (x : Node). x ∷ []) (sym kid) in
    chain _ _ _ (c.innermost.ensures.same C n b d) (dots_in_dots C p q n b d c.requires (sym c.role_of.ensures ∙ c.in-Deep.is) alone)
