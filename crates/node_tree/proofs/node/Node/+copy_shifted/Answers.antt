use Rattle.std.proofs.Common.{◌∙◌, ℕ, List, map, sym, ap}
use Rattle.std.proofs.lemmas.List.{take_all}
use Rattle.node_tree.specs.declared.node.Node.{Node, roll-Node}
use Rattle.node_tree.specs.declared.span.Span.{Span}
use Rattle.node_tree.specs.Tree.{kind_of, text_of, kids_of}
use Rattle.node_tree.specs.Shifts.{shifted, shifted_is}
use Rattle.node_tree.proofs.Nodes.{made}
use Rattle.node_tree.proofs.node.Node.+copy_shifted.Goals as goal

pub returns : goal.returns
returns t c =
    let n = c.args.self.now in
    let move : Node → Node = shifted c.args.shift in
    let kids = c.loop-kid.invariant ∙ ap (map move) (take_all c.loop-kid.kid-index c.as_slice-kid-items.result.now c.loop-kid-test.false ∙ c.as_slice-kid-items.ensures) in
    ap (λ (x : List ℕ). roll-Node (made (kind_of n) x c.loop-kid.kids c.in_ok-span.span)) c.in_ok-text.ensures
    ∙ ap (λ (x : List Node). roll-Node (made (kind_of n) (text_of n) x c.in_ok-span.span)) kids
    ∙ ap (λ (x : Span). roll-Node (made (kind_of n) (text_of n) (map move (kids_of n)) x)) c.in_ok-span.ensures
    ∙ sym (shifted_is c.args.shift n)
