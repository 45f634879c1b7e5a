use Rattle.std.proofs.Common.{◌≡◌, ◌∙◌, ◌+◌, ◌-◌, ℕ, List, ap, sym, subst, arith, length, take, drop, refl}
use Rattle.node_tree.specs.declared.node.Node.{Node}
use Rattle.node_tree.specs.Tree.{pre_all, kind_of}
use Rattle.flow_graph.specs.Ranges.{IsRange}
use Rattle.flow_graph.proofs.Outlines.{parts_are}
use Rattle.flow_graph.proofs.parts.parts_in.Goals as goal

pub returns : goal.returns
returns c =
    let k = c.as_slice-kids.ensures in
    let r = c.range_of-range.result in
    let L : List Node → Type 0 = λ ks. IsRange (kind_of c.args.node.now) (length ks) r.0 r.1 in
    let first_is : c.in_ok-first.first ≡ c.args.at + 1 = c.in_ok-first.ensures in
    parts_are c.args.at c.args.node.now c.in_ok-start.start r.0 r.1 _ (subst L k c.range_of-range.ensures) (c.in_ok-start.ensures ∙ ap (λ f. f + length (pre_all (take r.0 c.as_slice-kids.result.now))) first_is ∙ ap (λ ks. (c.args.at + 1) + length (pre_all (take r.0 ks))) k) (ap (λ ks. take (r.1 - r.0) (drop r.0 ks)) k)
