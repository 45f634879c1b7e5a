use Rattle.std.proofs.Common.{ℕ, List, map, sym, ap, ◌∙◌}
use Rattle.std.proofs.lemmas.List.{take_all}
use Rattle.node_tree.specs.declared.node.Node.{Node, roll-Node}
use Rattle.node_tree.specs.Tree.{kind_of, text_of, span_of}
use Rattle.node_tree.proofs.Nodes.{made}
use Rattle.import_names.specs.Claims.{meaning}
use Rattle.import_names.specs.Resolved as spec
use Rattle.import_names.proofs.Loops.{none_if}
use Rattle.import_names.proofs.Replacing.{becomes, stays}
use Rattle.import_names.proofs.replace.+replaced.Goals as goal

pub returns-in-Some : goal.returns-in-Some
returns-in-Some t c =
    let means = meaning c.args.claims.now in
    c.in_ok-tree.ensures ∙ sym (becomes means c.args.node.now c.in-Some.first.now c.in-Some.others.now (sym c.meant.ensures ∙ c.in-Some.ensures.cases.0))

pub returns : goal.returns
returns t c =
    let n = c.args.node.now in
    let means = meaning c.args.claims.now in
    let kids = c.loop-kid.invariant ∙ ap (map (spec.replaced means)) (take_all c.loop-kid.kid-index c.as_slice-kid-items.result.now c.loop-kid-test.false ∙ c.as_slice-kid-items.ensures) in
    ap (λ (x : List ℕ). roll-Node (made (kind_of n) x c.loop-kid.kids (span_of n))) c.in_ok-text.ensures
    ∙ ap (λ (x : List Node). roll-Node (made (kind_of n) (text_of n) x (span_of n))) kids
    ∙ sym (stays means n (sym c.meant.ensures ∙ none_if c.meant.result.now c.in_default.ensures.cases))
