use Rattle.std.proofs.Common.{◌≡◌, ◌+◌, ◌-◌, ◌∙◌, ap, sym, arith, length, take, drop, true, if◌then◌else◌, [], List}
use Rattle.node_tree.specs.Kinds.{is_function}
use Rattle.node_tree.specs.Numbers.{Numbered, kids_at}
use Rattle.node_tree.specs.Tree.{pre_all, kids_of, kind_of}
use Rattle.flow_graph.proofs.Outlines.{last_is, take_rest}
use Rattle.flow_graph.proofs.unit_graph.function_body.Goals as goal

pub returns : goal.returns
returns c =
    let n = c.args.node.now in
    let k = c.as_slice-kids.ensures in
    let last = c.saturating_sub-last.result in
    let body = drop (length (kids_of n) - 1) (kids_at (record { at = c.args.at; node = n })) in
    let is : is_function (kind_of n) ≡ true = sym c.is_function.ensures ∙ c.if-not-is_function.false in
    last_is c.args.at n _ last _ (c.in_ok-start.ensures ∙ ap (λ f. f + length (pre_all (take last c.as_slice-kids.result.now))) c.in_ok-first.ensures ∙ ap (λ ks. (c.args.at + 1) + length (pre_all (take last ks))) k) (omega (arith, c.saturating_sub-last.ensures, ap length k)) (take_rest c.as_slice-kids.result.now last ∙ ap (drop last) k)
    ∙ sym (ap (λ b. if b then body else []) is)
