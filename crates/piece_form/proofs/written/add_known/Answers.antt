use Rattle.std.proofs.Common.{◌∙◌, ap, sym, ℕ, List, ◌++◌, length, take, append_assoc}
use Rattle.std.proofs.lemmas.List.{take_all}
use Rattle.node_tree.specs.declared.known.Known.{Known}
use Rattle.node_tree.specs.Tree.{content_of}
use Rattle.tree_code.specs.Code.{number_code, tree_code}
use Rattle.piece_form.specs.Code.{known_code}
use Rattle.piece_form.specs.Identity.{known_contents}
use Rattle.piece_form.proofs.Codes.{known_more, three_parts}
use Rattle.piece_form.proofs.written.add_known.Goals as goal

pub returns : goal.returns
returns c =
    let known = c.args.known.now in
    let code = known_code (known_contents known) in
    c.loop-one.invariant ∙ ap (λ (ks : List Known). c.add_length.new.bytes.items ++ known_code (known_contents ks)) (take_all c.loop-one.one-index known c.loop-one-test.false)
    ∙ ap (λ (xs : List ℕ). xs ++ code) c.in_ok-add_length.ensures ∙ append_assoc c.args.code.now.items (number_code (length known)) code

pub loop-one-preserved : goal.loop-one-preserved
loop-one-preserved c =
    let known = c.args.known.now in
    let at = c.loop-one.one-index in
    let front = c.add_length.new.bytes.items in
    let before = known_code (known_contents (take at known)) in
    let number = number_code c.one-item.result.at in
    let code = tree_code (content_of c.one-item.result.literal) in
    c.in_ok-add_tree.ensures ∙ ap (λ (xs : List ℕ). xs ++ code) (c.in_ok-add_number.ensures ∙ ap (λ (xs : List ℕ). xs ++ number) c.loop-one.invariant)
    ∙ three_parts front before number code ∙ ap (λ (xs : List ℕ). front ++ xs) (sym (known_more known at c.one-item.result c.loop-one-test.true c.one-item.is))
