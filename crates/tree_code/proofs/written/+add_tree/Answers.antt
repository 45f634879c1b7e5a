use Rattle.std.proofs.Common.{◌∙◌, ap, ℕ, List, ◌++◌, length}
use Rattle.std.proofs.lemmas.List.{take_all}
use Rattle.node_tree.specs.declared.node.Node.{Node}
use Rattle.node_tree.specs.Tree.{text_of, kids_of}
use Rattle.tree_code.specs.Code.{number_code, text_code}
use Rattle.tree_code.proofs.Parts.{kids_code, place_of, tree_parts, put_together}
use Rattle.tree_code.proofs.written.+add_tree.Goals as goal

pub returns : goal.returns
returns t c =
    let n = c.args.node.now in
    let look = c.args.look in
    let text = c.in_ok-add_text.ensures ∙ ap (λ (x : List ℕ). c.add_head.new.bytes.items ++ text_code x) (c.as_bytes.ensures.value ∙ c.as_str.ensures) in
    let many = c.in_ok-add_length.ensures ∙ ap (λ (k : ℕ). c.add_text.new.bytes.items ++ number_code k) c.len.ensures in
    let kids = c.loop-kid.invariant ∙ ap (λ (ns : List Node). c.add_length.new.bytes.items ++ kids_code look ns) (take_all c.loop-kid.kid-index c.as_slice-kid-items.result.now c.loop-kid-test.false ∙ c.as_slice-kid-items.ensures) in
    put_together c.args.bytes.now.items (place_of look n) (text_code (text_of n)) (number_code (length (kids_of n))) (kids_code look (kids_of n)) _ _ _ _ _ c.in_ok-add_head.ensures text many kids (tree_parts look n)
