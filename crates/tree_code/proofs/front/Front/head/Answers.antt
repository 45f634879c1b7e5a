use Rattle.std.proofs.Common.{◌≡◌, ℕ, List, [], ◌∷◌, ◌++◌, sym, ap, ◌∙◌, append_assoc, arith}
use Rattle.node_tree.specs.Order.{kind_place}
use Rattle.tree_code.specs.declared.head.Head.{Head}
use Rattle.tree_code.specs.Code.{number_code, text_code, span_code}
use Rattle.tree_code.proofs.Reading.{head_stands, head_one}
use Rattle.tree_code.proofs.front.Front.head.Goals as goal

pub returns-clause-read : goal.returns-clause-read
returns-clause-read c = λ h left e.
    let kind = c.in_ok-kind.ensures.read h.kind (span_code h.span ++ (text_code h.text ++ (number_code h.kids ++ left))) (head_stands h _ left e) in
    let span = c.in_ok-span.ensures.read h.span (text_code h.text ++ (number_code h.kids ++ left)) kind.1 in
    let text = c.in_ok-text.ensures.read h.text (number_code h.kids ++ left) span.1 in
    let kids = c.in_ok-kids.ensures.read h.kids left text.1 in
    (head_one _ h kind.0 span.0 text.0 kids.0, kids.1)
