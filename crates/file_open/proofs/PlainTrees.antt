-- The tree of a text that is only searched.
use Rattle.std.proofs.Common.{ℕ, List, [], length, sym, subst, arith}
use Rattle.std.specs.Str.{IsUtf8}
use Rattle.std.proofs.lemmas.Str.{IsCharBoundary-start, IsCharBoundary-end}
use Rattle.node_tree.specs.declared.node.Node.{Node}
use Rattle.node_tree.specs.declared.kind.Kind.TheVariants.{Root}
use Rattle.node_tree.specs.declared.span.Span.{Span}
use Rattle.node_tree.specs.Span.{LiesIn}
use Rattle.node_tree.specs.Spans.{SpansLieIn}
use Rattle.node_tree.proofs.Nodes.{made_kids, made_span}
use Rattle.node_tree.proofs.SpanLaws.{AllLieIn, none_lie, node_lies}
use Rattle.file_open.specs.Reading.{plain_tree}

-- its span lies in the text
pub plain_lies : (text : List ℕ) → IsUtf8 text → SpansLieIn text (plain_tree text)
plain_lies text utf8 =
    let lies : LiesIn text (record { from = 0; to = length text }) = record { ordered = omega arith; begins = IsCharBoundary-start text utf8; ends = IsCharBoundary-end text } in
    node_lies text (plain_tree text) (subst (λ (s : Span). LiesIn text s) (sym (made_span Root [] [] (record { from = 0; to = length text }))) lies)
    (subst (λ (ns : List Node). AllLieIn text ns) (sym (made_kids Root [] [] (record { from = 0; to = length text }))) (none_lie text))
