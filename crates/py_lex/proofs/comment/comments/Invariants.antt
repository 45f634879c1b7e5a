use Rattle.std.proofs.Common.{◌≡◌, ◌+◌, length}
use Rattle.std.specs.Str.{chars}
use Rattle.node_tree.specs.declared.view.Mode.TheVariants.{Text}
use Rattle.lexing.specs.Mark.{past_mark}
use Rattle.py_lex.specs.Layout.{IsBounded}
use Rattle.py_lex.specs.Lexing.{first_line}
use Rattle.py_lex.specs.Parts.{HasParts}
use Rattle.py_lex.proofs.PartedReading.{IsAt}
use Rattle.py_lex.proofs.Commenting.{commented}
use Rattle.py_lex.proofs.comment.comments.Given as goal

abbrev pub invariant-lexemes : goal.invariant-lexemes
invariant-lexemes l = record {
  place : l.layout.at + length l.rest ≡ length l.text;
  bounded : IsBounded l.layout;
  read : IsAt (HasParts (length l.text) Text) commented (first_line (chars l.text)) (past_mark (chars l.text)) l.all l.layout l.rest;
}

abbrev pub decreases-lexemes : goal.decreases-lexemes
decreases-lexemes l = length l.rest
