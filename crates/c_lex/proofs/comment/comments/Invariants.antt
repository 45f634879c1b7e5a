use Rattle.std.proofs.Common.{◌≡◌, ◌+◌, length}
use Rattle.std.specs.Str.{chars}
use Rattle.lexing.specs.Mark.{past_mark}
use Rattle.lexing.proofs.Languages.{IsAt}
use Rattle.c_lex.specs.Lexing.{first}
use Rattle.c_lex.specs.Comments.{comment_language}
use Rattle.c_lex.proofs.comment.comments.Given as goal

abbrev pub invariant-lexemes : goal.invariant-lexemes
invariant-lexemes l = record {
  place : l.progress.at + length l.rest ≡ length l.text;
  read : IsAt comment_language (first (chars l.text)) (past_mark (chars l.text)) l.found l.progress l.rest;
}

abbrev pub decreases-lexemes : goal.decreases-lexemes
decreases-lexemes l = length l.rest
