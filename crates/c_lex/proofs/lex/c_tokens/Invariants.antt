use Rattle.std.proofs.Common.{◌≡◌, ◌+◌, length}
use Rattle.std.specs.Str.{chars}
use Rattle.lexing.specs.Mark.{past_mark}
use Rattle.lexing.proofs.Languages.{IsAt}
use Rattle.c_lex.specs.Lexing.{c_language, first}
use Rattle.c_lex.proofs.lex.c_tokens.Given as goal

abbrev pub invariant-lexemes : goal.invariant-lexemes
invariant-lexemes l = record {
  place : l.progress.at + length l.rest ≡ length l.text;
  read : IsAt (c_language l.mode) (first (chars l.text)) (past_mark (chars l.text)) l.tokens l.progress l.rest;
}

abbrev pub decreases-lexemes : goal.decreases-lexemes
decreases-lexemes l = length l.rest
