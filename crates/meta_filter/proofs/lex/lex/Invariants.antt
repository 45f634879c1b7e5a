use Rattle.std.proofs.Common.{length}
use Rattle.std.specs.Str.{chars}
use Rattle.lexing.proofs.Languages.{IsAt}
use Rattle.meta_filter.specs.Lexing.{language}
use Rattle.meta_filter.proofs.lex.lex.Given as goal

abbrev pub invariant-lexemes : goal.invariant-lexemes
invariant-lexemes l = IsAt language tt (chars l.text) l.tokens tt l.rest

abbrev pub decreases-lexemes : goal.decreases-lexemes
decreases-lexemes l = length l.rest
