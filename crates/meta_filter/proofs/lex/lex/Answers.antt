use Rattle.std.proofs.Common.{ap, sym, refl, List, Some}
use Rattle.std.proofs.lemmas.List.{append-nil}
use Rattle.std.specs.Str.{chars}
use Rattle.lexing.proofs.Languages.{begins, turned, none_left, given, only}
use Rattle.meta_filter.specs.declared.token.Token.{Token}
use Rattle.meta_filter.specs.Lexing.{language}
use Rattle.meta_filter.proofs.lex.lex.Goals as goal

pub lexemes-init : goal.lexemes-init
lexemes-init c = begins language tt (chars c.args.text.now) c.args.text.now c.new-tokens.result c.utf8.text refl c.new-tokens.ensures

pub returns-in_default-clause-only : goal.returns-in_default-clause-only
returns-in_default-clause-only c = λ ts is. absurd (none_left c.lexemes.invariant c.lexemes-test.ensures (c.in_default.ensures.takes _ c.automaton-automaton.ensures) ts is)

pub lexemes-preserved : goal.lexemes-preserved
lexemes-preserved c = turned c.lexemes.invariant c.lexemes-test.ensures (c.in-Some.ensures.takes _ c.automaton-automaton.ensures) c.in-Some.ensures.utf8.1 refl c.in_ok-keep.ensures

pub returns-clause-given : goal.returns-clause-given
returns-clause-given c = given c.lexemes.invariant c.lexemes-test.ensures refl (sym (append-nil c.lexemes.tokens))

pub returns-clause-only : goal.returns-clause-only
returns-clause-only c = λ ts is. ap (λ (x : List Token). Some x) (sym (only c.lexemes.invariant c.lexemes-test.ensures refl (sym (append-nil c.lexemes.tokens)) ts is))
