use Rattle.std.proofs.Common.{ap, sym, Some, List}
use Rattle.c_lex.specs.declared.token.CToken.{CToken}
use Rattle.c_unit.proofs.unit.lexed.Goals as goal

pub returns-in-Ok-clause-only : goal.returns-in-Ok-clause-only
returns-in-Ok-clause-only c = λ ts h. ap (λ (us : List CToken). Some us) (sym (c.in-Ok.ensures.only ts h))

pub returns-in-Err-NoTokens-clause-only : goal.returns-in-Err-NoTokens-clause-only
returns-in-Err-NoTokens-clause-only c = λ ts h. absurd (rw c.in-Err-NoTokens.field-0-is at (c.in-Err-NoTokens.ensures.only ts h))
