use Rattle.std.proofs.Common.{sym, ap, Some}
use Rattle.py_stmt.proofs.Modules.{no_tokens}
use Rattle.py_stmt.proofs.whole.lexed.Goals as goal

pub returns-in-Ok-clause-only : goal.returns-in-Ok-clause-only
returns-in-Ok-clause-only c = λ ts h. ap Some (sym (c.in-Ok.ensures.only ts h))

pub returns-in-Err-NoTokens-clause-only : goal.returns-in-Err-NoTokens-clause-only
returns-in-Err-NoTokens-clause-only c = λ ts h. absurd (no_tokens ts c.in-Err-NoTokens.field-0 c.in-Err-NoTokens.field-0-is (c.in-Err-NoTokens.ensures.only ts h))
