use Rattle.std.proofs.Common.{sym, subst}
use Rattle.std.specs.Str.{IsUtf8}
use Rattle.wire_stream.proofs.Lines.{decimal_text}
use Rattle.wire_stream.proofs.line.size.Goals as goal

pub returns-in-Err : goal.returns-in-Err
returns-in-Err c = λ n small e. c.in-Err.ensures.cases.0 (subst IsUtf8 (sym e) (decimal_text n small))
