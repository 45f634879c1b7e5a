use Rattle.std.proofs.Common.{None, arith}
use Rattle.std.proofs.lemmas.Str.Pattern.{strip_suffix_char}
use Rattle.lexing.proofs.Quotes.{no_quote}
use Rattle.c_expr.proofs.make.shown.Goals as goal

pub returns-in-None : goal.returns-in-None
returns-in-None c = rw c.in-Str.is (no_quote 34 c.args.text.now (strip_suffix_char 34 c.args.text.now None c.in-None.ensures.cases (omega arith)))

pub returns-in-None-strip_suffix : goal.returns-in-None-strip_suffix
returns-in-None-strip_suffix c = rw c.in-Char.is (no_quote 39 c.args.text.now (strip_suffix_char 39 c.args.text.now None c.in-None-strip_suffix.ensures.cases (omega arith)))
