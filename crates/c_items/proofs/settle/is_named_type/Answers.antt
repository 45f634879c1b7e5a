use Rattle.std.proofs.Common.{◌≡◌, ◌+◌, suc, sym, arith, true, false}
use Rattle.grammar.specs.Rule.{has}
use Rattle.c_expr.specs.Words.{class}
use Rattle.c_expr.specs.Build.{token_at, source}
use Rattle.c_expr.specs.Settling.{names}
use Rattle.c_items.specs.Settling.{spec_or_name, is_pointed}
use Rattle.c_items.proofs.settle.is_named_type.Goals as goal

pub returns : goal.returns
returns c =
    let next : c.args.at + 1 ≡ suc c.args.at = omega arith in
    let named : has names (class (token_at c.args.tokens.now c.args.at).word) ≡ true = sym c.if-not-is_among.ensures.test in
    let other : has spec_or_name (class (token_at c.args.tokens.now (suc c.args.at)).word) ≡ false = rw next at (sym c.if-is_among.ensures.test) in
    let pointed : c.is_pointed.result ≡ is_pointed (source c.args.tokens.now).cls (suc c.args.at) = rw next at c.is_pointed.ensures in
    rw (named, other) pointed
