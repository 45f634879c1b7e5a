use Rattle.std.proofs.Common.{◌≡◌, map, take}
use Rattle.c_expr.specs.Words.{token_of}
use Rattle.c_expr.proofs.classify.classified.Given as goal

abbrev pub invariant-loop-token : goal.invariant-loop-token
invariant-loop-token l = l.classed ≡ map (token_of l.mode) (take l.token-index l.token-items)
