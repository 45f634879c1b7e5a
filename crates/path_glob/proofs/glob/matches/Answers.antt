use Rattle.std.proofs.Common.{lit<, arith, ◌∙◌}
use Rattle.std.proofs.lemmas.List.{get_or_default}
use Rattle.std.proofs.lemmas.Str.Pattern.{contains_char}
use Rattle.path_glob.proofs.glob.matches.Goals as goal

pub returns-clause-from_the_root : goal.returns-clause-from_the_root
returns-clause-from_the_root c (k, l, e) = let found = contains_char 47 c.args.glob.now c.contains.result c.contains.ensures.cases (lit< tt) in absurd (grind (arith, found.1 k l (get_or_default c.args.glob.now k 0 47 l ∙ e), c.if-contains.false))
