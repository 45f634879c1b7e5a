use Rattle.std.proofs.Common.{ℕ, List, lit<, ap, ◌∙◌}
use Rattle.std.specs.Borrow.{Bor}
use Rattle.std.proofs.lemmas.Str.Pattern.{strip_prefix_char}
use Rattle.path_glob.proofs.Cuts.{after_first}
use Rattle.path_glob.proofs.segments.without_first.Goals as goal

pub returns : goal.returns
returns c = let same = after_first c.args.text c.strip_prefix.result (strip_prefix_char 47 c.args.text.now c.strip_prefix.result c.strip_prefix.ensures.cases (lit< tt)) in ap (λ (x : Bor (List ℕ)). x.now) c.unwrap_or.ensures ∙ same
