use Rattle.std.proofs.Common.{ℕ, List, lit<, ap, ◌∙◌}
use Rattle.std.specs.Borrow.{Bor}
use Rattle.std.proofs.lemmas.Str.Pattern.{strip_suffix_char}
use Rattle.path_glob.proofs.Cuts.{before_last}
use Rattle.path_glob.proofs.segments.without_last.Goals as goal

pub returns : goal.returns
returns c = let same = before_last c.args.text c.strip_suffix.result (strip_suffix_char 47 c.args.text.now c.strip_suffix.result c.strip_suffix.ensures.cases (lit< tt)) in ap (λ (x : Bor (List ℕ)). x.now) c.unwrap_or.ensures ∙ same
