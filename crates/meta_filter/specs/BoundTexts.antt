-- What regular expressions find in the text that a metavariable stands for.
use Rattle.std.specs.Prelude.{ℕ, List, Bool, false, None, Some, slice_range}
use Rattle.meta_bind.specs.declared.bound.Bound.{Bound}
use Rattle.meta_bind.specs.Bounds.{bound_at}
use Rattle.rx_text.specs.Searches.{matches_at_start}

-- whether the first match of the text's regular expression in the bytes that the name is bound to begins at their start; false
-- for a name that isn't bound
abbrev pub holds_regex : List ℕ → List Bound → List ℕ → List ℕ → Bool
holds_regex text binding name bytes =
    elim (bound_at name binding) [ None ↦ false | Some b ↦ matches_at_start text (slice_range bytes b.span.from b.span.to) ]
