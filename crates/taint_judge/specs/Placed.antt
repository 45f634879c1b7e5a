-- Findings that stand at places of a text.
use Rattle.std.specs.Prelude.{ℕ, List, Option, MatchOption}
use Rattle.node_tree.specs.declared.span.Span.{Span}
use Rattle.meta_bind.specs.declared.finding.Finding.{Finding}
use Rattle.meta_bind.specs.Places.{EndsLieIn}
use Rattle.tree_match.specs.Placed.{IsPlaced}

-- both ends of the source, if there is one, are places in the text that cut no character of it
abbrev pub IsSourcePlaced : List ℕ → Option Span → Type 0
IsSourcePlaced text source = MatchOption source (Unit {0}) (λ span. EndsLieIn text span)

-- the same of the finding's range, of each bound span and of its source
abbrev pub IsFindingPlaced : List ℕ → Finding → Type 0
IsFindingPlaced text finding = IsPlaced text (finding.span, finding.binding) × IsSourcePlaced text finding.source
