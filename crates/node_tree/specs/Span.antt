-- Ranges of bytes.
use Rattle.std.specs.Prelude.{ℕ, ◌≤◌, List}
use Rattle.std.specs.Ordering.{nat_cmp, ordering_then}
use Rattle.std.specs.Str.{IsCharBoundary}
use Rattle.std.specs.declared.cmp.Ordering.{Ordering}
use Rattle.node_tree.specs.declared.span.Span.{Span}

-- by where they begin, then by where they end
abbrev pub span_cmp : Span → Span → Ordering
span_cmp a b = ordering_then (nat_cmp a.from b.from) (nat_cmp a.to b.to)

-- the span lies in the text, and cuts no character of it
pub record LiesIn (text : List ℕ) (span : Span) : Type 0 where
  pub ordered : span.from ≤ span.to
  pub begins : IsCharBoundary text span.from
  pub ends : IsCharBoundary text span.to
