-- Where spans begin and end in a text.
use Rattle.std.specs.Prelude.{ℕ, List}
use Rattle.std.specs.Str.{IsCharBoundary}
use Rattle.node_tree.specs.declared.span.Span.{Span}

-- both ends of the span are places in the text that cut no character of it
abbrev pub EndsLieIn : List ℕ → Span → Type 0
EndsLieIn text span = IsCharBoundary text span.from × IsCharBoundary text span.to
