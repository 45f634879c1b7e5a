-- What the regular expression of a text finds.
use Rattle.std.specs.Prelude.{ℕ, List, [], ◌∷◌, map, Bool, false, Option, None, Some, option_map, chars, ◌≤◌, ◌<◌, ◌==◌, if◌then◌else◌}
use Rattle.regex.specs.Patterns.{Re, default_config, find_str, find_all_str, span}
use Rattle.regex_syntax.specs.Grammar.{read}
use Rattle.node_tree.specs.declared.span.Span.{Span}

-- the pattern that the grammar of `regex` reads in the text, where it reads one
unfoldable pub pattern_of : List ℕ → Option Re
pattern_of text = option_map (λ (found, _). found.value) (read default_config (chars text))

-- the ranges that have a byte
abbrev pub with_bytes : List (ℕ × ℕ) → List Span
with_bytes [] = []
with_bytes ((from, to) ∷ ps) = if from == to then with_bytes ps else record { from = from; to = to } ∷ with_bytes ps

-- whether there is a range and it begins at 0
abbrev pub is_at_start : Option (ℕ × ℕ) → Bool
is_at_start None = false
is_at_start (Some (from, _)) = from == 0

-- the matches of a pattern, one after another from the left as `regex` iterates them, without the empty ones
abbrev pub spans_of : Re → List ℕ → List Span
spans_of re hay = with_bytes (map span (find_all_str re hay))

-- whether the first match of a pattern begins where the text does
abbrev pub starts : Re → List ℕ → Bool
starts re hay = is_at_start (option_map span (find_str re hay 0))

-- the same of the regular expression of a text: a text that is no pattern has no matches
abbrev pub all_matches : List ℕ → List ℕ → List Span
all_matches text hay = elim (pattern_of text) [ None ↦ [] | Some re ↦ spans_of re hay ]

abbrev pub matches_at_start : List ℕ → List ℕ → Bool
matches_at_start text hay = elim (pattern_of text) [ None ↦ false | Some re ↦ starts re hay ]

-- from that place on each range begins where the one before it ended or later, and has a byte
abbrev pub FollowFrom : ℕ → List Span → Type 0
FollowFrom at [] = Unit {0}
FollowFrom at (s ∷ ss) = (at ≤ s.from) × (s.from < s.to) × FollowFrom s.to ss
