-- What the regular expressions of a rule find, by their numbers. One that isn't there finds nothing.
use Rattle.std.specs.Prelude.{◌≡◌, ℕ, List, [], Bool, false, None, Some, map, slice_get}
use Rattle.node_tree.specs.declared.span.Span.{Span}
use Rattle.meta_bind.specs.declared.bound.Bound.{Bound}
use Rattle.meta_filter.specs.BoundTexts.{holds_regex}
use Rattle.rx_text.specs.Searches.{all_matches}
use Rattle.node_match.specs.Sets.{Among}
use Rattle.tree_match.specs.Members.{Member}

-- the range with nothing bound
abbrev pub unbound : Span → Member
unbound range = (range, [])

module _ (texts : List (List ℕ)) (bytes : List ℕ) where
  -- the matches in the bytes, from the left, without the empty ones
  abbrev pub matches_of : ℕ → List Span
  matches_of k = elim (slice_get texts k) [ None ↦ [] | Some text ↦ all_matches text bytes ]

  -- the member is a match, with nothing bound
  abbrev pub IsMatch : ℕ → Member → Type 0
  IsMatch k m = Among (matches_of k) m.0 × (m.1 ≡ [])

  -- whether the first match in what the name is bound to begins where that begins; false for a name that isn't bound
  abbrev pub matches_bound : ℕ → List ℕ → List Bound → Bool
  matches_bound k name binding = elim (slice_get texts k) [ None ↦ false | Some text ↦ holds_regex text binding name bytes ]

  -- all the matches, with nothing bound
  abbrev pub AreMatches : ℕ → List Member → Type 0
  AreMatches k members = members ≡ map unbound (matches_of k)
