-- The matches of what a text is read as.
use Rattle.std.proofs.Common.{◌≡◌, ℕ, zero, suc, ◌+◌, ◌<◌, ◌≤◌, Bool, true, false, cond, ◌==◌, List, [], ◌∷◌, map, length, get_or, Option, None, Some, IsSomeAnd, option_map, refl, sym, ap, ◌∙◌, arith, chars, string_bytes}
use Rattle.std.proofs.lemmas.Bool.{cond_both}
use Rattle.std.proofs.lemmas.Bool.Decides.{nat_tests}
use Rattle.std.proofs.lemmas.Option.{none-some, same_Some}
use Rattle.regex_hir.specs.Find.{Match, find_after, matches_from}
use Rattle.regex_hir.specs.Text.{is_some_and}
use Rattle.regex_syntax.specs.Brackets.{Nested}
use Rattle.regex_syntax.specs.Grammar.{Names, read, group_count}
use Rattle.regex.specs.Patterns.{Re, SameCaptures, Reads, default_config, find_str, find_all_str, span}
use Rattle.regex.specs.Strings.{regex_pattern, regex_source, regex_config, regex_names, IsReadFromSource}
use Rattle.regex.specs.declared.string.regex.Regex.{Regex}
use Rattle.regex.proofs.ForCallers.{spans_alike, span_alike}
use Rattle.regex.proofs.SearchLemmas.{leftmost_within}
use Rattle.node_tree.specs.declared.span.Span.{Span}
use Rattle.rx_text.specs.Searches.{pattern_of, with_bytes, is_at_start, spans_of, starts, all_matches, matches_at_start, FollowFrom}

-- ---- a compiled pattern finds what its text is read as

alike_of : (o : Option (Nested Re × Names)) (most : ℕ) (a : Re) (names : Names) →
    IsSomeAnd o (λ (re, found). (re.depth ≤ most) × SameCaptures a re.value × (names ≡ found) × (group_count a ≤ length names)) →
    IsSomeAnd (option_map (λ (found, _). found.value) o) (SameCaptures a)
alike_of None most a names p = p
alike_of (Some found) most a names p = p.1

module _ (r : Regex) (is_default : regex_config r ≡ default_config) (is_read : IsReadFromSource r) where
  reads : Reads default_config (regex_source r) r.pattern.program.hir (regex_names r)
  reads = rw is_default at is_read

  alike : IsSomeAnd (pattern_of (regex_source r)) (SameCaptures (regex_pattern r))
  unfolding Reads pattern_of
  alike = alike_of (read default_config (chars (regex_source r))) 250 (regex_pattern r) (regex_names r) reads

  module _ (hay : List ℕ) (bytes : (k : ℕ) → get_or hay k 0 < 256) where
    all_as : (o : Option Re) → IsSomeAnd o (SameCaptures (regex_pattern r)) →
        spans_of (regex_pattern r) hay ≡ elim o [ None ↦ [] | Some re ↦ spans_of re hay ]
    all_as None p = absurd p
    all_as (Some re) p = ap with_bytes (spans_alike p hay bytes true)

    first_as : (o : Option Re) → IsSomeAnd o (SameCaptures (regex_pattern r)) →
        starts (regex_pattern r) hay ≡ elim o [ None ↦ false | Some re ↦ starts re hay ]
    first_as None p = absurd p
    first_as (Some re) p = ap is_at_start (span_alike p hay bytes true 0)

    all_as_read : spans_of (regex_pattern r) hay ≡ all_matches (regex_source r) hay
    all_as_read = all_as (pattern_of (regex_source r)) alike

    first_as_read : starts (regex_pattern r) hay ≡ matches_at_start (regex_source r) hay
    first_as_read = first_as (pattern_of (regex_source r)) alike

-- the same where another value is known to be that compiled pattern, and the text that it was compiled from
module _ (r held : Regex) (text hay : List ℕ) (same : r ≡ held) (is_text : regex_source held ≡ text)
    (read_so : (regex_config held ≡ default_config) × IsReadFromSource held) (bytes : (k : ℕ) → get_or hay k 0 < 256) where
  pub all_of : spans_of (regex_pattern r) hay ≡ all_matches text hay
  all_of =
      ap (λ x. spans_of (regex_pattern x) hay) same ∙ all_as_read held read_so.0 read_so.1 hay bytes
      ∙ ap (λ t. all_matches t hay) is_text

  pub first_of : starts (regex_pattern r) hay ≡ matches_at_start text hay
  first_of =
      ap (λ x. starts (regex_pattern x) hay) same ∙ first_as_read held read_so.0 read_so.1 hay bytes
      ∙ ap (λ t. matches_at_start t hay) is_text

-- ---- matches follow one another

abbrev Begins : ℕ → Option Match → Type 0
Begins at o = (m : Match) → o ≡ Some m → (at ≤ m.start) × (m.start ≤ m.trace.end)

abbrev pub Ordered : ℕ → List (ℕ × ℕ) → Type 0
Ordered at [] = Unit {0}
Ordered at (p ∷ ps) = (at ≤ p.0) × (p.0 ≤ p.1) × Ordered p.1 ps

module _ (re : Re) (hay : List ℕ) where
  begins : (at : ℕ) → Begins at (find_str re hay at)
  begins at m e = let p = leftmost_within re hay true at m e in (p.0, p.1)

  begins_after : (at : ℕ) → Begins at (find_after (find_str re hay) at)
  begins_after at =
      cond_both (is_some_and (find_str re hay at) (λ m. m.trace.end == at)) (find_str re hay (at + 1)) (find_str re hay at) (Begins at)
      (λ _ m e. let p = begins (at + 1) m e in (omega (arith, p.0), p.1)) (λ _. begins at)

  in_order : (n at : ℕ) (o : Option Match) → Begins at o → Ordered at (map span (matches_from (find_str re hay) n o))
  unfolding matches_from
  in_order zero at o b = tt
  in_order (suc n) at None b = tt
  in_order (suc n) at (Some m) b =
      let p = b m refl in
      (p.0, p.1, in_order n m.trace.end _ (begins_after m.trace.end))

  pub all_ordered : Ordered 0 (map span (find_all_str re hay))
  all_ordered = in_order (length hay + 1) 0 _ (begins 0)

earlier : (from at : ℕ) → from ≤ at → (ps : List (ℕ × ℕ)) → Ordered at ps → Ordered from ps
earlier from at le [] o = tt
earlier from at le (p ∷ ps) o = (omega (arith, le, o.0), o.1, o.2)

follow : (at : ℕ) (ps : List (ℕ × ℕ)) → Ordered at ps → FollowFrom at (with_bytes ps)
follow at [] o = tt
follow at ((from, to) ∷ ps) o =
    cond_both (from == to) (with_bytes ps) (record { from = from; to = to } ∷ with_bytes ps) (FollowFrom at)
    (λ _. follow at ps (earlier at to (omega (arith, o.0, o.1)) ps o.2))
    (λ e. (o.0, grind (arith, nat_tests, e, o.1), follow to ps o.2))

pub spans_follow : (re : Re) (hay : List ℕ) → FollowFrom 0 (spans_of re hay)
spans_follow re hay = follow 0 _ (all_ordered re hay)

-- the same of the regular expression of a text
pub all_follow : (text hay : List ℕ) → FollowFrom 0 (all_matches text hay)
all_follow text hay = at (pattern_of text)
  where
    at : (o : Option Re) → FollowFrom 0 (elim o [ None ↦ [] | Some re ↦ spans_of re hay ])
    at None = tt
    at (Some re) = spans_follow re hay
