-- Matches cut no character of a text.
use Rattle.std.proofs.Common.{◌≡◌, ℕ, zero, suc, ◌+◌, ◌<◌, ◌≤◌, ◌==◌, List, [], ◌∷◌, map, length, All, Option, None, Some, refl, arith, cond, IsUtf8, IsCharBoundary}
use Rattle.std.proofs.lemmas.Bool.{cond_both}
use Rattle.std.proofs.lemmas.List.Elements.{All-nil, All-cons, All-head, All-tail}
use Rattle.regex_hir.specs.Find.{Match, find_after, matches_from}
use Rattle.regex_hir.specs.Text.{is_some_and, is_boundary}
use Rattle.regex_hir.proofs.AttemptLemmas.{cond_some}
use Rattle.regex_hir.proofs.FindLemmas.{IsFirst-of_first_between}
use Rattle.regex.specs.Patterns.{Re, find_str, span}
use Rattle.regex.specs.Utf8.{MatchesText}
use Rattle.regex.proofs.Utf8Lemmas.{IsCharBoundary-of_test, match_ends_cleanly}
use Rattle.node_tree.specs.declared.span.Span.{Span}
use Rattle.node_tree.specs.Span.{LiesIn}
use Rattle.rx_text.specs.Searches.{with_bytes, spans_of}
use Rattle.rx_text.proofs.Matches.{Ordered, all_ordered}

module _ (re : Re) (hay : List ℕ) (bytes : All (λ b. b < 256) hay) (whole : MatchesText re) (utf8 : IsUtf8 hay) where
  -- both ends cut no character
  abbrev Cuts : ℕ × ℕ → Type 0
  Cuts p = IsCharBoundary hay p.0 × IsCharBoundary hay p.1

  abbrev CutsAt : Option Match → Type 0
  CutsAt o = (m : Match) → o ≡ Some m → Cuts (span m)

  cuts : (at : ℕ) → CutsAt (find_str re hay at)
  unfolding find_str
  cuts at m e =
      let first = IsFirst-of_first_between _ at (length hay) m e in
      let parts = cond_some (is_boundary hay m.start) _ m.trace first.here in
      let begins = IsCharBoundary-of_test hay m.start first.to parts.0 in
      (begins, match_ends_cleanly re hay bytes whole utf8 m.start m.trace begins parts.1)

  cuts_after : (at : ℕ) → CutsAt (find_after (find_str re hay) at)
  cuts_after at =
      cond_both (is_some_and (find_str re hay at) (λ m. m.trace.end == at)) (find_str re hay (at + 1)) (find_str re hay at) CutsAt
      (λ _. cuts (at + 1)) (λ _. cuts at)

  each_cuts : (n : ℕ) (o : Option Match) → CutsAt o → All Cuts (map span (matches_from (find_str re hay) n o))
  unfolding matches_from
  each_cuts zero o c = All-nil Cuts
  each_cuts (suc n) None c = All-nil Cuts
  each_cuts (suc n) (Some m) c = All-cons Cuts (span m) _ (c m refl) (each_cuts n _ (cuts_after m.trace.end))

  lie : (at : ℕ) (ps : List (ℕ × ℕ)) → Ordered at ps → All Cuts ps → All (LiesIn hay) (with_bytes ps)
  lie at [] o all = All-nil (LiesIn hay)
  lie at ((from, to) ∷ ps) o all =
      let rest = lie to ps o.2 (All-tail Cuts (from, to) ps all) in
      let here = All-head Cuts (from, to) ps all in
      let s : Span = record { from = from; to = to } in
      cond_both (from == to) (with_bytes ps) (s ∷ with_bytes ps) (All (LiesIn hay))
      (λ _. rest) (λ _. All-cons (LiesIn hay) s (with_bytes ps) (record { ordered = o.1; begins = here.0; ends = here.1 }) rest)

  pub spans_lie : All (LiesIn hay) (spans_of re hay)
  spans_lie = lie 0 _ (all_ordered re hay) (each_cuts (length hay + 1) _ (cuts 0))
