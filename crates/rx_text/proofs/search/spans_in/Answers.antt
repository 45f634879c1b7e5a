use Rattle.std.proofs.Common.{ℕ, ◌<◌, List, [], ◌++◌, map, length, All, ◌∷◌, sym, ap, subst, ◌∙◌}
use Rattle.std.proofs.lemmas.List.Elements.{All-nil, All-same, All-append}
use Rattle.node_tree.specs.Span.{LiesIn}
use Rattle.regex.specs.Patterns.{find_all_str, span}
use Rattle.regex.specs.Strings.{regex_pattern, match_span, match_haystack}
use Rattle.rx_text.specs.Searches.{with_bytes, spans_of}
use Rattle.rx_text.proofs.Steps.{start_left, step, step_adds, all_gathered}
use Rattle.rx_text.proofs.search.spans_in.Goals as goal

pub loop-found-init : goal.loop-found-init
loop-found-init c =
    let text = c.args.text.now in
    let rest = map span (find_all_str (regex_pattern c.args.regex.now) text) in
    record {
      rest = rest;
      left_is = start_left _ _ text rest c.into_iter-found-iterator.ensures.into_iter_gives c.find_iter-found-items.ensures.within
          (c.find_iter-found-items.ensures.found ∙ ap (λ re. map span (find_all_str re text)) c.in_ok-matcher.ensures.pattern);
      gathered = ap (λ xs. xs ++ with_bytes rest) c.new-spans.ensures;
      lie = All-same (LiesIn text) _ [] c.new-spans.ensures (All-nil (LiesIn text));
    }

pub push_match-requires : goal.push_match-requires
push_match-requires c =
    let s = step c.args.text.now c.loop-found.invariant.rest (match_haystack c.in-Some.found) (match_span c.in-Some.found) _
    (sym c.loop-found.invariant.left_is ∙ c.in-Some.ensures.steps) in
    let P : List ℕ → Type 0 = λ hay. length hay < 4294967296 in
    subst P (sym s.within) c.requires

pub loop-found-preserved : goal.loop-found-preserved
loop-found-preserved c =
    let text = c.args.text.now in
    let spans = c.loop-found.spans in
    let all = spans_of (regex_pattern c.args.regex.now) text in
    let p = match_span c.in-Some.found in
    let s = step text c.loop-found.invariant.rest (match_haystack c.in-Some.found) p _
    (sym c.loop-found.invariant.left_is ∙ c.in-Some.ensures.steps) in
    let P : List ℕ → Type 0 = λ hay. All (LiesIn hay) (with_bytes (p ∷ [])) in
    record {
      rest = s.others;
      left_is = s.left_is;
      gathered = ap (λ xs. xs ++ with_bytes s.others) c.in_ok-push_match.ensures.adds
          ∙ step_adds spans all p s.others (ap (λ r. spans ++ with_bytes r) (sym s.first) ∙ c.loop-found.invariant.gathered);
      lie = All-same (LiesIn text) _ _ c.in_ok-push_match.ensures.adds
          (All-append (LiesIn text) spans (with_bytes (p ∷ [])) c.loop-found.invariant.lie (subst P s.within c.push_match.ensures.placed));
    }

pub returns-clause-found : goal.returns-clause-found
returns-clause-found c = all_gathered _ _ _ _ c.loop-found.invariant c.in-None.ensures.steps.0

pub returns-clause-placed : goal.returns-clause-placed
returns-clause-placed c = c.loop-found.invariant.lie
