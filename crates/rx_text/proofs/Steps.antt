-- One match after another in a loop.
use Rattle.std.proofs.Common.{◌≡◌, ℕ, Bool, true, false, cond, ◌==◌, List, [], ◌∷◌, ◌++◌, map, All, refl, sym, ap, ◌∙◌, append_assoc, append-nil}
use Rattle.node_tree.specs.declared.span.Span.{Span}
use Rattle.node_tree.specs.Span.{LiesIn}
use Rattle.regex.specs.Strings.{matches_haystack, spans_left, placed_spans_left}
use Rattle.regex.specs.declared.string.iter.Matches.{Matches}
use Rattle.rx_text.specs.Searches.{with_bytes}

abbrev placed : List ℕ → ℕ × ℕ → List ℕ × (ℕ × ℕ)
placed text p = (text, p)

-- Some matches in a text are left, and the ranges so far with those that are left are all.
pub record Gathers (text : List ℕ) (left : List (List ℕ × (ℕ × ℕ))) (spans all : List Span) : Type 0 where
  pub rest : List (ℕ × ℕ)
  pub left_is : left ≡ map (placed text) rest
  pub gathered : spans ++ with_bytes rest ≡ all
  pub lie : All (LiesIn text) spans

-- what is left at the start
pub start_left : (s t : Matches) (text : List ℕ) (rest : List (ℕ × ℕ)) → s ≡ t → matches_haystack t ≡ text → spans_left t ≡ rest →
    placed_spans_left s ≡ map (placed text) rest
start_left s t text rest same within found =
    ap placed_spans_left same ∙ ap (λ x. map (placed x) (spans_left t)) within ∙ ap (map (placed text)) found

-- what is left once the first is taken
pub record IsStep (text : List ℕ) (rest : List (ℕ × ℕ)) (hay : List ℕ) (p : ℕ × ℕ) (left : List (List ℕ × (ℕ × ℕ))) : Type 0 where
  pub others : List (ℕ × ℕ)
  pub first : rest ≡ p ∷ others
  pub within : hay ≡ text
  pub left_is : left ≡ map (placed text) others

pub step : (text : List ℕ) (rest : List (ℕ × ℕ)) (hay : List ℕ) (p : ℕ × ℕ) (left : List (List ℕ × (ℕ × ℕ))) →
    map (placed text) rest ≡ placed hay p ∷ left → IsStep text rest hay p left
step text [] hay p left e = absurd cc
step text (r ∷ rs) hay p left e =
    let head : placed text r ≡ placed hay p = cc in
    let tail : map (placed text) rs ≡ left = cc in
    let same : r ≡ p = ap (λ (x : List ℕ × (ℕ × ℕ)). x.1) head in
    record {
      others = rs;
      first = ap (λ x. x ∷ rs) same;
      within = sym (ap (λ (x : List ℕ × (ℕ × ℕ)). x.0) head);
      left_is = sym tail;
    }

with_bytes-cons : (p : ℕ × ℕ) (ps : List (ℕ × ℕ)) → with_bytes (p ∷ ps) ≡ with_bytes (p ∷ []) ++ with_bytes ps
with_bytes-cons (from, to) ps = both (from == to)
  where
    both : (b : Bool) → cond b (with_bytes ps) (record { from = from; to = to } ∷ with_bytes ps)
        ≡ cond b [] (record { from = from; to = to } ∷ []) ++ with_bytes ps
    both true = refl
    both false = refl

pub step_adds : (before all : List Span) (p : ℕ × ℕ) (ps : List (ℕ × ℕ)) →
    before ++ with_bytes (p ∷ ps) ≡ all → (before ++ with_bytes (p ∷ [])) ++ with_bytes ps ≡ all
step_adds before all p ps e =
    append_assoc before (with_bytes (p ∷ [])) (with_bytes ps) ∙ ap (λ xs. before ++ xs) (sym (with_bytes-cons p ps)) ∙ e

-- where none is left, the ranges so far are all
pub all_gathered : (text : List ℕ) (left : List (List ℕ × (ℕ × ℕ))) (spans all : List Span) → Gathers text left spans all → left ≡ [] → spans ≡ all
all_gathered text left spans all g e = of g.rest (sym g.left_is ∙ e) g.gathered
  where
    of : (rest : List (ℕ × ℕ)) → map (placed text) rest ≡ [] → spans ++ with_bytes rest ≡ all → spans ≡ all
    of [] none gathered = sym (append-nil spans) ∙ gathered
    of (r ∷ rs) none gathered = absurd cc
