-- Words that stand once each are the same words.
use Rattle.std.proofs.Common.{◌≡◌, Bool, true, false, List, [], ◌∷◌, ◌++◌, refl, sym, ap, ◌∙◌}
use Rattle.std.specs.Prelude.{◌||◌, if◌then◌else◌}
use Rattle.std.proofs.lemmas.List.Folds.{list_any-append}
use Rattle.unit_names.specs.Words.{Word, same_word, is_one_of, with_word, with_words, each_once}
use Rattle.const_prop.proofs.Agreeing.{word_same}

or_false : (a : Bool) → a ≡ a || false
or_false true = refl
or_false false = refl

or_true : (a b : Bool) → a ≡ true → a ≡ a || b
or_true true b e = refl
or_true false b e = absurd cc

or_step : (a b c : Bool) → (a || b) || c ≡ a || (b || c)
or_step true b c = refl
or_step false b c = refl

module _ (v w : Word) where
  there_by : (ws : List Word) → is_one_of ws v ≡ true → (b : Bool) → same_word v w ≡ b → is_one_of ws w ≡ is_one_of ws w || b
  there_by ws there true same = or_true (is_one_of ws w) true (ap (is_one_of ws) (sym (word_same v w same)) ∙ there)
  there_by ws there false other = or_false (is_one_of ws w)

  with_by : (ws : List Word) (b : Bool) → is_one_of ws v ≡ b → is_one_of (if b then ws else ws ++ v ∷ []) w ≡ is_one_of ws w || same_word v w
  with_by ws true there = there_by ws there (same_word v w) refl
  with_by ws false new = list_any-append (λ x. same_word x w) ws (v ∷ []) ∙ ap (λ b. is_one_of ws w || b) (sym (or_false (same_word v w)))

with_same : (ws vs : List Word) (w : Word) → is_one_of (with_words ws vs) w ≡ is_one_of ws w || is_one_of vs w
with_same ws [] w = or_false (is_one_of ws w)
with_same ws (v ∷ vs) w = with_same (with_word ws v) vs w ∙ ap (λ b. b || is_one_of vs w) (with_by v w ws (is_one_of ws v) refl) ∙ or_step (is_one_of ws w) (same_word v w) (is_one_of vs w)

-- a word is one of these, each once, where it is one of these
pub once_same : (ws : List Word) (w : Word) → is_one_of (each_once ws) w ≡ is_one_of ws w
once_same ws w = with_same [] ws w
