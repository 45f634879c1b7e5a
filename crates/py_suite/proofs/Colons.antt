-- Whether a colon follows a primary, one token on.
use Rattle.std.proofs.Common.{◌≡◌, ℕ, zero, suc, ◌+◌, ◌-◌, ◌<◌, ◌≤◌, List, length, refl, ◌∙◌, arith, eqb, Bool, true, false}
use Rattle.std.specs.Prelude.{if◌then◌else◌}
use Rattle.std.proofs.lemmas.List.{get_or_past}
use Rattle.grammar.specs.Rule.{has}
use Rattle.py_expr.specs.declared.item.Item.{Item}
use Rattle.py_expr.specs.declared.word.Word.TheVariants as w
use Rattle.py_expr.specs.Words.{class}
use Rattle.py_expr.specs.Build.{token_at, end_item}
use Rattle.py_suite.specs.Table.{colon_after, openings, closings, plain}
use Rattle.py_suite.specs.Build.{source}

-- nothing stands behind the last token
pub at_end : (ts : List Item) (n i inner : ℕ) → length ts ≤ i → colon_after n (source ts).cls i inner ≡ false
unfolding colon_after class
at_end ts zero i inner h = refl
at_end ts (suc n) i zero h = rw (get_or_past ts i end_item h) refl
at_end ts (suc n) i (suc inner) h = rw (get_or_past ts i end_item h) refl

pub none_left : (ts : List Item) (n i inner : ℕ) → n ≡ zero → colon_after n (source ts).cls i inner ≡ false
unfolding colon_after
none_left ts n i inner h = rw h refl

-- ---- one token on

taken : (c X Y : Bool) → c ≡ true → (if c then X else Y) ≡ X
taken c X Y h = rw h refl

passed : (c X Y : Bool) → c ≡ false → (if c then X else Y) ≡ Y
passed c X Y h = rw h refl

module _ (ts : List Item) (m i j : ℕ) (o : Bool) where
  -- a bracket opens
  pub opened : (n inner deeper : ℕ) → o ≡ colon_after n (source ts).cls i inner → zero < n → m ≡ n - 1 → j ≡ i + 1 → deeper ≡ inner + 1 → has openings (class (token_at ts i).word) ≡ true → o ≡ colon_after m (source ts).cls j deeper
  unfolding colon_after
  opened zero inner deeper first some less next more mark = absurd (omega arith)
  opened (suc n) zero deeper first some less next more mark = let same : m ≡ n = omega arith in let on : j ≡ suc i = omega arith in let down : deeper ≡ 1 = omega arith in first ∙ rw (same, on, down) (taken _ _ _ mark)
  opened (suc n) (suc inner) deeper first some less next more mark = let same : m ≡ n = omega arith in let on : j ≡ suc i = omega arith in let down : deeper ≡ suc (suc inner) = omega arith in first ∙ rw (same, on, down) (taken _ _ _ mark)

  -- a word of a primary stands outside of brackets, or another word
  pub went : (n inner : ℕ) → o ≡ colon_after n (source ts).cls i inner → inner ≡ zero → zero < n → m ≡ n - 1 → j ≡ i + 1 → has openings (class (token_at ts i).word) ≡ false → has plain (class (token_at ts i).word) ≡ true → o ≡ colon_after m (source ts).cls j inner
  unfolding colon_after
  went zero inner first none some less next mark word = absurd (omega arith)
  went (suc n) zero first none some less next mark word = let same : m ≡ n = omega arith in let on : j ≡ suc i = omega arith in first ∙ rw (same, on) (passed _ _ _ mark ∙ taken _ _ _ word)
  went (suc n) (suc inner) first none some less next mark word = absurd (omega arith)

  pub stopped : (n inner : ℕ) → o ≡ colon_after n (source ts).cls i inner → inner ≡ zero → zero < n → has openings (class (token_at ts i).word) ≡ false → has plain (class (token_at ts i).word) ≡ false → o ≡ eqb (class w.Colon) (class (token_at ts i).word)
  unfolding colon_after
  stopped zero inner first none some mark word = absurd (omega arith)
  stopped (suc n) zero first none some mark word = first ∙ (passed _ _ _ mark ∙ passed _ _ _ word)
  stopped (suc n) (suc inner) first none some mark word = absurd (omega arith)

  -- a bracket closes, a word stands inside of brackets, or the tokens end there
  pub closed : (n inner outer : ℕ) → o ≡ colon_after n (source ts).cls i inner → zero < inner → zero < n → m ≡ n - 1 → j ≡ i + 1 → outer ≡ inner - 1 → has openings (class (token_at ts i).word) ≡ false → has closings (class (token_at ts i).word) ≡ true → o ≡ colon_after m (source ts).cls j outer
  unfolding colon_after
  closed zero inner outer first within some less next more mark word = absurd (omega arith)
  closed (suc n) zero outer first within some less next more mark word = absurd (omega arith)
  closed (suc n) (suc inner) outer first within some less next more mark word = let same : m ≡ n = omega arith in let on : j ≡ suc i = omega arith in let up : outer ≡ inner = omega arith in first ∙ rw (same, on, up) (passed _ _ _ mark ∙ taken _ _ _ word)

  pub inside : (n inner : ℕ) → o ≡ colon_after n (source ts).cls i inner → zero < inner → zero < n → m ≡ n - 1 → j ≡ i + 1 → has openings (class (token_at ts i).word) ≡ false → has closings (class (token_at ts i).word) ≡ false → eqb (class w.Other) (class (token_at ts i).word) ≡ false → o ≡ colon_after m (source ts).cls j inner
  unfolding colon_after
  inside zero inner first within some less next mark word other = absurd (omega arith)
  inside (suc n) zero first within some less next mark word other = absurd (omega arith)
  inside (suc n) (suc inner) first within some less next mark word other = let same : m ≡ n = omega arith in let on : j ≡ suc i = omega arith in first ∙ rw (same, on) (passed _ _ _ mark ∙ (passed _ _ _ word ∙ passed _ _ _ other))

  pub ended : (n inner : ℕ) → o ≡ colon_after n (source ts).cls i inner → zero < inner → zero < n → has openings (class (token_at ts i).word) ≡ false → has closings (class (token_at ts i).word) ≡ false → eqb (class w.Other) (class (token_at ts i).word) ≡ true → o ≡ false
  unfolding colon_after
  ended zero inner first within some mark word other = absurd (omega arith)
  ended (suc n) zero first within some mark word other = absurd (omega arith)
  ended (suc n) (suc inner) first within some mark word other = first ∙ (passed _ _ _ mark ∙ (passed _ _ _ word ∙ taken _ _ _ other))
