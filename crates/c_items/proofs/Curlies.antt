-- Whether a `{` follows a declarator, one token on.
use Rattle.std.proofs.Common.{◌≡◌, ℕ, zero, suc, ◌+◌, ◌-◌, ◌<◌, ◌≤◌, List, length, refl, ◌∙◌, arith, eqb, Bool, true, false}
use Rattle.std.specs.Prelude.{if◌then◌else◌}
use Rattle.std.proofs.lemmas.List.{get_or_past}
use Rattle.grammar.specs.Rule.{has}
use Rattle.c_expr.specs.declared.word.Token.{Token}
use Rattle.c_expr.specs.declared.word.Word.TheVariants as w
use Rattle.c_expr.specs.Words.{class}
use Rattle.c_expr.specs.Build.{token_at, end_token, source}
use Rattle.c_items.specs.Settling.{curly_behind, declarator_brackets, declarator_words, openings, closings}

-- nothing stands behind the last token
pub at_end : (ts : List Token) (n i inner : ℕ) → length ts ≤ i → curly_behind n (source ts).cls i inner ≡ false
unfolding curly_behind class
at_end ts zero i inner h = refl
at_end ts (suc n) i zero h = rw (get_or_past ts i end_token h) refl
at_end ts (suc n) i (suc inner) h = rw (get_or_past ts i end_token h) refl

pub none_left : (ts : List Token) (n i inner : ℕ) → n ≡ zero → curly_behind n (source ts).cls i inner ≡ false
unfolding curly_behind
none_left ts n i inner h = rw h refl

-- ---- one token on

taken : (c X Y : Bool) → c ≡ true → (if c then X else Y) ≡ X
taken c X Y h = rw h refl

passed : (c X Y : Bool) → c ≡ false → (if c then X else Y) ≡ Y
passed c X Y h = rw h refl

module _ (ts : List Token) (m i j : ℕ) (o : Bool) where
  -- outside of brackets a bracket opens, or a word of a declarator stands, or another
  pub begun : (n inner deeper : ℕ) → o ≡ curly_behind n (source ts).cls i inner → inner ≡ zero → zero < n → m ≡ n - 1 → j ≡ i + 1 → deeper ≡ 1 → has declarator_brackets (class (token_at ts i).word) ≡ true → o ≡ curly_behind m (source ts).cls j deeper
  unfolding curly_behind
  begun zero inner deeper first none some less next more mark = absurd (omega arith)
  begun (suc n) zero deeper first none some less next more mark = let same : m ≡ n = omega arith in let on : j ≡ suc i = omega arith in first ∙ rw (same, on, more) (taken _ _ _ mark)
  begun (suc n) (suc inner) deeper first none some less next more mark = absurd (omega arith)

  pub went : (n inner : ℕ) → o ≡ curly_behind n (source ts).cls i inner → inner ≡ zero → zero < n → m ≡ n - 1 → j ≡ i + 1 → has declarator_brackets (class (token_at ts i).word) ≡ false → has declarator_words (class (token_at ts i).word) ≡ true → o ≡ curly_behind m (source ts).cls j inner
  unfolding curly_behind
  went zero inner first none some less next mark word = absurd (omega arith)
  went (suc n) zero first none some less next mark word = let same : m ≡ n = omega arith in let on : j ≡ suc i = omega arith in first ∙ rw (same, on) (passed _ _ _ mark ∙ taken _ _ _ word)
  went (suc n) (suc inner) first none some less next mark word = absurd (omega arith)

  pub stopped : (n inner : ℕ) → o ≡ curly_behind n (source ts).cls i inner → inner ≡ zero → zero < n → has declarator_brackets (class (token_at ts i).word) ≡ false → has declarator_words (class (token_at ts i).word) ≡ false → o ≡ eqb (class w.OpenCurly) (class (token_at ts i).word)
  unfolding curly_behind
  stopped zero inner first none some mark word = absurd (omega arith)
  stopped (suc n) zero first none some mark word = first ∙ (passed _ _ _ mark ∙ passed _ _ _ word)
  stopped (suc n) (suc inner) first none some mark word = absurd (omega arith)

  -- inside of brackets another opens, one closes, another word stands, or the tokens end
  pub opened : (n inner deeper : ℕ) → o ≡ curly_behind n (source ts).cls i inner → zero < inner → zero < n → m ≡ n - 1 → j ≡ i + 1 → deeper ≡ inner + 1 → has openings (class (token_at ts i).word) ≡ true → o ≡ curly_behind m (source ts).cls j deeper
  unfolding curly_behind
  opened zero inner deeper first within some less next more mark = absurd (omega arith)
  opened (suc n) zero deeper first within some less next more mark = absurd (omega arith)
  opened (suc n) (suc inner) deeper first within some less next more mark = let same : m ≡ n = omega arith in let on : j ≡ suc i = omega arith in let down : deeper ≡ suc (suc inner) = omega arith in first ∙ rw (same, on, down) (taken _ _ _ mark)

  pub closed : (n inner outer : ℕ) → o ≡ curly_behind n (source ts).cls i inner → zero < inner → zero < n → m ≡ n - 1 → j ≡ i + 1 → outer ≡ inner - 1 → has openings (class (token_at ts i).word) ≡ false → has closings (class (token_at ts i).word) ≡ true → o ≡ curly_behind m (source ts).cls j outer
  unfolding curly_behind
  closed zero inner outer first within some less next more mark word = absurd (omega arith)
  closed (suc n) zero outer first within some less next more mark word = absurd (omega arith)
  closed (suc n) (suc inner) outer first within some less next more mark word = let same : m ≡ n = omega arith in let on : j ≡ suc i = omega arith in let up : outer ≡ inner = omega arith in first ∙ rw (same, on, up) (passed _ _ _ mark ∙ taken _ _ _ word)

  pub inside : (n inner : ℕ) → o ≡ curly_behind n (source ts).cls i inner → zero < inner → zero < n → m ≡ n - 1 → j ≡ i + 1 → has openings (class (token_at ts i).word) ≡ false → has closings (class (token_at ts i).word) ≡ false → eqb (class w.End) (class (token_at ts i).word) ≡ false → o ≡ curly_behind m (source ts).cls j inner
  unfolding curly_behind
  inside zero inner first within some less next mark word other = absurd (omega arith)
  inside (suc n) zero first within some less next mark word other = absurd (omega arith)
  inside (suc n) (suc inner) first within some less next mark word other = let same : m ≡ n = omega arith in let on : j ≡ suc i = omega arith in first ∙ rw (same, on) (passed _ _ _ mark ∙ (passed _ _ _ word ∙ passed _ _ _ other))

  pub ended : (n inner : ℕ) → o ≡ curly_behind n (source ts).cls i inner → zero < inner → zero < n → has openings (class (token_at ts i).word) ≡ false → has closings (class (token_at ts i).word) ≡ false → eqb (class w.End) (class (token_at ts i).word) ≡ true → o ≡ false
  unfolding curly_behind
  ended zero inner first within some mark word other = absurd (omega arith)
  ended (suc n) zero first within some mark word other = absurd (omega arith)
  ended (suc n) (suc inner) first within some mark word other = first ∙ (passed _ _ _ mark ∙ (passed _ _ _ word ∙ taken _ _ _ other))
