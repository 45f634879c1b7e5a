-- Where one may stand: each place is behind some front of a value, and no deeper than brackets may be.
use Rattle.std.proofs.Common.{◌≡◌, ℕ, zero, suc, ◌+◌, ◌-◌, ◌<◌, ◌≤◌, Bool, true, false, ◌⊎◌, inl, inr, List, [], ◌∷◌, ◌++◌, length, refl, sym, ap, ◌∙◌, subst, arith}
use Rattle.std.specs.Prelude.{Option, Some, None, map, cond, ltb}
use Rattle.grammar.specs.Rule.{has, behind, open_at, smaller, brackets_round}
use Rattle.grammar.proofs.Counts.{count_step, count_start}
use Rattle.grammar.proofs.Facts.{less_or_same}
use Rattle.json_tree.specs.declared.token.Token.{Token}
use Rattle.json_tree.specs.declared.token.Word.{Word}
use Rattle.json_tree.specs.declared.token.Word.TheVariants as w
use Rattle.json_tree.specs.Words.{class}
use Rattle.json_tree.specs.Table.{grammar, scalars}
use Rattle.json_tree.specs.Build.{token_at, source}
use Rattle.json_check.specs.declared.nest.Container.{Container}
use Rattle.json_check.specs.declared.nest.Container.TheVariants.{Array, Object}
use Rattle.json_check.specs.declared.nest.Next.{Next}
use Rattle.json_check.specs.declared.nest.Next.TheVariants.{Value, ItemOrEnd, NameOrEnd, Name, Colon, CommaOrEnd}
use Rattle.json_check.specs.fronts.Moves.{Standing, steps_in, behind_token}
use Rattle.json_check.proofs.Runs.{at, word_at, Runs, r_here, r_on, next_in, value_here, name_here, starts}
use Rattle.json_check.proofs.Accepts.{right_of, close_here, comma_here}
use Rattle.json_check.proofs.Taken.{Valued, value_taken, name_taken, colon_taken, Begins, Closes, next_taken, first_taken, comma_taken}

-- how deep a value in these containers stands
abbrev pub level : List Container → ℕ
level [] = 1
level (c ∷ o) = level o + steps_in c

-- each container stands within the depth
abbrev pub Sound : List Container → Type 0
Sound [] = Unit {0}
Sound (c ∷ o) = (level o ≤ 499) × Sound o

abbrev pub Fits : Next → List Container → ℕ → Type 0
Fits ItemOrEnd [] d = ⊥
Fits ItemOrEnd (Array ∷ o) d = Unit {0}
Fits ItemOrEnd (Object ∷ o) d = ⊥
Fits NameOrEnd [] d = ⊥
Fits NameOrEnd (Array ∷ o) d = ⊥
Fits NameOrEnd (Object ∷ o) d = Unit {0}
Fits n o d = d ≤ 499

pub record Good (s : Standing) : Type 0 where
  pub depth : s.depth ≡ level s.around
  pub sound : Sound s.around
  pub fits : Fits s.next s.around s.depth

-- a place that may be, where as many brackets are open as the token says
abbrev pub Follows : Standing → List Container → Word → Type 0
Follows u o x = Good u × (length u.around ≡ behind grammar.opens grammar.closes (class x) (length o))

follows : (u v : Standing) (o : List Container) (x y : Word) → u ≡ v → x ≡ y → Follows v o y → Follows u o x
follows u v o x y q h f = subst (λ (s : Standing). Follows s o x) (sym q) (subst (λ (z : Word). Follows v o z) (sym h) f)

scalar_behind : (x : Word) (n : ℕ) → has scalars (class x) ≡ true → n ≡ behind grammar.opens grammar.closes (class x) n
unfolding class
scalar_behind w.Str n h = refl
scalar_behind w.Number n h = refl
scalar_behind w.Const n h = refl
scalar_behind w.StrAny n h = refl
scalar_behind w.Meta n h = refl
scalar_behind w.MetaDots n h = refl
scalar_behind w.Dots n h = refl
scalar_behind w.End n h = absurd cc
scalar_behind w.LeftBrace n h = absurd cc
scalar_behind w.RightBrace n h = absurd cc
scalar_behind w.LeftBracket n h = absurd cc
scalar_behind w.RightBracket n h = absurd cc
scalar_behind w.Comma n h = absurd cc
scalar_behind w.Colon n h = absurd cc
scalar_behind w.DeepOpen n h = absurd cc
scalar_behind w.DeepClose n h = absurd cc

valued_follows : (o : List Container) (d : ℕ) (x : Word) (u : Standing) → d ≡ level o → Sound o → d ≤ 499 → Valued o d x u → Follows u o x
unfolding class
valued_follows o d x u e s le (inl (h, q)) = subst (λ (v : Standing). Follows v o x) (sym q) (record { depth = e; sound = s; fits = le }, scalar_behind x (length o) h)
valued_follows o d x u e s le (inr (inl (h, q))) = follows u _ o x w.LeftBracket q h (record { depth = ap (λ (n : ℕ). n + 1) e; sound = (omega (arith, e, le), s); fits = tt }, refl)
valued_follows o d x u e s le (inr (inr (h, q))) = follows u _ o x w.LeftBrace q h (record { depth = ap (λ (n : ℕ). n + 2) e; sound = (omega (arith, e, le), s); fits = tt }, refl)

closes_follows : (c : Container) (o : List Container) (d : ℕ) (x : Word) (u : Standing) → d ≡ level (c ∷ o) → Sound (c ∷ o) → Closes c o d x u → Follows u (c ∷ o) x
unfolding class
closes_follows Array o d x u e s (h, q) = follows u _ (Array ∷ o) x w.RightBracket q h (record { depth = omega (arith, e); sound = s.1; fits = omega (arith, e, s.0) }, refl)
closes_follows Object o d x u e s (h, q) = follows u _ (Object ∷ o) x w.RightBrace q h (record { depth = omega (arith, e); sound = s.1; fits = omega (arith, e, s.0) }, refl)

named_follows : (o : List Container) (d : ℕ) (x : Word) (u : Standing) → d ≡ level o → Sound o → (d ≤ 499) × ((x ≡ w.Str) × (u ≡ at Colon o d)) → Follows u o x
unfolding class
named_follows o d x u e s (le, (h, q)) = follows u _ o x w.Str q h (record { depth = e; sound = s; fits = le }, refl)

begins_follows : (c : Container) (o : List Container) (d : ℕ) (x : Word) (u : Standing) → d ≡ level o → Sound o → Begins c o d x u → Follows u o x
begins_follows Array o d x u e s h = let p = value_taken o d x u h in valued_follows o d x u e s p.0 p.1
begins_follows Object o d x u e s h = named_follows o d x u e s (name_taken o d x u h)

first_follows : (c : Container) (o : List Container) (d : ℕ) (x : Word) (u : Standing) → d ≡ level (c ∷ o) → Sound (c ∷ o) → Closes c o d x u ⊎ Begins c (c ∷ o) d x u → Follows u (c ∷ o) x
first_follows c o d x u e s (inl h) = closes_follows c o d x u e s h
first_follows c o d x u e s (inr h) = begins_follows c (c ∷ o) d x u e s h

comma_follows : (c : Container) (o : List Container) (d : ℕ) (x : Word) (u : Standing) → d ≡ level (c ∷ o) → Sound (c ∷ o) → d ≤ 499 → Closes c o d x u ⊎ ((x ≡ w.Comma) × (u ≡ at (next_in c) (c ∷ o) d)) → Follows u (c ∷ o) x
unfolding class
comma_follows c o d x u e s le (inl h) = closes_follows c o d x u e s h
comma_follows Array o d x u e s le (inr (h, q)) = follows u _ (Array ∷ o) x w.Comma q h (record { depth = e; sound = s; fits = le }, refl)
comma_follows Object o d x u e s le (inr (h, q)) = follows u _ (Object ∷ o) x w.Comma q h (record { depth = e; sound = s; fits = le }, refl)

goes_on : (n : Next) (o : List Container) (d : ℕ) (x : Word) (u : Standing) → d ≡ level o → Sound o → Fits n o d → behind_token (at n o d) x ≡ Some u → Follows u o x
unfolding class
goes_on Value o d x u e s f h = begins_follows Array o d x u e s h
goes_on Name o d x u e s f h = begins_follows Object o d x u e s h
goes_on Colon o d x u e s f h = let p = colon_taken o d x u h in follows u _ o x w.Colon p.1 p.0 (record { depth = e; sound = s; fits = f }, refl)
goes_on ItemOrEnd [] d x u e s f h = absurd f
goes_on ItemOrEnd (Array ∷ o) d x u e s f h = first_follows Array o d x u e s (first_taken Array o d x u h)
goes_on ItemOrEnd (Object ∷ o) d x u e s f h = absurd f
goes_on NameOrEnd [] d x u e s f h = absurd f
goes_on NameOrEnd (Array ∷ o) d x u e s f h = absurd f
goes_on NameOrEnd (Object ∷ o) d x u e s f h = first_follows Object o d x u e s (first_taken Object o d x u h)
goes_on CommaOrEnd [] d x u e s f h = let k : None ≡ Some u = h in absurd cc
goes_on CommaOrEnd (c ∷ o) d x u e s f h = comma_follows c o d x u e s f (comma_taken c o d x u h)

pub good_on : (s u : Standing) (x : Word) → Good s → behind_token s x ≡ Some u → Follows u s.around x
good_on s u x g h = goes_on s.next s.around s.depth x u g.depth g.sound g.fits h

-- ---- brackets

few_open : (o : List Container) → Sound o → (length o < level o) × (level o ≤ 501)
few_open [] s = (omega arith, omega arith)
few_open (Array ∷ o) s = let p = few_open o s.1 in (omega (arith, p.0), omega (arith, s.0))
few_open (Object ∷ o) s = let p = few_open o s.1 in (omega (arith, p.0), omega (arith, s.0))

smaller_at_most : (a b : ℕ) → smaller a b ≤ a
smaller_at_most a b = by_test (ltb a b) refl
  where
    less : (a b : ℕ) → ltb a b ≡ false → b ≤ a
    less a b h = grind arith

    by_test : (t : Bool) → ltb a b ≡ t → cond t a b ≤ a
    by_test true e = omega arith
    by_test false e = less a b e

module _ (ts : List Token) where
  opened : ℕ → ℕ
  opened n = open_at grammar.opens grammar.closes (source ts).cls 0 n

  few_along : {s t : Standing} {i j : ℕ} → Runs ts s i t j → Good s → open_at grammar.opens grammar.closes (source ts).cls 0 i ≡ length s.around → (n : ℕ) → i ≤ n → n < j → open_at grammar.opens grammar.closes (source ts).cls 0 n ≤ 500
  few_along (r_here e f) g h n le lt = absurd (omega (arith, f))
  few_along {s = s} {i = i} (r_on u e r) g h n le lt = elim (less_or_same i n le) [
    | inl more ↦
        (let p = good_on s u (word_at ts i) g e in
        few_along r p.0 (count_step grammar.opens grammar.closes (source ts).cls 0 i (omega arith) ∙ ap (λ (k : ℕ). behind grammar.opens grammar.closes (class (word_at ts i)) k) h ∙ sym p.1) n more lt)
    | inr same ↦ (let q = few_open s.around g.sound in subst (λ (k : ℕ). open_at grammar.opens grammar.closes (source ts).cls 0 k ≤ 500) same (omega (arith, h, q.0, q.1)))
  ]

  pub few_brackets : {t : Standing} {j : ℕ} → Runs ts (at Value [] 1) 0 t j → (n : ℕ) → n < j → brackets_round grammar.opens grammar.closes (source ts).cls 0 n ≤ 500
  few_brackets r n lt =
      let a = few_along r (record { depth = refl; sound = tt; fits = omega arith }) (count_start grammar.opens grammar.closes (source ts).cls 0) n (omega arith) lt in
      omega (arith, a, smaller_at_most (open_at grammar.opens grammar.closes (source ts).cls 0 n) (open_at grammar.opens grammar.closes (source ts).cls 0 (suc n)))

-- ---- what may follow

-- where words lead
abbrev pub behind_words : Standing → List Word → Option Standing
behind_words s [] = Some s
behind_words s (x ∷ xs) = elim (behind_token s x) [ None ↦ None | Some u ↦ behind_words u xs ]

abbrev pub closing : List Container → List Word
closing [] = []
closing (c ∷ o) = right_of c ∷ closing o

-- words that make a front whole
abbrev pub finishing : Next → List Container → List Word
finishing Value o = w.Number ∷ closing o
finishing Name o = w.Str ∷ w.Colon ∷ w.Number ∷ closing o
finishing Colon o = w.Colon ∷ w.Number ∷ closing o
finishing _ o = closing o

-- a place where a whole text ends
abbrev pub Whole : Option Standing → Type 0
Whole o = (d : ℕ) × (o ≡ Some (at CommaOrEnd [] d))

closing_leads : (o : List Container) (d : ℕ) → Whole (behind_words (at CommaOrEnd o d) (closing o))
closing_leads [] d = (d, refl)
closing_leads (Array ∷ o) d = closing_leads o (d - 1)
closing_leads (Object ∷ o) d = closing_leads o (d - 2)

value_leads : (o : List Container) (d : ℕ) → d ≤ 499 → behind_token (at Value o d) w.Number ≡ Some (at CommaOrEnd o d)
value_leads o d le = value_here false o d w.Number _ le refl (λ n. absurd cc)

finishing_leads : (n : Next) (o : List Container) (d : ℕ) → Fits n o d → Whole (behind_words (at n o d) (finishing n o))
finishing_leads Value o d f = rw (behind_words, value_leads o d f) (closing_leads o d)
finishing_leads Name o d f = rw (behind_words, name_here false o d f, value_leads o d f) (closing_leads o d)
finishing_leads Colon o d f = rw (behind_words, value_leads o d f) (closing_leads o d)
finishing_leads ItemOrEnd [] d f = absurd f
finishing_leads ItemOrEnd (Array ∷ o) d f = closing_leads o (d - 1)
finishing_leads ItemOrEnd (Object ∷ o) d f = absurd f
finishing_leads NameOrEnd [] d f = absurd f
finishing_leads NameOrEnd (Array ∷ o) d f = absurd f
finishing_leads NameOrEnd (Object ∷ o) d f = closing_leads o (d - 2)
finishing_leads CommaOrEnd o d f = closing_leads o d

pub can_finish : (s : Standing) → Good s → Whole (behind_words s (finishing s.next s.around))
can_finish s g = finishing_leads s.next s.around s.depth g.fits
