-- Texts filled in from one place to the next.
use Rattle.std.proofs.Common.{◌≡◌, ◌≢◌, ℕ, zero, suc, ◌+◌, ◌-◌, ◌<◌, ◌≤◌, List, [], ◌∷◌, ◌++◌, length, take, drop, get_or, refl, sym, ap, ◌∙◌, subst, Bool, true, false, cond, eqb, arith, append_assoc, length-drop}
use Rattle.std.specs.Prelude.{All, Some, ◌||◌}
use Rattle.std.specs.Ordering.{is_eq}
use Rattle.std.specs.Str.{IsUtf8, IsCharBoundary}
use Rattle.std.proofs.lemmas.Str.{IsCharBoundary-after_ascii}
use Rattle.std.proofs.lemmas.List.Elements.{All-head, All-tail}
use Rattle.std.proofs.lemmas.Bool.Decides.{nat_tests}
use Rattle.std.proofs.lemmas.Grind.{common_steps}
use Rattle.meta_bind.specs.declared.bound.Bound.{Bound}
use Rattle.meta_bind.specs.Bounds.{name_cmp, bound_at}
use Rattle.meta_bind.proofs.Joins.{slice_rest}
use Rattle.meta_bind.specs.Fills.{is_head, is_part, part_size, word_size, mark_size, named, name_size, value_of, filled_behind, filled}

head_ascii : (c : ℕ) → is_head c ≡ true → c < 128
head_ascii c e = grind (arith, nat_tests)

part_ascii : (c : ℕ) → is_part c ≡ true → c < 128
part_ascii c e = grind (arith, nat_tests)

part_last : (cs : List ℕ) (k : ℕ) → k < part_size cs → get_or cs k 0 < 128
part_last [] k lt = absurd (omega arith)
part_last (c ∷ cs) k lt = at (is_part c) refl k lt (λ j h. part_last cs j h)
  where
    at : (t : Bool) → is_part c ≡ t → (i : ℕ) → i < cond t (suc (part_size cs)) 0 → ((j : ℕ) → j < part_size cs → get_or cs j 0 < 128) → get_or (c ∷ cs) i 0 < 128
    at true e zero h later = part_ascii c e
    at true e (suc i) h later = later i (omega arith)
    at false e i h later = absurd (omega arith)

word_last : (cs : List ℕ) (k : ℕ) → k < word_size cs → get_or cs k 0 < 128
word_last [] k lt = absurd (omega arith)
word_last (c ∷ cs) k lt = at (is_head c) refl k lt
  where
    at : (t : Bool) → is_head c ≡ t → (i : ℕ) → i < cond t (suc (part_size cs)) 0 → get_or (c ∷ cs) i 0 < 128
    at true e zero h = head_ascii c e
    at true e (suc i) h = part_last cs i (omega arith)
    at false e i h = absurd (omega arith)

named_none : (m : ℕ) → named m 0 ≡ 0
named_none m = at (eqb m 0)
  where
    at : (t : Bool) → cond (t || eqb 0 0) 0 (m + 0) ≡ 0
    at true = refl
    at false = refl

named_some : (m w : ℕ) → named (suc m) (suc w) ≡ suc m + suc w
named_some m w = at (eqb (suc m) 0) refl (eqb (suc w) 0) refl
  where
    at : (s : Bool) → eqb (suc m) 0 ≡ s → (t : Bool) → eqb (suc w) 0 ≡ t → cond (s || t) 0 (suc m + suc w) ≡ suc m + suc w
    at true e t f = absurd (let h : suc m ≡ 0 = grind (arith, nat_tests) in omega (arith, h))
    at false e true f = absurd (let h : suc w ≡ 0 = grind (arith, nat_tests) in omega (arith, h))
    at false e false f = refl

-- a name's mark and word, of which it is made
named_parts : (m w n : ℕ) → named m w ≡ suc n → (m + w ≡ suc n) × (0 < w)
named_parts zero w n e = absurd (let f : 0 ≡ suc n = e in omega (arith, f))
named_parts (suc m) zero n e = absurd (let f : 0 ≡ suc n = sym (named_none (suc m)) ∙ e in omega (arith, f))
named_parts (suc m) (suc w) n e = (sym (named_some m w) ∙ e, omega arith)

pub no_mark : (t : List ℕ) → mark_size t ≡ 0 → 0 ≡ name_size t
unfolding name_size
no_mark t e = sym (ap (λ m. named m (word_size (drop m t))) e)

pub no_word : (t : List ℕ) → word_size (drop (mark_size t) t) ≡ 0 → 0 ≡ name_size t
unfolding name_size
no_word t e = sym (ap (named (mark_size t)) e ∙ named_none (mark_size t))

pub is_name : (t : List ℕ) (m w : ℕ) → m ≡ mark_size t → w ≡ word_size (drop (mark_size t) t) → (m ≡ 0 → ⊥) → (w ≡ 0 → ⊥) → m + w ≡ name_size t
unfolding name_size
is_name t zero w e f p q = absurd (p refl)
is_name t (suc m) zero e f p q = absurd (q refl)
is_name t (suc m) (suc w) e f p q = sym (named_some m w) ∙ ap (λ k. named k (suc w)) e ∙ ap (named (mark_size t)) f

dropped_at : (t : List ℕ) (m k : ℕ) → get_or (drop m t) k 0 ≡ get_or t (m + k) 0
dropped_at t m k = grind (arith, common_steps)

-- the last byte of a name is below 128
pub name_last : (t : List ℕ) (n : ℕ) → name_size t ≡ suc n → get_or t n 0 < 128
unfolding name_size
name_last t n e =
    let m = mark_size t in
    let w = word_size (drop m t) in
    let p = named_parts m w n e in
    let P : ℕ → Type 0 = λ i. get_or t i 0 < 128 in
    let Q : ℕ → Type 0 = λ i. i < 128 in
    let here : m + (w - 1) ≡ n = omega (arith, p.0, p.1) in
    subst P here (subst Q (dropped_at t m (w - 1)) (word_last (drop m t) (w - 1) (omega (arith, p.1))))

-- no name begins with another byte than `$`
no_name : (c : ℕ) (cs : List ℕ) → (c ≡ 36 → ⊥) → name_size (c ∷ cs) ≡ 0
unfolding name_size
no_name c cs other = let mark : mark_size (c ∷ cs) ≡ 0 = at (eqb c 36) refl _ in ap (λ m. named m (word_size (drop m (c ∷ cs)))) mark
  where
    at : (t : Bool) → eqb c 36 ≡ t → (u : ℕ) → cond t u 0 ≡ 0
    at true e u = absurd (other (grind (arith, nat_tests)))
    at false e u = refl

module _ (binding : List Bound) (bytes : List ℕ) where
  abbrev behind : ℕ → List ℕ → List ℕ
  behind n t = filled_behind binding bytes n t

  abbrev value : List ℕ → List ℕ
  value name = value_of binding bytes name

  behind_name : (n : ℕ) (t : List ℕ) → behind n t ≡ behind 0 (drop n t)
  behind_name zero [] = refl
  behind_name (suc n) [] = refl
  behind_name zero (c ∷ cs) = refl
  behind_name (suc n) (c ∷ cs) = behind_name n cs

  plain_step : (c : ℕ) (cs : List ℕ) → name_size (c ∷ cs) ≡ 0 → behind 0 (c ∷ cs) ≡ c ∷ behind 0 cs
  plain_step c cs e = ap (λ (size : ℕ). elim size as (λ _. List ℕ) [ zero ↦ c ∷ behind 0 cs | suc n ↦ value (take (suc n) (c ∷ cs)) ++ behind n cs ]) e

  name_step : (c : ℕ) (cs : List ℕ) (n : ℕ) → name_size (c ∷ cs) ≡ suc n → behind 0 (c ∷ cs) ≡ value (take (suc n) (c ∷ cs)) ++ behind n cs
  name_step c cs n e = ap (λ (size : ℕ). elim size as (λ _. List ℕ) [ zero ↦ c ∷ behind 0 cs | suc n ↦ value (take (suc n) (c ∷ cs)) ++ behind n cs ]) e

  -- a name at the front is replaced
  pub filled_name : (t : List ℕ) (n : ℕ) → name_size t ≡ n → 0 < n → 0 < length t → filled binding bytes t ≡ value (take n t) ++ filled binding bytes (drop n t)
  filled_name [] n e lt some = absurd (omega arith)
  filled_name (c ∷ cs) zero e lt some = absurd (omega arith)
  filled_name (c ∷ cs) (suc n) e lt some = name_step c cs n e ∙ ap (λ (xs : List ℕ). value (take (suc n) (c ∷ cs)) ++ xs) (behind_name n cs)

  run : (t : List ℕ) (n : ℕ) → n ≤ length t → ((k : ℕ) → k < n → get_or t k 0 ≡ 36 → ⊥) → behind 0 t ≡ take n t ++ behind 0 (drop n t)
  run t zero le other = refl
  run [] (suc n) le other = absurd (omega arith)
  run (c ∷ cs) (suc n) le other =
      plain_step c cs (no_name c cs (other 0 (omega arith))) ∙ ap (λ (xs : List ℕ). c ∷ xs) (run cs n (omega arith) (λ k lt. other (suc k) (omega arith)))

  -- without a name at the front the text stays as far as no `$` follows
  pub filled_plain : (t : List ℕ) (n : ℕ) → name_size t ≡ 0 → 0 < n → n ≤ length t → ((k : ℕ) → 1 ≤ k → k < n → get_or t k 0 ≡ 36 → ⊥) → filled binding bytes t ≡ take n t ++ filled binding bytes (drop n t)
  filled_plain t zero e lt le other = absurd (omega arith)
  filled_plain [] (suc n) e lt le other = absurd (omega arith)
  filled_plain (c ∷ cs) (suc n) e lt le other =
      plain_step c cs e ∙ ap (λ (xs : List ℕ). c ∷ xs) (run cs n (omega arith) (λ k lt. other (suc k) (omega arith) (omega arith)))

  further : (t : List ℕ) (m n : ℕ) → drop n (drop m t) ≡ drop (m + n) t
  further t m n = grind (arith, common_steps)

  moved : (old piece new rest all : List ℕ) → new ≡ old ++ piece → all ≡ piece ++ rest → new ++ rest ≡ old ++ all
  moved old piece new rest all e f = ap (λ (xs : List ℕ). xs ++ rest) e ∙ append_assoc old piece rest ∙ ap (λ (xs : List ℕ). old ++ xs) (sym f)

  -- from one place to the next, where no name begins
  pub plain_moves : (t : List ℕ) (at end : ℕ) (old new : List ℕ) → name_size (take (length t - at) (drop at t)) ≡ 0 → at < end → end ≤ length t → ((k : ℕ) → at + 1 ≤ k → k < end → get_or t k 0 ≡ 36 → ⊥)
      → new ≡ old ++ take (end - at) (drop at t) → new ++ filled binding bytes (drop end t) ≡ old ++ filled binding bytes (drop at t)
  plain_moves t at end old new none lt le other e =
      let n = end - at in
      let P : ℕ → Type 0 = λ i. drop n (drop at t) ≡ drop i t in
      let here : at + n ≡ end = omega arith in
      let rest : drop n (drop at t) ≡ drop end t = subst P here (further t at n) in
      let none' : name_size (drop at t) ≡ 0 = sym (ap name_size (slice_rest t at)) ∙ none in
      let whole = filled_plain (drop at t) n none' (omega arith) (omega (arith, length-drop at t)) (λ k ge lt' is. other (at + k) (omega arith) (omega (arith, here)) (sym (dropped_at t at k) ∙ is)) in
      moved old (take n (drop at t)) new (filled binding bytes (drop end t)) (filled binding bytes (drop at t)) e (whole ∙ ap (λ (xs : List ℕ). take n (drop at t) ++ filled binding bytes xs) rest)

  -- the same past a name
  pub name_moves : (t : List ℕ) (at size : ℕ) (old new : List ℕ) → size ≡ name_size (take (length t - at) (drop at t)) → (size ≡ 0 → ⊥) → at < length t
      → new ≡ old ++ value (take (at + size - at) (drop at t)) → new ++ filled binding bytes (drop (at + size) t) ≡ old ++ filled binding bytes (drop at t)
  name_moves t at size old new is some lt e =
      let is' : name_size (drop at t) ≡ size = sym (ap name_size (slice_rest t at)) ∙ sym is in
      let whole = filled_name (drop at t) size is' (omega (arith, some)) (omega (arith, length-drop at t)) in
      let e' : new ≡ old ++ value (take size (drop at t)) = e ∙ ap (λ n. old ++ value (take n (drop at t))) (omega arith) in
      moved old (value (take size (drop at t))) new (filled binding bytes (drop (at + size) t)) (filled binding bytes (drop at t)) e'
      (whole ∙ ap (λ (xs : List ℕ). value (take size (drop at t)) ++ filled binding bytes xs) (further t at size))

-- a name cuts no character
pub name_ends : (t : List ℕ) (at size : ℕ) → IsUtf8 t → size ≡ name_size (take (length t - at) (drop at t)) → (size ≡ 0 → ⊥) → at + size ≤ length t → IsCharBoundary t (at + size)
name_ends t at zero utf8 is some le = absurd (some refl)
name_ends t at (suc n) utf8 is some le =
    let last = name_last (drop at t) n (sym (ap name_size (slice_rest t at)) ∙ sym is) in
    let P : ℕ → Type 0 = λ c. c < 128 in
    let Q : ℕ → Type 0 = λ i. IsCharBoundary t i in
    subst Q (omega arith) (IsCharBoundary-after_ascii t (at + n) utf8 (omega arith) (subst P (dropped_at t at n) last))

-- what holds of each bound holds of the one of a name
pub found_has : (P : Bound → Type 0) (name : List ℕ) (bs : List Bound) (b : Bound) → bound_at name bs ≡ Some b → All P bs → P b
found_has P name [] b e all = absurd cc
found_has P name (c ∷ cs) b e all = at (is_eq (name_cmp c.name name)) e (found_has P name cs b)
  where
    at : (t : Bool) → cond t (Some c) (bound_at name cs) ≡ Some b → (bound_at name cs ≡ Some b → All P cs → P b) → P b
    at true f later = let g : c ≡ b = cc in subst P g (All-head P c cs all)
    at false f later = later f (All-tail P c cs all)
