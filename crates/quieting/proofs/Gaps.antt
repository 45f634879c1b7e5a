-- How far gaps and words go, and that neither cuts a character.
use Rattle.std.proofs.Common.{◌≡◌, inl, inr, ℕ, zero, suc, ◌+◌, ◌-◌, ◌<◌, ◌≤◌, Bool, true, false, cond, List, [], ◌∷◌, length, take, drop, drop-cons, get_or, refl, sym, ap, ◌∙◌, subst, arith, eqb, leb}
use Rattle.std.specs.Prelude.{◌&&◌}
use Rattle.std.specs.Str.{IsUtf8, IsCharBoundary}
use Rattle.std.proofs.lemmas.Bool.{cases_lt}
use Rattle.std.proofs.lemmas.Bool.Decides.{nat_tests}
use Rattle.std.proofs.lemmas.List.{take_rest}
use Rattle.std.proofs.lemmas.Str.{IsCharBoundary-after_ascii, IsCharBoundary-start}
use Rattle.std.proofs.Math.ListN.{get_or-eq_default}
use Rattle.std.specs.List.{prefix_len}
use Rattle.quieting.specs.Words.{begins_gap, gap_len, word_len}
use Rattle.quieting.specs.Comments.{is_block, is_blank}

-- ---- one byte after the other

next_byte : (t : List ℕ) (at : ℕ) → at < length t → drop at t ≡ get_or t at 0 ∷ drop (at + 1) t
next_byte t at lt = let on : suc at ≡ at + 1 = omega arith in drop-cons t at 0 lt ∙ ap (λ k. get_or t at 0 ∷ drop k t) on

gap_none : (t : List ℕ) → begins_gap t ≡ false → gap_len t ≡ 0
gap_none [] e = refl
gap_none (b ∷ bs) e = ap (λ v. cond v (suc (gap_len bs)) 0) e

gap_more : (b : ℕ) (bs : List ℕ) → begins_gap (b ∷ bs) ≡ true → gap_len (b ∷ bs) ≡ suc (gap_len bs)
gap_more b bs e = ap (λ v. cond v (suc (gap_len bs)) 0) e

pub gap_stops : (t : List ℕ) (at : ℕ) → begins_gap (take (length t - at) (drop at t)) ≡ false → gap_len t ≡ at + gap_len (drop at t) → gap_len t ≡ at
gap_stops t at e far = let none = gap_none (drop at t) (sym (ap begins_gap (take_rest t at)) ∙ e) in omega (arith, far, none)

pub gap_goes : (t : List ℕ) (at : ℕ) → at < length t → begins_gap (take (length t - at) (drop at t)) ≡ true → gap_len t ≡ at + gap_len (drop at t) → gap_len t ≡ (at + 1) + gap_len (drop (at + 1) t)
gap_goes t at lt e far =
    let here = next_byte t at lt in
    let more = ap gap_len here ∙ gap_more (get_or t at 0) (drop (at + 1) t) (sym (ap begins_gap (take_rest t at ∙ here)) ∙ e) in
    omega (arith, far, more)

word_none : (b : ℕ) (bs : List ℕ) → begins_gap (b ∷ bs) ≡ true → word_len (b ∷ bs) ≡ 0
word_none b bs e = ap (λ v. cond v 0 (suc (word_len bs))) e

word_more : (b : ℕ) (bs : List ℕ) → begins_gap (b ∷ bs) ≡ false → word_len (b ∷ bs) ≡ suc (word_len bs)
word_more b bs e = ap (λ v. cond v 0 (suc (word_len bs))) e

pub word_stops : (t : List ℕ) (at : ℕ) → at < length t → begins_gap (take (length t - at) (drop at t)) ≡ true → word_len t ≡ at + word_len (drop at t) → word_len t ≡ at
word_stops t at lt e far =
    let here = next_byte t at lt in
    let none = ap word_len here ∙ word_none (get_or t at 0) (drop (at + 1) t) (sym (ap begins_gap (take_rest t at ∙ here)) ∙ e) in
    omega (arith, far, none)

pub word_goes : (t : List ℕ) (at : ℕ) → at < length t → begins_gap (take (length t - at) (drop at t)) ≡ false → word_len t ≡ at + word_len (drop at t) → word_len t ≡ (at + 1) + word_len (drop (at + 1) t)
word_goes t at lt e far =
    let here = next_byte t at lt in
    let more = ap word_len here ∙ word_more (get_or t at 0) (drop (at + 1) t) (sym (ap begins_gap (take_rest t at ∙ here)) ∙ e) in
    omega (arith, far, more)

-- ---- no character is cut

gap_byte : (b : ℕ) (bs : List ℕ) → begins_gap (b ∷ bs) ≡ true → b < 128
gap_byte b bs e = grind (arith, nat_tests)

gap_ascii : (t : List ℕ) (k : ℕ) → k < gap_len t → get_or t k 0 < 128
gap_ascii [] k lt = absurd (omega arith)
gap_ascii (b ∷ bs) k lt = at (λ i. gap_ascii bs i) (begins_gap (b ∷ bs)) refl k lt
  where
    at : ((i : ℕ) → i < gap_len bs → get_or bs i 0 < 128) → (v : Bool) → begins_gap (b ∷ bs) ≡ v → (k : ℕ) → k < cond v (suc (gap_len bs)) 0 → get_or (b ∷ bs) k 0 < 128
    at rest true e zero lt = gap_byte b bs e
    at rest true e (suc k) lt = rest k (omega arith)
    at rest false e k lt = absurd (omega arith)

-- behind an ASCII byte a text may be cut
pub behind_ascii : (t : List ℕ) (n : ℕ) → IsUtf8 t → n < length t → get_or t n 0 < 128 → IsCharBoundary t (n + 1)
behind_ascii t n utf8 lt ascii = IsCharBoundary-after_ascii t n utf8 lt ascii

-- before one as well, and at the end
pub before_ascii : (t : List ℕ) (n : ℕ) → n ≤ length t → (n < length t → get_or t n 0 < 128) → IsCharBoundary t n
before_ascii t n le ascii = (le, λ lt big. let small = ascii lt in absurd (omega (arith, small, big)))

ascii_cuts : (t : List ℕ) (n : ℕ) → IsUtf8 t → n ≤ length t → ((k : ℕ) → k < n → get_or t k 0 < 128) → IsCharBoundary t n
ascii_cuts t zero utf8 le small = IsCharBoundary-start t utf8
ascii_cuts t (suc n) utf8 le small = let P : ℕ → Type 0 = λ k. IsCharBoundary t k in subst P (omega arith) (behind_ascii t n utf8 (omega arith) (small n (omega arith)))

-- the same of a copy of the text
pub gap_cuts : (t s : List ℕ) (n : ℕ) → IsUtf8 t → s ≡ t → n ≡ gap_len s → n ≤ length s → IsCharBoundary t n
gap_cuts t s n utf8 same e le =
    let is : n ≡ gap_len t = e ∙ ap gap_len same in
    ascii_cuts t n utf8 (omega (arith, le, ap (length {A = ℕ}) same)) (λ k lt. gap_ascii t k (omega (arith, is, lt)))

blanks_small : (t : List ℕ) (k : ℕ) → k < prefix_len is_blank t → get_or t k 0 < 128
blanks_small [] k lt = absurd (omega arith)
blanks_small (b ∷ bs) k lt = at (λ i. blanks_small bs i) (is_blank b) refl k lt
  where
    at : ((i : ℕ) → i < prefix_len is_blank bs → get_or bs i 0 < 128) → (v : Bool) → is_blank b ≡ v → (k : ℕ) → k < cond v (1 + prefix_len is_blank bs) 0 → get_or (b ∷ bs) k 0 < 128
    at rest true e zero lt = grind (arith, nat_tests)
    at rest true e (suc k) lt = rest k (omega arith)
    at rest false e k lt = absurd (omega arith)

pub blanks_cut : (t s : List ℕ) (n : ℕ) → IsUtf8 t → s ≡ t → n ≡ prefix_len is_blank s → n ≤ length s → IsCharBoundary t n
blanks_cut t s n utf8 same e le =
    let is : n ≡ prefix_len is_blank t = e ∙ ap (prefix_len is_blank) same in
    ascii_cuts t n utf8 (omega (arith, le, ap (length {A = ℕ}) same)) (λ k lt. blanks_small t k (omega (arith, is, lt)))

word_ascii : (t : List ℕ) → word_len t < length t → get_or t (word_len t) 0 < 128
word_ascii [] lt = absurd (omega arith)
word_ascii (b ∷ bs) lt = at (word_ascii bs) (begins_gap (b ∷ bs)) refl lt
  where
    at : (word_len bs < length bs → get_or bs (word_len bs) 0 < 128) → (v : Bool) → begins_gap (b ∷ bs) ≡ v → cond v 0 (suc (word_len bs)) < length (b ∷ bs) → get_or (b ∷ bs) (cond v 0 (suc (word_len bs))) 0 < 128
    at rest true e lt = gap_byte b bs e
    at rest false e lt = rest (omega arith)

pub word_cuts : (t s : List ℕ) (n : ℕ) → s ≡ t → n ≡ word_len s → n ≤ length s → IsCharBoundary t n
word_cuts t s n same e le =
    let is : word_len t ≡ n = sym (e ∙ ap word_len same) in
    let P : ℕ → Type 0 = λ k. k < length t → get_or t k 0 < 128 in
    before_ascii t n (omega (arith, le, ap (length {A = ℕ}) same)) (subst P is (word_ascii t))

-- a byte that is there
is_there : (t : List ℕ) (n : ℕ) → 0 < get_or t n 0 → n < length t
is_there t n some = elim (cases_lt n (length t)) [ inl lt ↦ lt | inr le ↦ absurd (let none = get_or-eq_default t 0 le in omega (arith, none, some)) ]

-- behind a mark
pub mark_cuts : (t s : List ℕ) (n byte : ℕ) → IsUtf8 t → s ≡ t → get_or s n 0 ≡ byte → 0 < byte → byte < 128 → IsCharBoundary t (n + 1)
mark_cuts t s n byte utf8 same is some small =
    let here : get_or t n 0 ≡ byte = ap (λ xs. get_or xs n 0) (sym same) ∙ is in
    behind_ascii t n utf8 (is_there t n (omega (arith, here, some))) (omega (arith, here, small))

and_left : (a b : Bool) → a && b ≡ true → a ≡ true
and_left true b e = refl
and_left false b e = e

and_right : (a b : Bool) → a && b ≡ true → b ≡ true
and_right true b e = e
and_right false b e = absurd cc

-- a comment from `/*` to `*/` has a star in its second place
pub block_star : (t : List ℕ) → is_block t ≡ true → get_or t 1 0 ≡ 42
block_star t e =
    let slash = eqb (get_or t 0 0) 47 in
    let star = eqb (get_or t 1 0) 42 in
    let long = leb 4 (length t) in
    let end = eqb (get_or t (length t - 2) 0) 42 in
    let second : star ≡ true = and_right slash star (and_left (slash && star) long (and_left (slash && star && long) end e)) in
    grind (arith, nat_tests)
