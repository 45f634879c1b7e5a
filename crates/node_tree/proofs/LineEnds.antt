-- Where the lines of a text end, piece by piece.
use Rattle.std.proofs.Common.{◌≡◌, ℕ, zero, suc, ◌+◌, ◌-◌, ◌*◌, ◌/◌, ◌<◌, ◌≤◌, Bool, true, false, not, cond, eqb, List, [], ◌∷◌, ◌++◌, length, take, drop, get_or, count_by, length-append, append-nil, add-one, zero-add, refl, sym, ap, ◌∙◌, subst, arith, inl, inr}
use Rattle.std.specs.Prelude.{Option, None, Some, reverse}
use Rattle.std.specs.List.{suffix_len, prefix_len}
use Rattle.std.proofs.lemmas.Bool.{cases_Bool, cond-true, cond-false, eq-eqb, false≢true, eqb-true}
use Rattle.std.proofs.lemmas.List.{take_all, length-take-le, reverse-append, length-reverse}
use Rattle.std.proofs.lemmas.List.Folds.{prefix_len-append}
use Rattle.std.proofs.lemmas.List.Recursion.{is_count_by}
use Rattle.std.proofs.lemmas.List.Sums.{count_by_more_yes, count_by_more_no, suffix_len_is, count_by-le-length, suffix_len-le-length}
use Rattle.memchr.specs.Find.{places, places_from, IsLastByte}
use Rattle.memchr.proofs.lemmas.PlaceLemmas.{places_from-append}
use Rattle.node_tree.specs.declared.mark.Mark.{Mark}
use Rattle.node_tree.specs.Places.{ends_line, place_of}
use Rattle.node_tree.specs.Marks.{mark_of, AreMarks}

abbrev goes_on : ℕ → Bool
goes_on byte = not (ends_line byte)

-- ---- lines

-- the line ends of a text, counted from its first byte on
abbrev ends : List ℕ → ℕ
ends [] = 0
ends (x ∷ xs) = cond (ends_line x) (1 + ends xs) (ends xs)

ends_are : (xs : List ℕ) → ends xs ≡ count_by ends_line xs
ends_are = is_count_by ends ends_line refl (λ x xs. refl)

one_end : (b : Bool) (n m k : ℕ) → k ≡ n + m → cond b (1 + k) k ≡ cond b (1 + n) n + m
one_end true n m k e = omega (arith, e)
one_end false n m k e = e

ends_append : (xs ys : List ℕ) → ends (xs ++ ys) ≡ ends xs + ends ys
ends_append [] ys = sym (zero-add (ends ys))
ends_append (x ∷ xs) ys = one_end (ends_line x) (ends xs) (ends ys) (ends (xs ++ ys)) (ends_append xs ys)

lines_append : (xs ys : List ℕ) → count_by ends_line (xs ++ ys) ≡ count_by ends_line xs + count_by ends_line ys
lines_append xs ys = omega (arith, ends_are (xs ++ ys), ends_are xs, ends_are ys, ends_append xs ys)

module _ (text : List ℕ) where
  -- one byte more
  step : (n : ℕ) → places_from ends_line text 0 (n + 1) ≡ places_from ends_line text 0 n ++ cond (ends_line (get_or text n 0)) (n ∷ []) []
  unfolding places_from
  step n = places_from-append ends_line text 0 n 1 ∙ ap (λ k. places_from ends_line text 0 n ++ places_from ends_line text k 1) (zero-add n)

  none_yet : places_from ends_line text 0 0 ≡ []
  unfolding places_from
  none_yet = refl

  counted : (n : ℕ) → n ≤ length text → length (places_from ends_line text 0 n) ≡ count_by ends_line (take n text)
  counted zero le = ap length none_yet
  counted (suc n) le =
      let so_far = counted n (omega arith) in
      rw (← add-one n) (elim (cases_Bool (ends_line (get_or text n 0))) [
        | inl ended ↦ ap length (step n ∙ ap (λ l. places_from ends_line text 0 n ++ l) (cond-true _ _ _ ended)) ∙ length-append _ (n ∷ []) ∙ ap (λ k. k + 1) so_far ∙ sym (count_by_more_yes ends_line text n 0 (omega arith) ended)
        | inr on ↦ ap length (step n ∙ ap (λ l. places_from ends_line text 0 n ++ l) (cond-false _ _ _ on) ∙ append-nil _) ∙ so_far ∙ sym (count_by_more_no ends_line text n 0 (omega arith) on)
      ])

  all_counted : length (places ends_line text) ≡ count_by ends_line text
  all_counted =
      let whole : length text - 0 ≡ length text = omega arith in
      ap (λ n. length (places_from ends_line text 0 n)) whole ∙ counted (length text) (omega arith) ∙ ap (count_by ends_line) (take_all (length text) text (omega arith))

-- the lines that end in a front and in a piece behind it
pub lines_more : (front piece : List ℕ) (lines found : ℕ) → lines ≡ count_by ends_line front → found ≡ length (places ends_line piece) → lines + found ≡ count_by ends_line (front ++ piece)
lines_more front piece lines found e f = omega (arith, e, f, all_counted piece, lines_append front piece)

-- ---- bytes of a line

bytes_append : (xs ys : List ℕ) → suffix_len goes_on (xs ++ ys) ≡ cond (eqb (suffix_len goes_on ys) (length ys)) (length ys + suffix_len goes_on xs) (suffix_len goes_on ys)
bytes_append xs ys =
    ap (prefix_len goes_on) (reverse-append xs ys) ∙ prefix_len-append goes_on (reverse ys) (reverse xs)
    ∙ ap (λ (n : ℕ). cond (eqb (suffix_len goes_on ys) n) (n + suffix_len goes_on xs) (suffix_len goes_on ys)) (length-reverse ys)

on_or_off : (b : Bool) → (b ≡ true → ⊥) → not b ≡ true
on_or_off true h = absurd (h refl)
on_or_off false h = refl

-- no line ends in the piece
pub bytes_on : (front piece : List ℕ) (found : Option ℕ) → IsLastByte ends_line piece found → found ≡ None → suffix_len goes_on (front ++ piece) ≡ suffix_len goes_on front + length piece
bytes_on front piece found h e =
    let P : Option ℕ → Type 0 = λ o. IsLastByte ends_line piece o in
    let nowhere = subst P e h in
    let all : suffix_len goes_on piece ≡ length piece - 0 = suffix_len_is goes_on piece 0 0 (omega arith) (λ k le lt. on_or_off _ (nowhere k le lt)) (λ lt. absurd (omega (arith, lt))) in
    let same : suffix_len goes_on piece ≡ length piece = omega (arith, all) in
    let turned : length piece + suffix_len goes_on front ≡ suffix_len goes_on front + length piece = omega arith in
    bytes_append front piece ∙ cond-true _ _ _ (eq-eqb (suffix_len goes_on piece) (length piece) same) ∙ turned

-- the last end in the piece
pub bytes_after : (front piece : List ℕ) (found : Option ℕ) (last : ℕ) → IsLastByte ends_line piece found → found ≡ Some last → suffix_len goes_on (front ++ piece) ≡ length piece - last - 1
bytes_after front piece found last h e =
    let P : Option ℕ → Type 0 = λ o. IsLastByte ends_line piece o in
    let there = subst P e h in
    let lt : last < length piece = there.0.high in
    let end : last + 1 - 1 ≡ last = omega arith in
    let rest : suffix_len goes_on piece ≡ length piece - (last + 1) = suffix_len_is goes_on piece (last + 1) 0 (omega (arith, lt)) (λ k le lt'. on_or_off _ (there.0.after k le lt')) (λ _. rw end (ap not there.1)) in
    let shorter : suffix_len goes_on piece ≡ length piece - last - 1 = omega (arith, rest) in
    bytes_append front piece ∙ elim (cases_Bool (eqb (suffix_len goes_on piece) (length piece))) [
      | inl same ↦ absurd (omega (arith, eqb-true _ _ same, rest, lt))
      | inr less ↦ cond-false _ _ _ less ∙ shorter
    ]

-- ---- marks

pub mark_is : (lines bytes : ℕ) (front : List ℕ) → lines ≡ count_by ends_line front → bytes ≡ suffix_len goes_on front → record { lines = lines; bytes = bytes } ≡ mark_of front
mark_is lines bytes front e f = ap (λ (n : ℕ). record { lines = n; bytes = bytes }) e ∙ ap (λ (n : ℕ). record { lines = count_by ends_line front; bytes = n }) f

further : (at n : ℕ) → at + 1024 + 1024 * n ≡ at + 1024 * suc n
further at n = omega arith

pub one_more : (text : List ℕ) (at : ℕ) (ms : List Mark) (m : Mark) → AreMarks text at ms → m ≡ mark_of (take (at + 1024 * length ms) text) → AreMarks text at (ms ++ m ∷ [])
one_more text at [] m h e = let here : at + 1024 * 0 ≡ at = omega arith in (e ∙ ap (λ (n : ℕ). mark_of (take n text)) here, tt)
one_more text at (x ∷ xs) m h e = (h.0, one_more text (at + 1024) xs m h.1 (e ∙ ap (λ (n : ℕ). mark_of (take n text)) (sym (further at (length xs)))))

pub mark_at : (text : List ℕ) (at : ℕ) (ms : List Mark) (i : ℕ) (d : Mark) → AreMarks text at ms → i < length ms → get_or ms i d ≡ mark_of (take (at + 1024 * i) text)
mark_at text at [] i d h lt = absurd (omega arith)
mark_at text at (m ∷ ms) zero d h lt = let here : at ≡ at + 1024 * 0 = omega arith in h.0 ∙ ap (λ (n : ℕ). mark_of (take n text)) here
mark_at text at (m ∷ ms) (suc i) d h lt = mark_at text (at + 1024) ms i d h.1 (omega arith) ∙ ap (λ (n : ℕ). mark_of (take n text)) (further at i)

-- a front, and the piece behind it
pub front_more : (n m k : ℕ) (xs : List ℕ) → k ≡ n + m → take n xs ++ take m (drop n xs) ≡ take k xs
front_more zero m k xs e = ap (λ (i : ℕ). take i xs) (omega (arith, e))
front_more (suc n) m zero xs e = absurd (omega (arith, e))
front_more (suc n) zero (suc k) [] e = refl
front_more (suc n) (suc m) (suc k) [] e = refl
front_more (suc n) m (suc k) (x ∷ xs) e = ap (λ (ys : List ℕ). x ∷ ys) (front_more n m k xs (omega (arith, e)))

-- ---- places

-- the mark before a place
pub mark_before : (text : List ℕ) (marks : List Mark) (at : ℕ) (before : Mark) → AreMarks text 0 marks → length text < 1024 * length marks → at ≤ length text → before ≡ get_or marks (at / 1024) before → before ≡ mark_of (take (at / 1024 * 1024) text)
mark_before text marks at before are many le is =
    let here : 0 + 1024 * (at / 1024) ≡ at / 1024 * 1024 = omega arith in
    is ∙ mark_at text 0 marks (at / 1024) before are (omega arith) ∙ ap (λ (n : ℕ). mark_of (take n text)) here

-- no more lines and bytes than what was read
pub lines_fit : (text : List ℕ) (at : ℕ) (m : Mark) → m ≡ mark_of (take at text) → at ≤ length text → m.lines ≤ at
lines_fit text at m e le = omega (arith, ap (λ (x : Mark). x.lines) e, count_by-le-length ends_line (take at text), length-take-le at text le)

pub bytes_fit : (text : List ℕ) (at : ℕ) (m : Mark) → m ≡ mark_of (take at text) → at ≤ length text → m.bytes ≤ at
bytes_fit text at m e le = omega (arith, ap (λ (x : Mark). x.bytes) e, suffix_len-le-length goes_on (take at text), length-take-le at text le)

pub piece_length : (n m : ℕ) (text : List ℕ) → length (take m (drop n text)) ≤ m
piece_length n m text = length-take-most m (drop n text)
  where
    length-take-most : (k : ℕ) (xs : List ℕ) → length (take k xs) ≤ k
    length-take-most zero xs = omega arith
    length-take-most (suc k) [] = omega arith
    length-take-most (suc k) (x ∷ xs) = omega (arith, length-take-most k xs)

pub mark_place : (text : List ℕ) (at : ℕ) (m : Mark) → m ≡ mark_of (take at text) → record { line = m.lines + 1; col = m.bytes + 1; offset = at } ≡ place_of text at
mark_place text at m e = ap (λ (x : Mark). record { line = x.lines + 1; col = x.bytes + 1; offset = at }) e

-- the piece before a place, behind a mark
pub piece_fits : (text : List ℕ) (at : ℕ) (m : Mark) → m ≡ mark_of (take (at / 1024 * 1024) text) → at ≤ length text → length text ≤ 1000000
    → (m.lines + length (take (at - at / 1024 * 1024) (drop (at / 1024 * 1024) text)) ≤ 1000000) × (m.bytes + length (take (at - at / 1024 * 1024) (drop (at / 1024 * 1024) text)) ≤ 1000000)
piece_fits text at m e le small =
    let start : ℕ = at / 1024 * 1024 in
    let low : start ≤ at = omega arith in
    let long = piece_length start (at - start) text in
    (omega (arith, lines_fit text start m e (omega (arith, low, le)), long, low, le, small), omega (arith, bytes_fit text start m e (omega (arith, low, le)), long, low, le, small))

pub mark_after : (text : List ℕ) (at : ℕ) (m n : Mark) → m ≡ mark_of (take (at / 1024 * 1024) text)
    → ((front : List ℕ) → m ≡ mark_of front → n ≡ mark_of (front ++ take (at - at / 1024 * 1024) (drop (at / 1024 * 1024) text))) → n ≡ mark_of (take at text)
mark_after text at m n e after = after (take (at / 1024 * 1024) text) e ∙ ap mark_of (front_more (at / 1024 * 1024) (at - at / 1024 * 1024) at text (omega arith))

-- one mark more is kept
pub pushed : (text : List ℕ) (old new : List Mark) (m : Mark) (from : ℕ) → new ≡ old ++ m ∷ [] → from ≡ 1024 * length old → AreMarks text 0 old → m ≡ mark_of (take from text) → (length new ≡ length old + 1) × AreMarks text 0 new
pushed text old new m from e f are is =
    let here : from ≡ 0 + 1024 * length old = omega (arith, f) in
    let P : List Mark → Type 0 = λ ms. AreMarks text 0 ms in
    (ap length e ∙ length-append old (m ∷ []), subst P (sym e) (one_more text 0 old m are (is ∙ ap (λ (n : ℕ). mark_of (take n text)) here)))
