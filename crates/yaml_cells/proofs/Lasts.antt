-- The last of some lines.
use Rattle.std.proofs.Common.{◌≡◌, ℕ, suc, ◌+◌, ◌-◌, ◌<◌, ◌≤◌, Bool, true, false, eqb, List, [], ◌∷◌, length, take, drop, refl, ap, arith, length-drop}
use Rattle.std.specs.Borrow.{Bor}
use Rattle.std.specs.Prelude.{◌&&◌}
use Rattle.std.proofs.lemmas.List.{take-map}
use Rattle.yaml_lines.specs.Body.{texts}
use Rattle.yaml_cells.specs.Word.{is_empty, word, word_of, kept_len}

same : (m n : ℕ) → 0 ≡ m - n → n ≤ m → eqb m n ≡ true
same m n e h = grind arith

other : (m n k : ℕ) → suc k ≡ m - n → eqb m n ≡ false
other m n k e = grind arith

by_rest : (m n : ℕ) (rest : List (Bor (List ℕ))) → length rest ≡ m - n → n ≤ m → eqb m n ≡ is_empty (texts rest)
by_rest m n [] e h = same m n e h
by_rest m n (x ∷ xs) e h = other m n (length xs) e

pub last_is : (lines : List (Bor (List ℕ))) (at : ℕ) → at < length lines → eqb (length lines) (at + 1) ≡ is_empty (texts (drop (at + 1) lines))
last_is lines at h = by_rest (length lines) (at + 1) (drop (at + 1) lines) (length-drop (at + 1) lines) (omega arith)

length-texts : (all : List (Bor (List ℕ))) → length (texts all) ≡ length all
length-texts [] = refl
length-texts (l ∷ ls) = ap suc (length-texts ls)

front : (n : ℕ) → n + 1 ≡ 1 + n
front n = omega arith

pub word_is : (closed end : Bool) (lines more : List (Bor (List ℕ))) (first : Bor (List ℕ)) (len : ℕ) → lines ≡ first ∷ more → len ≡ kept_len (texts more) → end ≡ (closed && (eqb len (length more))) → word_of end (texts (take (len + 1) lines)) ≡ word closed (texts lines)
word_is closed end lines more first len e k f =
    rw (e, f, k, front (kept_len (texts more)), ← (length-texts more), ← (take-map (λ (l : Bor (List ℕ)). l.now) (1 + kept_len (texts more)) (first ∷ more))) refl
