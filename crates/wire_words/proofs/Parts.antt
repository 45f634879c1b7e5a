-- The words around the options.
use Rattle.std.proofs.Common.{◌≡◌, ℕ, zero, suc, ◌==◌, Bool, true, false, not, ◌&&◌, eqb, List, [], ◌∷◌, ◌++◌, map, length, get_or, ◌<◌, ◌≤◌, arith, eq-eqb, sym, ap, ◌∙◌, refl, Option, None, Some}
use Rattle.std.specs.Prelude.{IfNone}
use lib.Pointwise.{pointwise}
use Rattle.std.specs.Str.{bytes_eq}
use Rattle.std.proofs.lemmas.Bool.{eqb-true}
use Rattle.std.proofs.lemmas.Slice.Eq.{bytes_eq-Decides}
use Rattle.std.proofs.lemmas.List.{map-append}

-- `==` on texts tells them apart
pub same_text : (xs ys : List ℕ) → pointwise eqb xs ys ≡ true → xs ≡ ys
same_text [] [] h = refl
same_text [] (y ∷ ys) h = absurd cc
same_text (x ∷ xs) [] h = absurd cc
same_text (x ∷ xs) (y ∷ ys) h =
    let t = both (eqb x y) (pointwise eqb xs ys) h in
    ap (λ (n : ℕ). n ∷ xs) (eqb-true x y t.0) ∙ ap (λ (l : List ℕ). y ∷ l) (same_text xs ys t.1)
  where
    both : (a b : Bool) → (a && b) ≡ true → (a ≡ true) × (b ≡ true)
    both true b h = (refl, h)
    both false b h = absurd cc

pub un_not : (b : Bool) → not b ≡ false → b ≡ true
un_not true h = refl
un_not false h = absurd cc

-- a first word, the words up to the last, and the last
pub in_parts : {X : Type 0} (f : X → List ℕ) (words rest options : List X) (first last : X) (command word : List ℕ) → words ≡ first ∷ rest → rest ≡ options ++ (last ∷ []) → f first ≡ command → word ≡ f last
    → map f words ≡ command ∷ (map f options ++ (word ∷ []))
in_parts {X = X} f words rest options first last command word e r c w =
    ap (map f) e ∙ ap (λ (l : List X). f first ∷ map f l) r ∙ ap (λ (l : List (List ℕ)). f first ∷ l) (map-append f options (last ∷ []))
    ∙ ap (λ (h : List ℕ). h ∷ (map f options ++ (f last ∷ []))) c ∙ ap (λ (h : List ℕ). command ∷ (map f options ++ (h ∷ []))) (sym w)

-- lists with one item behind them
pub same_front : (xs ys : List (List ℕ)) (x y : List ℕ) → xs ++ (x ∷ []) ≡ ys ++ (y ∷ []) → (xs ≡ ys) × (x ≡ y)
same_front [] [] x y e = (refl, cc)
same_front [] (b ∷ []) x y e = absurd cc
same_front [] (b ∷ d ∷ ys) x y e = absurd cc
same_front (a ∷ []) [] x y e = absurd cc
same_front (a ∷ c ∷ xs) [] x y e = absurd cc
same_front (a ∷ xs) (b ∷ ys) x y e =
    let t : xs ++ (x ∷ []) ≡ ys ++ (y ∷ []) = cc in
    let h : a ≡ b = cc in
    let s = same_front xs ys x y t in
    (ap (λ (w : List ℕ). w ∷ xs) h ∙ ap (λ (l : List (List ℕ)). b ∷ l) s.0, s.1)

pub same_parts : (command : List ℕ) (xs ys : List (List ℕ)) (x y : List ℕ) (words : List (List ℕ)) → words ≡ command ∷ (xs ++ (x ∷ [])) → words ≡ command ∷ (ys ++ (y ∷ [])) → (xs ≡ ys) × (x ≡ y)
same_parts command xs ys x y words a b = let t : xs ++ (x ∷ []) ≡ ys ++ (y ∷ []) = cc in same_front xs ys x y t

-- what holds at None
pub if_none : {T : Type 0} (o : Option T) (P : Type 0) → P → IfNone o P
if_none None P p = p
if_none (Some x) P p = tt

-- a list of three items
pub three : {X : Type 0} (ws : List X) (a b c : X) → 3 ≤ length ws → length ws < 4 → a ≡ get_or ws 0 a → b ≡ get_or ws 1 b → c ≡ get_or ws 2 c → ws ≡ a ∷ b ∷ c ∷ []
three [] a b c le lt ea eb ec = absurd (omega arith)
three (x ∷ []) a b c le lt ea eb ec = absurd (omega arith)
three (x ∷ y ∷ []) a b c le lt ea eb ec = absurd (omega arith)
three (x ∷ y ∷ z ∷ []) a b c le lt ea eb ec = cc
three (x ∷ y ∷ z ∷ w ∷ ws) a b c le lt ea eb ec = absurd (omega arith)

-- a list of two items
pub two : {X : Type 0} (ws : List X) (a b : X) → 2 ≤ length ws → length ws < 3 → a ≡ get_or ws 0 a → b ≡ get_or ws 1 b → ws ≡ a ∷ b ∷ []
two [] a b le lt ea eb = absurd (omega arith)
two (x ∷ []) a b le lt ea eb = absurd (omega arith)
two (x ∷ y ∷ []) a b le lt ea eb = cc
two (x ∷ y ∷ z ∷ ws) a b le lt ea eb = absurd (omega arith)

-- `==` holds of one text
pub same_reads : (xs ys : List ℕ) → xs ≡ ys → pointwise eqb xs ys ≡ true
same_reads xs ys e = ap (pointwise eqb xs) (sym e) ∙ itself xs
  where
    itself : (xs : List ℕ) → pointwise eqb xs xs ≡ true
    itself [] = refl
    itself (x ∷ xs) = rw (eq-eqb x x refl, itself xs) refl

-- `==` answers as the test of definitions does
pub same_test : (xs ys : List ℕ) (b : Bool) → b ≡ pointwise eqb xs ys → bytes_eq xs ys ≡ b
same_test xs ys true e = (bytes_eq-Decides xs ys).1 (same_text xs ys (sym e))
same_test xs ys false e = at (bytes_eq xs ys) refl
  where
    at : (b : Bool) → bytes_eq xs ys ≡ b → bytes_eq xs ys ≡ false
    at true h = let f : false ≡ true = e ∙ same_reads xs ys ((bytes_eq-Decides xs ys).0 h) in absurd cc
    at false h = h

-- no items, no words
pub no_words : {X : Type 0} (f : X → List ℕ) (xs : List X) → map f xs ≡ [] → length xs ≡ 0
no_words f [] e = refl
no_words f (x ∷ xs) e = absurd cc

pub not_empty : (n : ℕ) (b : Bool) → b ≡ false → b ≡ (n == 0) → n ≡ 0 → ⊥
not_empty zero b f e z = absurd cc
not_empty (suc n) b f e z = absurd (omega arith)
