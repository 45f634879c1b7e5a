-- The first place of a byte.
use Rattle.std.proofs.Common.{◌≡◌, ℕ, suc, ◌+◌, ◌<◌, ◌≤◌, Bool, true, false, List, [], ◌∷◌, ◌++◌, length, get_or, take, drop, refl, sym, ap, ◌∙◌, arith, eqb, eq-eqb}
use Rattle.std.specs.Prelude.{◌||◌, ◌==◌}
use Rattle.std.proofs.lemmas.List.{take-append-drop, drop_more, get_or-take, length-take-le}
use Rattle.wire_stream.specs.Heads.{Lacks}

pub lacks_append : (b : ℕ) (xs ys : List ℕ) → Lacks b xs → Lacks b ys → Lacks b (xs ++ ys)
lacks_append b [] ys l m = m
lacks_append b (x ∷ xs) ys l m = (l.0, lacks_append b xs ys l.1 m)

pub lacks_by_place : (b : ℕ) (xs : List ℕ) → ((i : ℕ) → i < length xs → get_or xs i 0 ≡ b → ⊥) → Lacks b xs
lacks_by_place b [] f = tt
lacks_by_place b (x ∷ xs) f = (λ e. f 0 (omega arith) e, lacks_by_place b xs (λ i lt e. f (suc i) (omega arith) e))

-- a test for literals
abbrev pub has : ℕ → List ℕ → Bool
has b [] = false
has b (x ∷ xs) = (x == b) || has b xs

pub lacks_by_test : (b : ℕ) (xs : List ℕ) → has b xs ≡ false → Lacks b xs
lacks_by_test b [] h = tt
lacks_by_test b (x ∷ xs) h = let s = both (eqb x b) (has b xs) h in (λ e. apart (eqb x b) s.0 (eq-eqb x b e), lacks_by_test b xs s.1)
  where
    both : (p q : Bool) → (p || q) ≡ false → (p ≡ false) × (q ≡ false)
    both true q h = absurd cc
    both false q h = (refl, h)

    apart : (p : Bool) → p ≡ false → p ≡ true → ⊥
    apart p f t = absurd cc

-- what stands before the first place, and what follows it
pub same_first : (b : ℕ) (xs ys us vs : List ℕ) → Lacks b xs → Lacks b us → xs ++ (b ∷ ys) ≡ us ++ (b ∷ vs) → (xs ≡ us) × (ys ≡ vs)
same_first b [] ys [] vs l m e = (refl, cc)
same_first b [] ys (u ∷ us) vs l m e = let h : b ≡ u = cc in absurd (m.0 (sym h))
same_first b (x ∷ xs) ys [] vs l m e = let h : x ≡ b = cc in absurd (l.0 h)
same_first b (x ∷ xs) ys (u ∷ us) vs l m e =
    let h : x ≡ u = cc in
    let t : xs ++ (b ∷ ys) ≡ us ++ (b ∷ vs) = cc in
    let s = same_first b xs ys us vs l.1 m.1 t in
    (ap (λ (n : ℕ). n ∷ xs) h ∙ ap (λ (r : List ℕ). u ∷ r) s.0, s.1)

-- a front without the byte ends before it
pub front_before : (b : ℕ) (bs more xs ys : List ℕ) → Lacks b bs → bs ++ more ≡ xs ++ (b ∷ ys) → length bs ≤ length xs
front_before b [] more xs ys l e = omega arith
front_before b (c ∷ bs) more [] ys l e = let h : c ≡ b = cc in absurd (l.0 h)
front_before b (c ∷ bs) more (x ∷ xs) ys l e = let t : bs ++ more ≡ xs ++ (b ∷ ys) = cc in let r = front_before b bs more xs ys l.1 t in omega arith

pub no_place : (b : ℕ) (bs xs ys : List ℕ) → Lacks b bs → bs ≡ xs ++ (b ∷ ys) → ⊥
no_place b [] [] ys l e = absurd cc
no_place b [] (x ∷ xs) ys l e = absurd cc
no_place b (c ∷ bs) [] ys l e = let h : c ≡ b = cc in l.0 h
no_place b (c ∷ bs) (x ∷ xs) ys l e = let t : bs ≡ xs ++ (b ∷ ys) = cc in no_place b bs xs ys l.1 t

-- a list parts at a place
pub parts_at : (bs : List ℕ) (i b : ℕ) → i < length bs → get_or bs i 0 ≡ b → bs ≡ take i bs ++ (b ∷ drop (i + 1) bs)
parts_at bs i b lt is = sym (take-append-drop i bs) ∙ ap (λ (l : List ℕ). take i bs ++ l) (drop_more bs i 0 lt ∙ ap (λ (n : ℕ). n ∷ drop (i + 1) bs) is)

pub lacks_before : (bs : List ℕ) (i b : ℕ) → i < length bs → ((k : ℕ) → k < i → get_or bs k 0 ≡ b → ⊥) → Lacks b (take i bs)
lacks_before bs i b lt f = lacks_by_place b (take i bs) (λ k low e. let n : length (take i bs) ≡ i = length-take-le i bs (omega arith) in f k (omega arith) (sym (get_or-take i bs k 0 (omega arith)) ∙ e))

-- fronts of one length
pub same_fronts : (xs us ys vs : List ℕ) → length xs ≡ length us → xs ++ ys ≡ us ++ vs → (xs ≡ us) × (ys ≡ vs)
same_fronts [] [] ys vs n e = (refl, e)
same_fronts [] (u ∷ us) ys vs n e = absurd (omega arith)
same_fronts (x ∷ xs) [] ys vs n e = absurd (omega arith)
same_fronts (x ∷ xs) (u ∷ us) ys vs n e =
    let h : x ≡ u = cc in
    let t : xs ++ ys ≡ us ++ vs = cc in
    let s = same_fronts xs us ys vs (omega arith) t in
    (ap (λ (k : ℕ). k ∷ xs) h ∙ ap (λ (r : List ℕ). u ∷ r) s.0, s.1)
