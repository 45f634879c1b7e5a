-- What holds of each piece of a level, where it holds of the levels once it does of what their rows are made of.
use Rattle.std.proofs.Common.{◌≡◌, ℕ, suc, List, [], ◌∷◌, ◌++◌, refl, sym, subst, true, ◌⊎◌, inl, inr}
use Rattle.std.specs.Prelude.{Option, Some, None}
use Rattle.grammar.specs.Rule.{Rule, done, mark, word, ref, deep, again, seq, around, alt, look, choose, opt, must, rep, make, has, Source, Table, Loop, outside, within, Derives, d_done, d_mark, d_word, d_ref, d_deep, d_again, d_rep, d_seq, d_around, d_left, d_right, d_seen, d_unseen, d_chosen, d_unchosen, d_without, d_with, d_barred, d_taken, d_make}

module _ {K B L N : Type 0} (t : Source K B N) (table : Table K B L) (P : L → List N → ℕ → ℕ → Type 0) where
  -- what a row says, where P is said of levels and loops; of rows with tests it says nothing
  abbrev pub Says : Option L → Rule K B L → List N → ℕ → ℕ → Type 0
  Says q done xs i j = (xs ≡ []) × (i ≡ j)
  Says q (mark cs) xs i j = (has cs (t.cls i) ≡ true) × (xs ≡ []) × (j ≡ suc i)
  Says q (word k cs) xs i j = (has cs (t.cls i) ≡ true) × (xs ≡ t.leaf k i ∷ []) × (j ≡ suc i)
  Says q (ref l) xs i j = P l xs i j
  Says q (deep l) xs i j = P l xs i j
  Says None again xs i j = Unit {0}
  Says (Some l) again xs i j = P l xs i j
  Says q (seq r s) xs i j = (k : ℕ) × (ys : List N) × (zs : List N) × Says q r ys i k × Says q s zs k j × (xs ≡ ys ++ zs)
  Says q (around cs ds r) xs i j = (k : ℕ) × (has cs (t.cls i) ≡ true) × Says q r xs (suc i) k × (has ds (t.cls k) ≡ true) × (j ≡ suc k)
  Says q (alt r s) xs i j = Says q r xs i j ⊎ Says q s xs i j
  Says q (look k cs ds b r s) xs i j = Unit {0}
  Says q (choose p r s) xs i j = Unit {0}
  Says q (opt r) xs i j = ((xs ≡ []) × (i ≡ j)) ⊎ Says q r xs i j
  Says q (must cs r) xs i j = Unit {0}
  Says q (rep l r) xs i j = P l xs i j
  Says q (make b r) xs i j = (ys : List N) × Says q r ys i j × (xs ≡ t.build b i j ys)

  -- a row gives it of its level
  abbrev pub Gives : Option L → Rule K B L → L → Type 0
  Gives q r l = (xs : List N) (i j : ℕ) → Says q r xs i j → P l xs i j

  -- each loop in the row does
  abbrev pub Loops : Rule K B L → Type 0
  Loops (seq r s) = Loops r × Loops s
  Loops (around cs ds r) = Loops r
  Loops (alt r s) = Loops r × Loops s
  Loops (opt r) = Loops r
  Loops (rep l r) = Gives (Some l) r l × Loops r
  Loops (make b r) = Loops r
  Loops _ = Unit {0}

  abbrev Inside : Loop K B L → Option L → Type 0
  Inside outside q = q ≡ None
  Inside (within l r) q = (q ≡ Some l) × Gives (Some l) r l × Loops r

  module _ (gives : (l : L) → Gives None (table l) l) (loops : (l : L) → Loops (table l)) where
    holds : {c : Loop K B L} {r : Rule K B L} {xs : List N} {i j : ℕ} → Derives t table c r xs i j → (q : Option L) → Inside c q → Loops r → Says q r xs i j
    holds (d_done e f) q a h = (e, f)
    holds (d_mark e f g) q a h = (e, f, g)
    holds (d_word e f g) q a h = (e, f, g)
    holds (d_ref {l = l} {xs = xs} {i = i} {j = j} d) q a h = gives l xs i j (holds d None refl (loops l))
    holds (d_deep {l = l} {xs = xs} {i = i} {j = j} d) q a h = gives l xs i j (holds d None refl (loops l))
    holds (d_again {l = l} {r = r} {xs = xs} {i = i} {j = j} d) q a h = subst (λ (o : Option L). Says o again xs i j) (sym a.0) (a.1 xs i j (holds d (Some l) (refl, a.1, a.2) a.2))
    holds (d_rep {l = l} {r = r} {xs = xs} {i = i} {j = j} d) q a h = h.0 xs i j (holds d (Some l) (refl, h.0, h.1) h.1)
    holds (d_seq k ys zs d e f) q a h = (k, ys, zs, holds d q a h.0, holds e q a h.1, f)
    holds (d_around k e d f g) q a h = (k, e, holds d q a h, f, g)
    holds (d_left d) q a h = inl (holds d q a h.0)
    holds (d_right d) q a h = inr (holds d q a h.1)
    holds (d_seen ys e f d g) q a h = tt
    holds (d_unseen e d) q a h = tt
    holds (d_chosen e d) q a h = tt
    holds (d_unchosen e d) q a h = tt
    holds (d_without e f) q a h = inl (e, f)
    holds (d_with d) q a h = inr (holds d q a h)
    holds (d_barred e f g) q a h = tt
    holds (d_taken d) q a h = tt
    holds (d_make ys d e) q a h = (ys, holds d q a h, e)

    pub level_holds : (l : L) (xs : List N) (i j : ℕ) → Derives t table outside (table l) xs i j → P l xs i j
    level_holds l xs i j d = gives l xs i j (holds d None refl (loops l))
