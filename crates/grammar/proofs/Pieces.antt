-- What holds of each piece that a grammar spells, once it holds of what pieces are made of.
use Rattle.std.proofs.Common.{◌≡◌, ℕ, suc, ◌<◌, ◌≤◌, List, [], ◌∷◌, ◌++◌, refl, arith, inl, inr}
use Rattle.std.specs.Prelude.{Bool, true, ◌||◌, ◌&&◌, not, Option, Some, None}
use Rattle.grammar.specs.Rule.{Rule, done, mark, word, ref, deep, again, seq, around, alt, look, choose, opt, must, rep, make, Source, Table, Loop, outside, within, Derives, d_done, d_mark, d_word, d_ref, d_deep, d_again, d_rep, d_seq, d_around, d_left, d_right, d_seen, d_unseen, d_chosen, d_unchosen, d_without, d_with, d_barred, d_taken, d_make}
use Rattle.grammar.specs.Sets.{Sets, nul}
use Rattle.grammar.proofs.Facts.{true_false, and_both, not_true, implied, less_or_same}
use Rattle.grammar.proofs.Spelled.{IsClear, IsGrammar}
use Rattle.grammar.proofs.Bounded.{Around_clear, forward, still}

-- whether each node of a wide builder is made of what takes a token
abbrev pub filled : {K B L : Type 0} → Sets L → (B → Bool) → Option L → Rule K B L → Bool
filled S wide q done = true
filled S wide q (mark cs) = true
filled S wide q (word k cs) = true
filled S wide q (ref l) = true
filled S wide q (deep l) = true
filled S wide q again = true
filled S wide q (seq r s) = filled S wide q r && filled S wide q s
filled S wide q (around cs ds r) = filled S wide q r
filled S wide q (alt r s) = filled S wide q r && filled S wide q s
filled S wide q (look w cs ds b r s) = filled S wide q r && filled S wide q s
filled S wide q (choose p r s) = filled S wide q r && filled S wide q s
filled S wide q (opt r) = filled S wide q r
filled S wide q (must cs r) = filled S wide q r
filled S wide q (rep l r) = filled S wide (Some l) r
filled S wide q (make b r) = (not (wide b) || not (nul S q r)) && filled S wide q r

-- What P is to keep, of the nodes of the piece from one place up to another, among the first m tokens. A wide builder is given at least a token.
pub record Keeps {K B N : Type 0} (t : Source K B N) (wide : B → Bool) (m : ℕ) (P : ℕ → ℕ → List N → Type 0) : Type 0 where
  pub nothing : (i j : ℕ) → i ≤ j → j ≤ m → P i j []
  pub leaf : (k : K) (i : ℕ) → i < m → P i (suc i) (t.leaf k i ∷ [])
  pub joined : (i k j : ℕ) (ys zs : List N) → i ≤ k → k ≤ j → j ≤ m → P i k ys → P k j zs → P i j (ys ++ zs)
  pub bracketed : (i j : ℕ) (xs : List N) → i < j → j < m → P (suc i) j xs → P i (suc j) xs
  pub built : (b : B) (i j : ℕ) (ys : List N) → i ≤ j → (wide b ≡ true → i < j) → j ≤ m → P i j ys → P i j (t.build b i j ys)

module _ {K B L N : Type 0} (t : Source K B N) (table : Table K B L) (S : Sets L) (I : IsGrammar S table) (wide : B → Bool) (all_filled : (l : L) → filled S wide None (table l) ≡ true) (m : ℕ) (P : ℕ → ℕ → List N → Type 0) (keeps : Keeps t wide m P) where
  -- the loop around is filled too
  abbrev Filled_loop : Loop K B L → Type 0
  Filled_loop outside = record {}
  Filled_loop (within l r) = filled S wide (Some l) r ≡ true

  holds : {c : Loop K B L} {r : Rule K B L} {xs : List N} {i j : ℕ} → Derives t table c r xs i j → (q : Option L) → Around_clear t table S I c q → Filled_loop c → IsClear S q r → filled S wide q r ≡ true → j ≤ m → P i j xs
  holds (d_done {i = i} {j = j} e s) q a g k h le = rw e (keeps.nothing i j (omega (arith, s)) le)
  holds (d_mark {i = i} {j = j} f e s) q a g k h le = rw e (keeps.nothing i j (omega (arith, s)) le)
  holds (d_word {k = w} {i = i} f e s) q a g k h le = rw (e, s) (keeps.leaf w i (omega (arith, s, le)))
  holds (d_ref {l = l} d) q a g k h le = holds d None (record {}) (record {}) (I.clear l) (all_filled l) le
  holds (d_deep {l = l} d) q a g k h le = holds d None (record {}) (record {}) (I.clear l) (all_filled l) le
  holds (d_again {l = l} d) q a g k h le = holds d (Some l) (refl, a.1, a.2) g a.1 g le
  holds (d_rep {l = l} d) q a g k h le = holds d (Some l) (refl, k.0, k.1) h k.0 h le
  holds (d_seq {r = r} {s = s} {i = i} {j = j} k' ys zs d e eq) q a g k h le =
      let f : _ = and_both (filled S wide q r) (filled S wide q s) h in
      let x : i ≤ k' = forward t table S I d in
      let y : k' ≤ j = forward t table S I e in
      rw eq (keeps.joined i k' j ys zs x y le (holds d q a g k.0 f.0 (omega (arith, y, le))) (holds e q a g k.1 f.1 le))
  holds (d_around {xs = xs} {i = i} k' f d f' s) q a g k h le = rw s (keeps.bracketed i k' xs (forward t table S I d) (omega (arith, s, le)) (holds d q a g k.0 h (omega (arith, s, le))))
  holds (d_left {r = r} {s = s} d) q a g k h le = holds d q a g k.0 (and_both (filled S wide q r) (filled S wide q s) h).0 le
  holds (d_right {r = r} {s = s} d) q a g k h le = holds d q a g k.1 (and_both (filled S wide q r) (filled S wide q s) h).1 le
  holds (d_seen {w = w} {b = b} {r = r} {s = s} {i = i} {j = j} ys f f' d e) q a g k h le =
      let x : suc (suc i) ≤ j = forward t table S I d in
      let p : P (suc (suc i)) j ys = holds d q a g k.0 (and_both (filled S wide q r) (filled S wide q s) h).0 le in
      let first : P i (suc i) (t.leaf w i ∷ []) = keeps.leaf w i (omega (arith, x, le)) in
      let rest : P (suc i) j ys = keeps.joined (suc i) (suc (suc i)) j [] ys (omega arith) x le (keeps.nothing (suc i) (suc (suc i)) (omega arith) (omega (arith, x, le))) p in
      rw e (keeps.built b i j (t.leaf w i ∷ ys) (omega (arith, x)) (λ is. omega (arith, x)) le (keeps.joined i (suc i) j (t.leaf w i ∷ []) ys (omega arith) (omega (arith, x)) le first rest))
  holds (d_unseen {r = r} {s = s} f d) q a g k h le = holds d q a g k.1 (and_both (filled S wide q r) (filled S wide q s) h).1 le
  holds (d_chosen {r = r} {s = s} f d) q a g k h le = holds d q a g k.0 (and_both (filled S wide q r) (filled S wide q s) h).0 le
  holds (d_unchosen {r = r} {s = s} f d) q a g k h le = holds d q a g k.1 (and_both (filled S wide q r) (filled S wide q s) h).1 le
  holds (d_without {i = i} {j = j} e s) q a g k h le = rw e (keeps.nothing i j (omega (arith, s)) le)
  holds (d_with d) q a g k h le = holds d q a g k.0 h le
  holds (d_barred {i = i} {j = j} f e s) q a g k h le = rw e (keeps.nothing i j (omega (arith, s)) le)
  holds (d_taken d) q a g k h le = holds d q a g k.0 h le
  holds (d_make {b = b} {r = r} {i = i} {j = j} ys d s) q a g k h le =
      let f : _ = and_both (not (wide b) || not (nul S q r)) (filled S wide q r) h in
      let x : i ≤ j = forward t table S I d in
      rw s (keeps.built b i j ys x (λ is. moves (implied (wide b) (not (nul S q r)) f.0 is) (still t table S I d q a k)) le (holds d q a g k f.1 le))
    where
      moves : not (nul S q r) ≡ true → (i ≡ j → nul S q r ≡ true) → i < j
      moves n e = elim (less_or_same i j (forward t table S I d)) [ inl lt ↦ lt | inr eq ↦ true_false (nul S q r) (e eq) (not_true (nul S q r) n) ]

  -- Each piece of a level keeps it.
  pub spelled_holds : (l : L) (xs : List N) (i j : ℕ) → Derives t table outside (table l) xs i j → j ≤ m → P i j xs
  spelled_holds l xs i j d le = holds d None (record {}) (record {}) (I.clear l) (all_filled l) le
