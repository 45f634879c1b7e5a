-- A test that a table is whole.
use Rattle.std.proofs.Common.{◌≡◌, ℕ, zero, suc, ◌+◌, Bool, true, ◌&&◌, ◌==◌, List, [], ◌∷◌, length, sym, nat_lt, nat_le, eqb-true, ltb-true, leb-true, zero-add, subst}
use Rattle.std.specs.Prelude.{slice_index}
use Rattle.std.proofs.lemmas.Bool.{and_parts}
use Rattle.lexing.specs.Automaton.{Table, IsWhole}
use Rattle.lexing.proofs.Certificate.{all_below, below_at}

abbrev pub each : (ℕ → Bool) → List ℕ → Bool
each p [] = true
each p (x ∷ xs) = p x && each p xs

each_at : (p : ℕ → Bool) (xs : List ℕ) (i : ℕ) → p 0 ≡ true → each p xs ≡ true → p (slice_index xs i) ≡ true
each_at p [] i z h = z
each_at p (x ∷ xs) zero z h = (and_parts (p x) (each p xs) h).0
each_at p (x ∷ xs) (suc i) z h = each_at p xs i z (and_parts (p x) (each p xs) h).1

unfoldable pub is_whole : Table → Bool
is_whole m =
    nat_lt 0 m.width && (nat_le 131 (length m.columns) && (nat_le m.width (length m.rows)
    && (each (λ v. nat_le (v + m.width) (length m.rows)) m.rows && (each (λ k. nat_lt k m.width) m.columns && all_below (λ i. slice_index m.rows i == 0) m.width))))

pub whole : (m : Table) → is_whole m ≡ true → IsWhole m
unfolding is_whole
whole m h =
    let a = and_parts (nat_lt 0 m.width) _ h in
    let b = and_parts (nat_le 131 (length m.columns)) _ a.1 in
    let c = and_parts (nat_le m.width (length m.rows)) _ b.1 in
    let d = and_parts (each (λ v. nat_le (v + m.width) (length m.rows)) m.rows) _ c.1 in
    let e = and_parts (each (λ k. nat_lt k m.width) m.columns) (all_below (λ i. slice_index m.rows i == 0) m.width) d.1 in
    record {
      rows = λ i. leb-true _ _ (each_at (λ v. nat_le (v + m.width) (length m.rows)) m.rows i (subst (λ (k : ℕ). nat_le k (length m.rows) ≡ true) (sym (zero-add m.width)) c.0) d.0);
      columns = λ i. ltb-true _ _ (each_at (λ k. nat_lt k m.width) m.columns i a.0 e.0);
      some = ltb-true _ _ a.0;
      symbols = leb-true _ _ b.0;
      dead = λ i lt. eqb-true _ _ (below_at (λ i. slice_index m.rows i == 0) m.width i e.1 lt);
    }
