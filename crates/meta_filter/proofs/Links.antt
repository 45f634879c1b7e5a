-- The links of a chain, one after the other.
use Rattle.std.proofs.Common.{◌≡◌, ℕ, ◌+◌, List, [], ◌∷◌, drop, refl, ap, ◌∙◌, Option, Some, None}
use Rattle.std.specs.Prelude.{Bool, true, false, ◌&&◌, ℤ}
use Rattle.std.proofs.lemmas.List.{drop-drop}
use Rattle.grammar.specs.Reader.{◌>>=◌}
use Rattle.meta_bind.specs.declared.bound.Bound.{Bound}
use Rattle.rule_form.specs.declared.comparison.CompareOp.{CompareOp}
use Rattle.rule_form.specs.declared.comparison.Amount.{Amount}
use Rattle.meta_filter.specs.Arithmetic.{compared}
use Rattle.meta_filter.specs.Values.{value_of, values_of, pairs_hold}

no_more : (n : ℤ) (ns : List ℤ) → pairs_hold (n ∷ ns) [] ≡ true
no_more n [] = refl
no_more n (m ∷ ns) = refl

alone : (n : ℤ) (ops : List CompareOp) → pairs_hold (n ∷ []) ops ≡ true
alone n [] = refl
alone n (op ∷ ops) = refl

apart : (a b c : Bool) → (a && (b && c)) ≡ ((a && (b && true)) && c)
apart true true c = refl
apart true false c = refl
apart false b c = refl

always : (a : Bool) → (a && true) ≡ ((a && true) && true)
always true = refl
always false = refl

one_pair : (a : Bool) (x y : ℤ) (ns : List ℤ) (ops : List CompareOp) → (a && pairs_hold (x ∷ y ∷ ns) ops) ≡ ((a && pairs_hold (x ∷ y ∷ []) ops) && pairs_hold (y ∷ ns) (drop 1 ops))
one_pair a x y ns [] = rw (no_more y ns) (always a)
one_pair a x y ns (op ∷ ops) = rw (alone y ops) (apart a (compared op x y) (pairs_hold (y ∷ ns) ops))

module _ (binding : List Bound) (bytes : List ℕ) (others : List Amount) (ops : List CompareOp) where
  -- what is left to compare from a place on
  abbrev pub left_at : ℕ → ℤ → Bool → Option Bool
  left_at i before holds = values_of binding bytes (drop i others) >>= λ ns. Some (holds && pairs_hold (before ∷ ns) (drop i ops))

  further : (o : Option (List ℤ)) (i : ℕ) (before v : ℤ) (holds : Bool)
      → ◌>>=◌ {B = Bool} (◌>>=◌ {B = List ℤ} o (λ ns. Some (v ∷ ns))) (λ ns. Some (holds && pairs_hold (before ∷ ns) (drop i ops)))
      ≡ ◌>>=◌ {B = Bool} o (λ ns. Some ((holds && pairs_hold (before ∷ v ∷ []) (drop i ops)) && pairs_hold (v ∷ ns) (drop (i + 1) ops)))
  further None i before v holds = refl
  further (Some ns) i before v holds = ap (λ (b : Bool). Some b) (one_pair holds before v ns (drop i ops) ∙ ap (λ (os : List CompareOp). (holds && pairs_hold (before ∷ v ∷ []) (drop i ops)) && pairs_hold (v ∷ ns) os) (drop-drop 1 i ops))

  pub next_pair : (i : ℕ) (before v : ℤ) (holds pair next : Bool) (x : Amount) → drop i others ≡ x ∷ drop (i + 1) others → value_of binding bytes x ≡ Some v → pair ≡ pairs_hold (before ∷ v ∷ []) (drop i ops) → next ≡ (holds && pair) → left_at i before holds ≡ left_at (i + 1) v next
  next_pair i before v holds pair next x front value is is' = rw (is', is, front, value) (further (values_of binding bytes (drop (i + 1) others)) i before v holds)
