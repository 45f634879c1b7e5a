-- Closing blocks one after the other.
use Rattle.std.proofs.Common.{◌≡◌, ◌≢◌, ℕ, ◌<◌, ◌≤◌, Bool, false, List, [], ◌∷◌, ◌++◌, drop, refl, sym, ap, ◌∙◌, subst, arith, append_assoc, lt-ltb, le-ltb, eq-eqb}
use Rattle.std.specs.Prelude.{Option, Some, None, ◌==◌, if◌then◌else◌}
use Rattle.std.proofs.lemmas.List.{append-nil}
use Rattle.std.proofs.lemmas.Bool.Decides.{nat_tests}
use Rattle.lexing.specs.Reading.{Turn}
use Rattle.py_lex.specs.Columns.{top}
use Rattle.py_lex.specs.declared.token.PyWord.TheVariants as words
use Rattle.py_lex.specs.declared.token.PyToken.{PyToken}
use Rattle.py_lex.specs.Layout.{sign, joined, close}

neq_false : (a b : ℕ) → (a ≡ b → ⊥) → (a == b) ≡ false
neq_false a b h = grind (arith, nat_tests)

pub close_more : (at : ℕ) (cs : List ℕ) (column : ℕ) → column < top cs → close at cs column ≡ joined (sign words.Dedent at 0 ∷ []) (close at (drop 1 cs) column)
unfolding close
close_more at [] column lt = absurd (omega arith)
close_more at (c ∷ cs) column lt = rw (lt-ltb column c lt) refl

pub close_done : (at : ℕ) (cs : List ℕ) (column : ℕ) → top cs ≡ column → close at cs column ≡ Some (record { after = cs; tokens = [] })
unfolding close
close_done at [] column e = subst (λ (k : ℕ). close at [] k ≡ Some (record { after = []; tokens = [] })) e refl
close_done at (c ∷ cs) column e = rw (le-ltb column c (omega arith)) (rw (eq-eqb column c (sym e)) refl)

pub close_none : (at : ℕ) (cs : List ℕ) (column : ℕ) → top cs ≤ column → top cs ≢ column → close at cs column ≡ None
unfolding close
close_none at [] column le ne = ap (λ (b : Bool). if b then Some (record { after = []; tokens = [] }) else None) (neq_false column 0 (λ e. ne (sym e)))
close_none at (c ∷ cs) column le ne = rw (le-ltb column c le) (rw (neq_false column c (λ e. ne (sym e))) refl)

pub joined_joined : {S : Type 0} (us vs : List PyToken) (t : Option (Turn S PyToken)) → joined us (joined vs t) ≡ joined (us ++ vs) t
joined_joined us vs None = refl
joined_joined us vs (Some t) = ap (λ (x : List PyToken). Some (record { after = t.after; tokens = x })) (sym (append_assoc us vs t.tokens))

pub joined_none : {S : Type 0} (t : Option (Turn S PyToken)) → joined [] t ≡ t
joined_none None = refl
joined_none (Some t) = refl

pub record Closed (at column : ℕ) (first : List ℕ) (old : List PyToken) (cs : List ℕ) (all : List PyToken) : Type 0 where
  pub done : List PyToken
  pub made : all ≡ old ++ done
  pub total : joined done (close at cs column) ≡ close at first column

pub closed_start : (at column : ℕ) (first : List ℕ) (old : List PyToken) → Closed at column first old first old
closed_start at column first old = record { done = []; made = sym (append-nil old); total = joined_none (close at first column) }

pub closed_more : (at column : ℕ) (first : List ℕ) (old : List PyToken) (cs cs' : List ℕ) (all all' : List PyToken) → Closed at column first old cs all → column < top cs → cs' ≡ drop 1 cs → all' ≡ all ++ sign words.Dedent at 0 ∷ [] → Closed at column first old cs' all'
closed_more at column first old cs cs' all all' c lt e a = record {
  done = c.done ++ sign words.Dedent at 0 ∷ [];
  made = a ∙ ap (λ (x : List PyToken). x ++ sign words.Dedent at 0 ∷ []) c.made ∙ append_assoc old c.done (sign words.Dedent at 0 ∷ []);
  total = ap (λ (x : List ℕ). joined (c.done ++ sign words.Dedent at 0 ∷ []) (close at x column)) e ∙ sym (joined_joined c.done (sign words.Dedent at 0 ∷ []) (close at (drop 1 cs) column)) ∙ ap (joined c.done) (sym (close_more at cs column lt)) ∙ c.total;
}

pub closed_done : (at column : ℕ) (first : List ℕ) (old : List PyToken) (cs : List ℕ) (all : List PyToken) → Closed at column first old cs all → top cs ≡ column
    → (ts : List PyToken) × (close at first column ≡ Some (record { after = cs; tokens = ts })) × (all ≡ old ++ ts)
closed_done at column first old cs all c e =
    (c.done, sym c.total ∙ ap (joined c.done) (close_done at cs column e) ∙ ap (λ (x : List PyToken). Some (record { after = cs; tokens = x })) (append-nil c.done), c.made)

pub closed_none : (at column : ℕ) (first : List ℕ) (old : List PyToken) (cs : List ℕ) (all : List PyToken) → Closed at column first old cs all → top cs ≤ column → top cs ≢ column → close at first column ≡ None
closed_none at column first old cs all c le ne = sym c.total ∙ ap (joined c.done) (close_none at cs column le ne)
