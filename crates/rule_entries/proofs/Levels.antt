-- Formulas in so many levels, of which there is one at least.
use Rattle.std.proofs.Common.{◌≡◌, ℕ, zero, suc, ◌-◌, Bool, sym, subst, arith}
use Rattle.std.specs.Prelude.{Result}
use Rattle.yaml_cells.specs.declared.value.YValue.{YValue}
use Rattle.rule_form.specs.declared.formula.Formula.{Formula}
use Rattle.rule_entries.specs.declared.found.Found.{Found}
use Rattle.rule_keys.specs.declared.key.FormulaKey.{FormulaKey}
use Rattle.rule_keys.specs.declared.key.FormulaKey.TheVariants as keys
use Rattle.rule_keys.specs.declared.stop.Stop.{Stop}
use Rattle.rule_entries.specs.Readings.{Reads}
use Rattle.rule_entries.specs.Finds.{Leaf}
use Rattle.rule_entries.specs.Formulas.{IsFormula, IsPattern, IsPatterns, IsEither, IsRegexFormula}

module _ (leaf : Leaf) (bare : Bool) (v : YValue) (s t : Found) (r : Result Formula Stop) where
  for_key : (n : ℕ) (key k : FormulaKey) → key ≡ k → Reads (IsFormula n leaf bare k v) s r t → Reads (IsFormula n leaf bare key v) s r t
  for_key n key k e h = subst (λ (x : FormulaKey). Reads (IsFormula n leaf bare x v) s r t) (sym e) h

  pub at_pattern : (n : ℕ) (key : FormulaKey) → (n ≡ 0 → ⊥) → key ≡ keys.Pattern → Reads (IsPattern leaf v) s r t → Reads (IsFormula n leaf bare key v) s r t
  at_pattern zero key some e h = absurd (some cc)
  at_pattern (suc n) key some e h = for_key (suc n) key keys.Pattern e h

  pub at_patterns : (n : ℕ) (key : FormulaKey) → (n ≡ 0 → ⊥) → key ≡ keys.Patterns → Reads (IsPatterns leaf (IsFormula (n - 1) leaf) bare v) s r t → Reads (IsFormula n leaf bare key v) s r t
  at_patterns zero key some e h = absurd (some cc)
  at_patterns (suc n) key some e h = for_key (suc n) key keys.Patterns e (subst (λ (m : ℕ). Reads (IsPatterns leaf (IsFormula m leaf) bare v) s r t) (omega arith) h)

  pub at_either : (n : ℕ) (key : FormulaKey) → (n ≡ 0 → ⊥) → key ≡ keys.Either → Reads (IsEither leaf (IsFormula (n - 1) leaf) v) s r t → Reads (IsFormula n leaf bare key v) s r t
  at_either zero key some e h = absurd (some cc)
  at_either (suc n) key some e h = for_key (suc n) key keys.Either e (subst (λ (m : ℕ). Reads (IsEither leaf (IsFormula m leaf) v) s r t) (omega arith) h)

  pub at_regex : (n : ℕ) (key : FormulaKey) → (n ≡ 0 → ⊥) → key ≡ keys.Regex → Reads (IsRegexFormula v) s r t → Reads (IsFormula n leaf bare key v) s r t
  at_regex zero key some e h = absurd (some cc)
  at_regex (suc n) key some e h = for_key (suc n) key keys.Regex e h
