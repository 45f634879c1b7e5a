-- What an amount or a comparison of each kind means, by its parts.
use Rattle.std.proofs.Common.{◌≡◌, ℕ, List, ap, sym, refl, ◌∙◌}
use Rattle.std.specs.Prelude.{Option, Some, Bool, not, ◌&&◌, ◌||◌, ℤ, neg_ℤ}
use Rattle.grammar.specs.Reader.{◌>>=◌}
use Rattle.meta_bind.specs.declared.bound.Bound.{Bound}
use Rattle.meta_bind.specs.Bounds.{bound_at}
use Rattle.rule_form.specs.declared.comparison.ArithOp.{ArithOp}
use Rattle.rule_form.specs.declared.comparison.CompareOp.{CompareOp}
use Rattle.rule_form.specs.declared.comparison.Amount.{Amount, fold-roll-Amount}
use Rattle.rule_form.specs.declared.comparison.Amount.TheOpen as amount_layers
use Rattle.rule_form.specs.declared.comparison.Amount.TheVariants as amounts
use Rattle.rule_form.specs.declared.comparison.Amount.TheVariants.{rolls-Number, rolls-Value, rolls-Content, rolls-Negated, rolls-Arith}
use Rattle.rule_form.specs.declared.comparison.Comparison.{Comparison, fold-roll-Comparison}
use Rattle.rule_form.specs.declared.comparison.Comparison.TheOpen as truth_layers
use Rattle.rule_form.specs.declared.comparison.Comparison.TheVariants as truths
use Rattle.rule_form.specs.declared.comparison.Comparison.TheVariants.{rolls-Or, rolls-And, rolls-Not, rolls-Chain}
use Rattle.meta_filter.specs.Arithmetic.{within, computed}
use Rattle.meta_filter.specs.Values.{number_in, number_inside, amount_step, truth_step, value_of, chain_truth, truth_of}

module _ (binding : List Bound) (bytes : List ℕ) where
  pub value_number : (n : ℤ) → value_of binding bytes (amounts.Number n) ≡ Some n
  unfolding value_of
  value_number n = ap (value_of binding bytes) (sym (rolls-Number n)) ∙ fold-roll-Amount (Option ℤ) (amount_step binding bytes) (amount_layers.Number n)

  pub value_bound : (name : List ℕ) → value_of binding bytes (amounts.Value name) ≡ (bound_at name binding >>= λ b. number_in bytes b.span)
  unfolding value_of
  value_bound name = ap (value_of binding bytes) (sym (rolls-Value name)) ∙ fold-roll-Amount (Option ℤ) (amount_step binding bytes) (amount_layers.Value name)

  pub value_content : (name : List ℕ) → value_of binding bytes (amounts.Content name) ≡ (bound_at name binding >>= λ b. number_inside b.nodes)
  unfolding value_of
  value_content name = ap (value_of binding bytes) (sym (rolls-Content name)) ∙ fold-roll-Amount (Option ℤ) (amount_step binding bytes) (amount_layers.Content name)

  pub value_negated : (a : Amount) → value_of binding bytes (amounts.Negated a) ≡ (value_of binding bytes a >>= λ n. within (neg_ℤ n))
  unfolding value_of
  value_negated a = ap (value_of binding bytes) (sym (rolls-Negated a)) ∙ fold-roll-Amount (Option ℤ) (amount_step binding bytes) (amount_layers.Negated a)

  pub value_arith : (op : ArithOp) (a b : Amount) → value_of binding bytes (amounts.Arith op a b) ≡ (value_of binding bytes a >>= λ m. value_of binding bytes b >>= λ n. computed op m n)
  unfolding value_of
  value_arith op a b = ap (value_of binding bytes) (sym (rolls-Arith op a b)) ∙ fold-roll-Amount (Option ℤ) (amount_step binding bytes) (amount_layers.Arith op a b)

  pub truth_or : (a b : Comparison) → truth_of binding bytes (truths.Or a b) ≡ (truth_of binding bytes a >>= λ x. truth_of binding bytes b >>= λ y. Some (x || y))
  unfolding truth_of
  truth_or a b = ap (truth_of binding bytes) (sym (rolls-Or a b)) ∙ fold-roll-Comparison (Option Bool) (truth_step binding bytes) (truth_layers.Or a b)

  pub truth_and : (a b : Comparison) → truth_of binding bytes (truths.And a b) ≡ (truth_of binding bytes a >>= λ x. truth_of binding bytes b >>= λ y. Some (x && y))
  unfolding truth_of
  truth_and a b = ap (truth_of binding bytes) (sym (rolls-And a b)) ∙ fold-roll-Comparison (Option Bool) (truth_step binding bytes) (truth_layers.And a b)

  pub truth_not : (a : Comparison) → truth_of binding bytes (truths.Not a) ≡ (truth_of binding bytes a >>= λ x. Some (not x))
  unfolding truth_of
  truth_not a = ap (truth_of binding bytes) (sym (rolls-Not a)) ∙ fold-roll-Comparison (Option Bool) (truth_step binding bytes) (truth_layers.Not a)

  pub truth_chain : (xs : List Amount) (ops : List CompareOp) → truth_of binding bytes (truths.Chain xs ops) ≡ chain_truth binding bytes xs ops
  unfolding truth_of
  truth_chain xs ops = ap (truth_of binding bytes) (sym (rolls-Chain xs ops)) ∙ fold-roll-Comparison (Option Bool) (truth_step binding bytes) (truth_layers.Chain xs ops)

  pub arith_here : (x a b : Amount) (op : ArithOp) (m n : ℤ) → x ≡ amounts.Arith op a b → value_of binding bytes a ≡ Some m → value_of binding bytes b ≡ Some n → computed op m n ≡ value_of binding bytes x
  arith_here x a b op m n is left right = rw (is, value_arith op a b, left, right) refl
