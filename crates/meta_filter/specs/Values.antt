-- What comparisons mean, where metavariables are bound.
use Rattle.std.specs.Prelude.{ℕ, suc, ◌-◌, ◌==◌, nat_le, if◌then◌else◌, Bool, true, false, not, ◌&&◌, ◌||◌, List, [], ◌∷◌, length, take, drop, slice_index, Option, Some, None, ℤ, neg_ℤ}
use Rattle.grammar.specs.Reader.{◌>>=◌}
use Rattle.node_tree.specs.declared.node.Node.{Node}
use Rattle.node_tree.specs.declared.kind.Kind.{Kind}
use Rattle.node_tree.specs.declared.kind.Kind.TheVariants.{Str}
use Rattle.node_tree.specs.declared.span.Span.{Span}
use Rattle.node_tree.specs.Tree.{kind_of, text_of}
use Rattle.meta_bind.specs.declared.bound.Bound.{Bound}
use Rattle.meta_bind.specs.Bounds.{bound_at}
use Rattle.rule_form.specs.declared.comparison.Comparison.{Comparison, Comparison-F, fold-Comparison}
use Rattle.rule_form.specs.declared.comparison.Comparison.TheOpen as truths
use Rattle.rule_form.specs.declared.comparison.Amount.{Amount, Amount-F, fold-Amount}
use Rattle.rule_form.specs.declared.comparison.Amount.TheOpen as amounts
use Rattle.rule_form.specs.declared.comparison.CompareOp.{CompareOp}
use Rattle.meta_filter.specs.Arithmetic.{within, computed, compared}
use Rattle.meta_filter.specs.Numerals.{written}

-- ---- what metavariables write

-- the bytes of a span, if it lies in them
abbrev pub text_in : List ℕ → Span → Option (List ℕ)
text_in bytes span = if nat_le span.from span.to && nat_le span.to (length bytes) then Some (take (span.to - span.from) (drop span.from bytes)) else None

-- the number that the bytes of a span write
abbrev pub number_in : List ℕ → Span → Option ℤ
number_in bytes span = text_in bytes span >>= written

-- the number that the content of a Str without prefix writes, whose text is a quote and the content
abbrev pub string_number : Kind → List ℕ → Option ℤ
string_number Str text = if slice_index text 0 == 34 then written (drop 1 text) else None
string_number _ text = None

-- the same of nodes, where they are one Str
abbrev pub number_inside : List Node → Option ℤ
number_inside (n ∷ []) = string_number (kind_of n) (text_of n)
number_inside _ = None

-- ---- amounts and truths: what has a part without a value has none itself

-- whether each two neighbours compare as the operator between them says
abbrev pub pairs_hold : List ℤ → List CompareOp → Bool
pairs_hold (x ∷ y ∷ ns) (op ∷ ops) = compared op x y && pairs_hold (y ∷ ns) ops
pairs_hold _ _ = true

-- a chain that is read has at least one operator, and one number more than operators
abbrev pub is_chain : List Amount → List CompareOp → Bool
is_chain xs ops = not (length ops == 0) && length xs == suc (length ops)

module _ (binding : List Bound) (bytes : List ℕ) where
  abbrev pub amount_step : Amount-F (Option ℤ) → Option ℤ
  amount_step (amounts.Number n) = Some n
  amount_step (amounts.Value name) = bound_at name binding >>= λ b. number_in bytes b.span
  amount_step (amounts.Content name) = bound_at name binding >>= λ b. number_inside b.nodes
  amount_step (amounts.Negated x) = x >>= λ n. within (neg_ℤ n)
  amount_step (amounts.Arith op x y) = x >>= λ m. y >>= λ n. computed op m n

  unfoldable pub value_of : Amount → Option ℤ
  value_of = fold-Amount (Option ℤ) amount_step

  -- the values of all of them
  abbrev pub values_of : List Amount → Option (List ℤ)
  values_of [] = Some []
  values_of (x ∷ xs) = value_of x >>= λ n. values_of xs >>= λ ns. Some (n ∷ ns)

  -- whether a number and those that follow compare as the operators between them say
  abbrev pub links_truth : ℤ → List Amount → List CompareOp → Option Bool
  links_truth n xs ops = values_of xs >>= λ ns. Some (pairs_hold (n ∷ ns) ops)

  -- all the numbers are computed, whatever the chain's shape; one of another shape is false
  abbrev pub chain_truth : List Amount → List CompareOp → Option Bool
  chain_truth xs ops = values_of xs >>= λ ns. Some (is_chain xs ops && pairs_hold ns ops)

  abbrev pub truth_step : Comparison-F (Option Bool) → Option Bool
  truth_step (truths.Or x y) = x >>= λ a. y >>= λ b. Some (a || b)
  truth_step (truths.And x y) = x >>= λ a. y >>= λ b. Some (a && b)
  truth_step (truths.Not x) = x >>= λ a. Some (not a)
  truth_step (truths.Chain xs ops) = chain_truth xs ops

  unfoldable pub truth_of : Comparison → Option Bool
  truth_of = fold-Comparison (Option Bool) truth_step

  -- a comparison without a value doesn't hold
  abbrev pub holds : Comparison → Bool
  holds c = elim (truth_of c) [ Some a ↦ a | None ↦ false ]
