-- Sets of spans, and keys with numbers.
use Rattle.std.specs.Prelude.{◌≡◌, ℕ, List, [], ◌∷◌, ◌++◌, slice_get, Option, Some, None}
use Rattle.std.specs.declared.cmp.Ordering.{Ordering}
use Rattle.std.specs.declared.cmp.Ordering.TheVariants.{Equal}
use Rattle.std.specs.BTreeMap.{BTreeMap, get}
use Rattle.std.specs.BTreeSet.{contains}
use Rattle.node_tree.specs.declared.span.Span.{Span}
use Rattle.node_tree.specs.Span.{span_cmp}
use Rattle.taint_form.specs.declared.span_set.SpanSet.{SpanSet}
use Rattle.taint_form.specs.Expressions.{has_span}

-- the set has just these spans
abbrev pub Holds : SpanSet → List Span → Type 0
Holds set spans = (s : Span) → contains span_cmp set.spans s ≡ has_span spans s

-- the key has that number in the map exactly where an equal one stands there in the list
pub record AreNumbers {K : Type 0} (cmp : K → K → Ordering) (numbers : BTreeMap K ℕ) (keys : List K) : Type 0 where
  pub there : (key : K) (i : ℕ) → get cmp numbers key ≡ Some i → (other : K) × (slice_get keys i ≡ Some other) × (cmp key other ≡ Equal)
  pub found : (i : ℕ) (key : K) → slice_get keys i ≡ Some key → get cmp numbers key ≡ Some i

-- the keys and one more, unless it has a number
abbrev pub with_key : {K : Type 0} → Option ℕ → List K → K → List K
with_key None keys key = keys ++ key ∷ []
with_key (Some i) keys key = keys
