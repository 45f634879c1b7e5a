-- Which comparison a text is, and why it is none.
use Rattle.std.specs.Prelude.{◌≡◌, ℕ, List, [], ◌∷◌, length, Result, Ok, Err, ⊤}
use Rattle.rule_form.specs.declared.comparison.Comparison.{Comparison}
use Rattle.grammar.specs.Rule.{IsPiece}
use Rattle.meta_filter.specs.declared.fault.CompareFault.{CompareFault}
use Rattle.meta_filter.specs.declared.fault.CompareFault.TheVariants as faults
use Rattle.meta_filter.specs.declared.token.Token.{Token}
use Rattle.meta_filter.specs.declared.part.Part.{Part}
use Rattle.meta_filter.specs.declared.part.Meaning.TheVariants.{Truth}
use Rattle.meta_filter.specs.Lexing.{IsTokensOf}
use Rattle.meta_filter.specs.Table.{Either, grammar}
use Rattle.meta_filter.specs.Build.{part, source, depth_all}

-- all the tokens are the part, which is at most 100 deep
abbrev pub IsPartOf : List Token → Part → Type 0
IsPartOf ts p = IsPiece grammar depth_all (source ts) Either (part p ∷ []) 0 (length ts)

-- the text is the comparison: its tokens are a part that is this truth
pub record IsComparisonOf (text : List ℕ) (comparison : Comparison) : Type 0 where
  pub tokens : List Token
  pub lexes : IsTokensOf text tokens
  pub depth : ℕ
  pub spells : IsPartOf tokens (record { depth = depth; meaning = Truth comparison })

-- when each fault is given
abbrev pub IsFault : List ℕ → CompareFault → Type 0
IsFault text faults.Memory = ⊤
IsFault text faults.NoComparison = (comparison : Comparison) → IsComparisonOf text comparison → ⊥

-- no comparison but this one
abbrev pub GivesComparison : Comparison → Result Comparison CompareFault → Type 0
GivesComparison c (Ok found) = found ≡ c
GivesComparison c (Err faults.Memory) = ⊤
GivesComparison c (Err faults.NoComparison) = ⊥
