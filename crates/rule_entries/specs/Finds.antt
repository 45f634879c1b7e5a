-- Patterns, comparisons and regular expressions, as they are found.
use Rattle.std.specs.Prelude.{◌≡◌, ◌⊎◌, ℕ, List, [], ◌∷◌, ◌++◌, length, Ok, Err}
use Rattle.node_tree.specs.declared.view.Pattern.{Pattern}
use Rattle.node_tree.specs.declared.view.Lang.{Lang}
use Rattle.code_reader.specs.declared.fault.PatternFault.{PatternFault}
use Rattle.code_reader.specs.declared.fault.PatternFault.TheVariants as faults
use Rattle.rule_form.specs.declared.comparison.Comparison.{Comparison}
use Rattle.rule_form.specs.declared.formula.Formula.{Formula}
use Rattle.rule_form.specs.declared.formula.Formula.TheVariants as formulas
use Rattle.meta_filter.specs.Comparisons.{IsComparisonOf}
use Rattle.rule_keys.specs.declared.fault.RuleFaultKind.TheVariants.{BadPattern, BadComparison}
use Rattle.rule_entries.specs.declared.found.Found.{Found}
use Rattle.rule_entries.specs.declared.found.Setting.{Setting}
use Rattle.rule_keys.specs.declared.stop.Stop.{Stop}
use Rattle.rule_keys.specs.declared.stop.Stop.TheVariants.{Memory, Bad}
use Rattle.rule_keys.specs.Misfits.{here}
use Rattle.rule_keys.specs.TextPlaces.{place_of, with_text}
use Rattle.rule_entries.specs.Readings.{Reading}

-- which texts write which patterns in a language
abbrev pub Writes : Type 1
Writes = Lang → List ℕ → Pattern → Type 0

-- how a text is read as a leaf
abbrev pub Leaf : Type 1
Leaf = List ℕ → Reading Formula

-- a pattern with the setting's word on names that are known to hold a literal
abbrev pub as_set : Setting → Pattern → Pattern
as_set setting p = record { lang = p.lang; shape = p.shape; tree = p.tree; constants = setting.constants }

-- one pattern more
abbrev pub with_pattern : Pattern → Found → Found
with_pattern p s = record { patterns = s.patterns ++ p ∷ []; texts = s.texts }

-- the pattern is the next leaf
abbrev pub IsNextLeaf : Setting → Pattern → Reading Formula
IsNextLeaf setting p s o = o ≡ Ok (formulas.Leaf (length s.patterns), with_pattern (as_set setting p) s)

-- a text that writes a pattern is the next leaf; any other is no pattern
abbrev pub IsLeaf : Writes → Setting → Leaf
IsLeaf writes setting text s o =
    ((p : Pattern) × writes setting.lang text p × IsNextLeaf setting p s o)
    ⊎ (((p : Pattern) → writes setting.lang text p → ⊥) × (o ≡ Err (here BadPattern)))

-- a text that is a comparison, and any other
abbrev pub IsCompared : List ℕ → Reading Comparison
IsCompared text s o =
    ((c : Comparison) × IsComparisonOf text c × (o ≡ Ok (c, s)))
    ⊎ (((c : Comparison) → IsComparisonOf text c → ⊥) × (o ≡ Err (here BadComparison)))

-- what was found, with the text
abbrev pub noting : List ℕ → Found → Found
noting text s = record { patterns = s.patterns; texts = with_text text s.texts }

-- the number of a regular expression
abbrev pub IsNumber : List ℕ → Reading ℕ
IsNumber text s o = o ≡ Ok (place_of text s.texts, noting text s)

-- a text that writes no pattern is a bad one, unless memory ran out
abbrev pub IsUnwritten : PatternFault → Stop → Type 0
IsUnwritten faults.Memory stop = stop ≡ Memory
IsUnwritten _ stop = stop ≡ Bad (here BadPattern)
