-- Formulas.
use Rattle.std.specs.Prelude.{ℕ, zero, suc, ◌+◌, Bool, true, false, ◌||◌, List, [], ◌∷◌, codes, Option, Some, None, Result, Ok, Err, if◌then◌else◌}
use Rattle.yaml_cells.specs.declared.value.YValue.{YValue}
use Rattle.rule_form.specs.declared.formula.Formula.{Formula}
use Rattle.rule_form.specs.declared.formula.Formula.TheVariants as formulas
use Rattle.rule_form.specs.declared.formula.Child.{Child, out-Child}
use Rattle.rule_form.specs.declared.formula.Child.TheVariants as children
use Rattle.rule_form.specs.declared.formula.Child.TheOpen as layers
use Rattle.rule_form.specs.declared.rule.Propagator.{Propagator}
use Rattle.rule_keys.specs.declared.fault.RuleFaultKind.TheVariants.{WrongShape}
use Rattle.rule_keys.specs.declared.key.FormulaKey.{FormulaKey}
use Rattle.rule_keys.specs.declared.key.FormulaKey.TheVariants as formula_keys
use Rattle.rule_keys.specs.declared.key.ChildKey.{ChildKey}
use Rattle.rule_keys.specs.declared.key.ChildKey.TheVariants as child_keys
use Rattle.rule_keys.specs.declared.key.Role.{Role}
use Rattle.rule_keys.specs.declared.key.Role.TheVariants as roles
use Rattle.rule_keys.specs.declared.stop.Misfit.{Misfit}
use Rattle.std.specs.Fmt.{decimal}
use Rattle.rule_keys.specs.Misfits.{here, under}
use Rattle.rule_keys.specs.Values.{Entry, text_of, whole_text, whole_name, items_of, list_of, some_items, and_then, required_text, required_name}
use Rattle.rule_keys.specs.Keys.{map_of, one_of}
use Rattle.rule_keys.specs.Focus.{focus}
use Rattle.rule_entries.specs.Readings.{Reading, Then, After, Below, Each, AtPlace, gives, tells}
use Rattle.rule_entries.specs.Finds.{Leaf, IsCompared, IsNumber}

-- the value of `pattern`
abbrev pub IsPattern : Leaf → YValue → Reading Formula
IsPattern leaf v = After (whole_text v) leaf

-- the value of `pattern-regex` or `pattern-not-regex`: the number of a regular expression
abbrev pub IsRegex : YValue → Reading ℕ
IsRegex v = After (whole_text v) IsNumber

-- the value of `pattern-regex` as a formula
abbrev pub IsRegexFormula : YValue → Reading Formula
IsRegexFormula v = Then (IsRegex v) (λ k. gives (formulas.Regex k))

-- how the values of formula keys are read; the truth says that a `patterns` needs no operand there
abbrev pub Inner : Type 1
Inner = Bool → FormulaKey → YValue → Reading Formula

-- the formula that a map of the role holds, where `at` reads the value of its key
abbrev pub IsOne : (ChildKey → YValue → Reading Formula) → Role → List Entry → Reading Formula
IsOne at role es = After (one_of role es) (λ c. Below c.1.0 (at c.0 c.1.1))

-- the value of a formula key; where only such keys count there is no other
abbrev pub IsFormulaAt : Inner → Bool → ChildKey → YValue → Reading Formula
IsFormulaAt inner bare (child_keys.Formula k) v = inner bare k v
IsFormulaAt inner bare _ v = tells (Err (here WrongShape))

-- a map with one formula
abbrev pub IsMapped : Inner → YValue → Reading Formula
IsMapped inner v = After (map_of roles.Formula v) (IsOne (IsFormulaAt inner false) roles.Formula)

abbrev pub IsHeldBy : Leaf → Inner → YValue → Option (List ℕ) → Reading Formula
IsHeldBy leaf inner v (Some text) = leaf text
IsHeldBy leaf inner v None = IsMapped inner v

-- the value of `pattern-inside`, `pattern-not` or `pattern-not-inside`: a pattern, or a map with one formula
abbrev pub IsHeld : Leaf → Inner → YValue → Reading Formula
IsHeld leaf inner v = IsHeldBy leaf inner v (text_of v)

-- the value of a key in an item of `pattern-either`, where `pattern-inside` is just the formula that it holds; no other key counts there
abbrev pub IsAlternativeAt : Leaf → Inner → ChildKey → YValue → Reading Formula
IsAlternativeAt leaf inner (child_keys.Formula k) v = inner false k v
IsAlternativeAt leaf inner child_keys.Inside v = IsHeld leaf inner v
IsAlternativeAt leaf inner _ v = tells (Err (here WrongShape))

-- an item of `pattern-either`
abbrev pub IsAlternative : Leaf → Inner → YValue → Reading Formula
IsAlternative leaf inner v = After (map_of roles.Alternative v) (IsOne (IsAlternativeAt leaf inner) roles.Alternative)

-- the value of `pattern-either`
abbrev pub IsEither : Leaf → Inner → YValue → Reading Formula
IsEither leaf inner v = After (items_of v) (λ vs. Then (Each (AtPlace (IsAlternative leaf inner)) 0 vs) (λ fs. gives (formulas.Any fs)))

-- the value of `metavariable-regex`
abbrev pub IsMetaRegex : YValue → Reading Child
IsMetaRegex v =
    After (map_of roles.MetaRegex v) (λ es.
    After (required_name (codes "metavariable") es) (λ name.
    After (required_text (codes "regex") es) (λ text.
    Then (IsNumber text) (λ k. gives (children.MetaRegex name k)))))

-- the value of `metavariable-comparison`
abbrev pub IsMetaCompare : YValue → Reading Child
IsMetaCompare v =
    After (map_of roles.MetaCompare v) (λ es.
    After (required_text (codes "comparison") es) (λ text.
    Then (Below (codes "comparison") (IsCompared text)) (λ c. gives (children.MetaCompare c))))

-- the value of `metavariable-pattern`
abbrev pub IsMetaPattern : Inner → YValue → Reading Child
IsMetaPattern inner v =
    After (map_of roles.MetaPattern v) (λ es.
    After (required_name (codes "metavariable") es) (λ name.
    Then (IsOne (IsFormulaAt inner true) roles.MetaPattern es) (λ f. gives (children.MetaPattern name f))))

-- the value of a key in an item of `patterns`
abbrev pub IsChildAt : Leaf → Inner → ChildKey → YValue → Reading Child
IsChildAt leaf inner (child_keys.Formula k) v = Then (inner false k v) (λ f. gives (children.Positive f))
IsChildAt leaf inner child_keys.Inside v = Then (IsHeld leaf inner v) (λ f. gives (children.Inside f))
IsChildAt leaf inner child_keys.Not v = Then (IsHeld leaf inner v) (λ f. gives (children.Not f))
IsChildAt leaf inner child_keys.NotInside v = Then (IsHeld leaf inner v) (λ f. gives (children.NotInside f))
IsChildAt leaf inner child_keys.NotRegex v = Then (IsRegex v) (λ k. gives (children.NotRegex k))
IsChildAt leaf inner child_keys.MetaRegex v = IsMetaRegex v
IsChildAt leaf inner child_keys.MetaCompare v = IsMetaCompare v
IsChildAt leaf inner child_keys.MetaPattern v = IsMetaPattern inner v
IsChildAt leaf inner child_keys.Focus v = After (focus v) (λ names. gives (children.Focus names))

-- an item of `patterns`
abbrev pub IsChild : Leaf → Inner → YValue → Reading Child
IsChild leaf inner v =
    After (map_of roles.Child v) (λ es. After (one_of roles.Child es) (λ c. Below c.1.0 (IsChildAt leaf inner c.0 c.1.1)))

abbrev layer_operand : layers.Child-F Child Formula → Bool
layer_operand (layers.Positive f) = true
layer_operand (layers.Inside f) = true
layer_operand _ = false

-- a child that ranges come from
abbrev pub is_operand : Child → Bool
is_operand c = layer_operand (out-Child c)

abbrev pub has_operand : List Child → Bool
has_operand [] = false
has_operand (c ∷ cs) = is_operand c || has_operand cs

-- all children, of which one must be an operand unless `bare`
abbrev pub all_of : Bool → List Child → Result Formula Misfit
all_of bare cs = if bare || has_operand cs then Ok (formulas.All cs) else Err (here WrongShape)

-- the value of `patterns`
abbrev pub IsPatterns : Leaf → Inner → Bool → YValue → Reading Formula
IsPatterns leaf inner bare v = After (items_of v) (λ vs. Then (Each (AtPlace (IsChild leaf inner)) 0 vs) (λ cs. tells (all_of bare cs)))

-- the value of a formula key, in at most so many levels of formulas
abbrev pub IsFormula : ℕ → Leaf → Inner
IsFormula zero leaf bare k v s o = ⊥
IsFormula (suc n) leaf bare formula_keys.Pattern v s o = IsPattern leaf v s o
IsFormula (suc n) leaf bare formula_keys.Patterns v s o = IsPatterns leaf (IsFormula n leaf) bare v s o
IsFormula (suc n) leaf bare formula_keys.Either v s o = IsEither leaf (IsFormula n leaf) v s o
IsFormula (suc n) leaf bare formula_keys.Regex v s o = IsRegexFormula v s o

-- an item of `pattern-propagators`
abbrev pub IsPropagator : Inner → YValue → Reading Propagator
IsPropagator inner v =
    After (map_of roles.Propagator v) (λ es.
    Then (IsOne (IsFormulaAt inner false) roles.Propagator es) (λ f.
    After (required_name (codes "from") es) (λ from.
    After (required_name (codes "to") es) (λ to.
    gives (record { formula = f; source = from; target = to })))))
