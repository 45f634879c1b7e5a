-- What a rule looks for, in each of its languages.
use Rattle.std.specs.Prelude.{◌≡◌, ℕ, Bool, false, List, [], ◌∷◌, codes, if◌then◌else◌, Option, Some, None, Result, Ok}
use Rattle.std.specs.Str.{bytes_eq}
use Rattle.node_tree.specs.declared.view.Lang.{Lang}
use Rattle.yaml_cells.specs.declared.value.YValue.{YValue}
use Rattle.rule_form.specs.declared.formula.Formula.{Formula}
use Rattle.rule_form.specs.declared.rule.Propagator.{Propagator}
use Rattle.rule_form.specs.declared.rule.TaintRule.{TaintRule}
use Rattle.rule_form.specs.declared.rule.Body.{Body}
use Rattle.rule_form.specs.declared.rule.Body.TheVariants.{Search, Taint}
use Rattle.rule_form.specs.declared.rule.Part.{Part}
use Rattle.rule_keys.specs.declared.mode.RuleMode.{RuleMode}
use Rattle.rule_keys.specs.declared.mode.RuleMode.TheVariants as modes
use Rattle.rule_entries.specs.declared.body.TaintKey.{TaintKey}
use Rattle.rule_entries.specs.declared.body.TaintKey.TheVariants as keys
use Rattle.rule_entries.specs.declared.found.Setting.{Setting}
use Rattle.rule_keys.specs.declared.key.Role.TheVariants as roles
use Rattle.rule_keys.specs.declared.stop.Misfit.{Misfit}
use Rattle.rule_keys.specs.Values.{Entry, and_then, items_of, required}
use Rattle.rule_keys.specs.Keys.{one_of}
use Rattle.rule_entries.specs.Readings.{Reading, Then, After, Below, Each, AtPlace, gives}
use Rattle.rule_entries.specs.Finds.{Writes, IsLeaf}
use Rattle.rule_entries.specs.Formulas.{Inner, IsFormula, IsFormulaAt, IsMapped, IsOne, IsPropagator}

-- how deep formulas are read; a value of fewer than 2^32 values has none that is deeper
abbrev pub room : ℕ
room = 4294967295

-- the keys of taint
abbrev pub taint_key : List ℕ → Option TaintKey
taint_key key =
    if bytes_eq key (codes "pattern-sources") then Some keys.Sources
    else (if bytes_eq key (codes "pattern-sinks") then Some keys.Sinks
    else (if bytes_eq key (codes "pattern-sanitizers") then Some keys.Sanitizers
    else (if bytes_eq key (codes "pattern-propagators") then Some keys.Propagators else None)))

-- a list of maps with one formula each
abbrev pub IsFormulas : Inner → YValue → Reading (List Formula)
IsFormulas inner v = After (items_of v) (Each (AtPlace (IsMapped inner)) 0)

-- a list of propagators
abbrev pub IsPropagators : Inner → YValue → Reading (List Propagator)
IsPropagators inner v = After (items_of v) (Each (AtPlace (IsPropagator inner)) 0)

abbrev pub with_sources : TaintRule → List Formula → TaintRule
with_sources t fs = record { sources = fs; sinks = t.sinks; sanitizers = t.sanitizers; propagators = t.propagators }

abbrev pub with_sinks : TaintRule → List Formula → TaintRule
with_sinks t fs = record { sources = t.sources; sinks = fs; sanitizers = t.sanitizers; propagators = t.propagators }

abbrev pub with_sanitizers : TaintRule → List Formula → TaintRule
with_sanitizers t fs = record { sources = t.sources; sinks = t.sinks; sanitizers = fs; propagators = t.propagators }

abbrev pub with_propagators : TaintRule → List Propagator → TaintRule
with_propagators t ps = record { sources = t.sources; sinks = t.sinks; sanitizers = t.sanitizers; propagators = ps }

-- what an entry adds to the lists of taint
abbrev pub IsAdded : Inner → TaintRule → Entry → Option TaintKey → Reading TaintRule
IsAdded inner t e None = gives t
IsAdded inner t e (Some keys.Sources) = Then (Below e.0 (IsFormulas inner e.1)) (λ fs. gives (with_sources t fs))
IsAdded inner t e (Some keys.Sinks) = Then (Below e.0 (IsFormulas inner e.1)) (λ fs. gives (with_sinks t fs))
IsAdded inner t e (Some keys.Sanitizers) = Then (Below e.0 (IsFormulas inner e.1)) (λ fs. gives (with_sanitizers t fs))
IsAdded inner t e (Some keys.Propagators) = Then (Below e.0 (IsPropagators inner e.1)) (λ ps. gives (with_propagators t ps))

-- the lists of taint, in written order, where some were read
abbrev pub IsTaint : Inner → TaintRule → List Entry → Reading TaintRule
IsTaint inner t [] = gives t
IsTaint inner t (e ∷ es) = Then (IsAdded inner t e (taint_key e.0)) (λ u. IsTaint inner u es)

abbrev pub no_taint : TaintRule
no_taint = record { sources = []; sinks = []; sanitizers = []; propagators = [] }

abbrev pub IsBody : Inner → RuleMode → List Entry → Reading Body
IsBody inner modes.Search es = Then (IsOne (IsFormulaAt inner false) roles.Formula es) (λ f. gives (Search f))
IsBody inner modes.Taint es = Then (IsTaint inner no_taint es) (λ t. gives (Taint t))

-- the patterns found are those of the part
abbrev pub takes_patterns : Lang → Body → Reading Part
takes_patterns lang body s o = o ≡ Ok (record { lang = lang; patterns = s.patterns; body = body }, record { patterns = []; texts = s.texts })

-- the value of a formula key, however deep
abbrev pub IsFormulaOf : Writes → Setting → Inner
IsFormulaOf writes setting = IsFormula room (IsLeaf writes setting)

-- the part of a rule in one language
abbrev pub IsPart : Writes → Setting → RuleMode → List Entry → Reading Part
IsPart writes setting mode es = Then (IsBody (IsFormulaOf writes setting) mode es) (takes_patterns setting.lang)

abbrev pub setting_of : Bool → Lang → Setting
setting_of constants lang = record { lang = lang; constants = constants }

-- the parts of a rule, one for each language
abbrev pub IsParts : Writes → Bool → RuleMode → List Entry → List Lang → Reading (List Part)
IsParts writes constants mode es langs = Each (λ k lang. IsPart writes (setting_of constants lang) mode es) 0 langs
