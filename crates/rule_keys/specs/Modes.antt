-- What a rule does with its patterns, and the keys that it needs for that.
use Rattle.std.specs.Prelude.{ℕ, List, codes, if◌then◌else◌, Option, Some, None, Result, Ok, Err}
use Rattle.std.specs.Str.{bytes_eq}
use Rattle.yaml_cells.specs.declared.value.YValue.{YValue}
use Rattle.rule_keys.specs.declared.fault.RuleFaultKind.TheVariants.{WrongShape, OutsideProfile}
use Rattle.rule_keys.specs.declared.key.Role.TheVariants as roles
use Rattle.rule_keys.specs.declared.mode.RuleMode.{RuleMode}
use Rattle.rule_keys.specs.declared.mode.RuleMode.TheVariants as modes
use Rattle.rule_keys.specs.declared.stop.Misfit.{Misfit}
use Rattle.rule_keys.specs.Misfits.{at}
use Rattle.rule_keys.specs.Values.{Entry, look, text_of, or_misfit, and_then, required}
use Rattle.rule_keys.specs.Keys.{one_of}

abbrev pub mode_named : List ℕ → Result RuleMode Misfit
mode_named text =
    if bytes_eq text (codes "search") then Ok modes.Search
    else (if bytes_eq text (codes "taint") then Ok modes.Taint else Err (at (codes "mode") OutsideProfile))

abbrev mode_by : Option YValue → Result RuleMode Misfit
mode_by None = Ok modes.Search
mode_by (Some v) = and_then (or_misfit (at (codes "mode") WrongShape) (text_of v)) mode_named

-- the mode; a rule that says none searches
abbrev pub mode_of : List Entry → Result RuleMode Misfit
mode_of es = mode_by (look (codes "mode") es)

-- the keys of the mode are there: exactly one formula, or sources and sinks
abbrev pub check_body : RuleMode → List Entry → Result (Unit {0}) Misfit
check_body modes.Search es = and_then (one_of roles.Formula es) (λ _. Ok tt)
check_body modes.Taint es = and_then (required (codes "pattern-sources") es) (λ _. and_then (required (codes "pattern-sinks") es) (λ _. Ok tt))
