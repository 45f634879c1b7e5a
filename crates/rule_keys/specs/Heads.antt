-- What each rule must say of itself: id, message, severity and languages.
use Rattle.std.specs.Prelude.{ℕ, ◌+◌, Bool, true, false, ◌&&◌, List, [], ◌∷◌, map, codes, if◌then◌else◌, Option, Some, None, Result, Ok, Err}
use Rattle.std.specs.Option.{is_some}
use Rattle.std.specs.Str.{bytes_eq}
use Rattle.std.specs.Fmt.{decimal}
use Rattle.lexing.specs.WordList.{is_among}
use Rattle.node_tree.specs.declared.view.Lang.{Lang}
use Rattle.node_tree.specs.declared.view.Lang.TheVariants as langs
use Rattle.yaml_cells.specs.declared.value.YValue.{YValue}
use Rattle.rule_form.specs.declared.rule.Severity.{Severity}
use Rattle.rule_form.specs.declared.rule.Severity.TheVariants as severities
use Rattle.rule_keys.specs.declared.fault.RuleFaultKind.TheVariants.{WrongShape, OutsideProfile}
use Rattle.rule_keys.specs.declared.stop.Misfit.{Misfit}
use Rattle.rule_keys.specs.Misfits.{here, at, under}
use Rattle.rule_keys.specs.Values.{Entry, look, text_of, or_misfit, and_then, required, required_text, items_of}

abbrev pub some_text : Misfit → List ℕ → Result (List ℕ) Misfit
some_text m [] = Err m
some_text m (b ∷ bs) = Ok (b ∷ bs)

-- the id, which isn't empty
abbrev pub id_of : List Entry → Result (List ℕ) Misfit
id_of es = and_then (required_text (codes "id") es) (some_text (at (codes "id") WrongShape))

-- the severities that came later
abbrev pub level_of : List ℕ → Option Severity
level_of text =
    if bytes_eq text (codes "LOW") then Some severities.Low
    else (if bytes_eq text (codes "MEDIUM") then Some severities.Medium
    else (if bytes_eq text (codes "HIGH") then Some severities.High
    else (if bytes_eq text (codes "CRITICAL") then Some severities.Critical else None)))

abbrev pub severity_named : List ℕ → Option Severity
severity_named text =
    if bytes_eq text (codes "INFO") then Some severities.Info
    else (if bytes_eq text (codes "WARNING") then Some severities.Warning
    else (if bytes_eq text (codes "ERROR") then Some severities.Error else level_of text))

abbrev pub severity_of : List Entry → Result Severity Misfit
severity_of es = and_then (required_text (codes "severity") es) (λ text. or_misfit (at (codes "severity") WrongShape) (severity_named text))

-- `py` is `python`
abbrev pub full_name : List ℕ → List ℕ
full_name text = if bytes_eq text (codes "py") then codes "python" else text

abbrev pub lang_named : List ℕ → Option Lang
lang_named text =
    if bytes_eq text (codes "python") then Some langs.Python
    else (if bytes_eq text (codes "c") then Some langs.C
    else (if bytes_eq text (codes "json") then Some langs.Json
    else (if bytes_eq text (codes "regex") then Some langs.Regex else None)))

abbrev name_or_none : Option (List ℕ) → List ℕ
name_or_none None = []
name_or_none (Some text) = full_name text

-- the full name of the language that a value names, empty where it is no text
abbrev pub named : YValue → List ℕ
named v = name_or_none (text_of v)

abbrev pub are_texts : List YValue → Bool
are_texts [] = true
are_texts (v ∷ vs) = is_some (text_of v) && are_texts vs

-- no text is a later one too
abbrev pub are_distinct : List (List ℕ) → Bool
are_distinct [] = true
are_distinct (t ∷ ts) = if is_among ts t then false else are_distinct ts

abbrev pub lang_of : YValue → Result Lang Misfit
lang_of v = or_misfit (here OutsideProfile) (lang_named (named v))

-- the languages of items from a place on
abbrev pub langs_from : ℕ → List YValue → Result (List Lang) Misfit
langs_from k [] = Ok []
langs_from k (v ∷ vs) = and_then (under (decimal k) (lang_of v)) (λ lang. and_then (langs_from (k + 1) vs) (λ more. Ok (lang ∷ more)))

abbrev pub listed_langs : List YValue → Result (List Lang) Misfit
listed_langs vs = if are_texts vs && are_distinct (map named vs) then langs_from 0 vs else Err (here WrongShape)

-- the languages that a value lists: texts, each language once, and then each one that is read here
abbrev pub langs_of : YValue → Result (List Lang) Misfit
langs_of v = and_then (items_of v) listed_langs

abbrev pub languages : List Entry → Result (List Lang) Misfit
languages es = and_then (required (codes "languages") es) (λ v. under (codes "languages") (langs_of v))
