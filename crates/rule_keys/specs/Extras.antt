-- What a rule may say besides: its fix, its paths and its options.
use Rattle.std.specs.Prelude.{ℕ, Bool, true, false, ◌||◌, not, List, [], ◌∷◌, codes, if◌then◌else◌, Option, Some, None, Result, Ok, Err}
use Rattle.std.specs.Str.{bytes_eq}
use Rattle.yaml_cells.specs.declared.value.YValue.{YValue}
use Rattle.rule_keys.specs.declared.extra.Paths.{Paths}
use Rattle.rule_keys.specs.declared.fault.RuleFaultKind.TheVariants.{WrongShape}
use Rattle.rule_keys.specs.declared.stop.Misfit.{Misfit}
use Rattle.rule_keys.specs.Misfits.{here, at, under}
use Rattle.rule_keys.specs.Values.{Entry, look, text_of, list_of, entries_of, or_misfit, and_then, whole_text}

abbrev fix_by : Option YValue → Result (Option (List ℕ)) Misfit
fix_by None = Ok None
fix_by (Some v) = and_then (or_misfit (at (codes "fix") WrongShape) (text_of v)) (λ text. Ok (Some text))

-- the fix, if there is one: a text
abbrev pub fix_of : List Entry → Result (Option (List ℕ)) Misfit
fix_of es = fix_by (look (codes "fix") es)

abbrev inner_by : List ℕ → Option YValue → Result (List Entry) Misfit
inner_by key None = Ok []
inner_by key (Some v) = or_misfit (at key WrongShape) (entries_of v)

-- the entries of the map that a key holds, none where the key isn't there
abbrev pub inner_of : List ℕ → List Entry → Result (List Entry) Misfit
inner_of key es = inner_by key (look key es)

-- the texts that items must be
abbrev pub texts_of : List YValue → Result (List (List ℕ)) Misfit
texts_of [] = Ok []
texts_of (v ∷ vs) = and_then (whole_text v) (λ text. and_then (texts_of vs) (λ more. Ok (text ∷ more)))

-- the list of texts that a value must be
abbrev pub listed : YValue → Result (List (List ℕ)) Misfit
listed v = and_then (or_misfit (here WrongShape) (list_of v)) texts_of

abbrev pub globs_by : List ℕ → Option YValue → Result (List (List ℕ)) Misfit
globs_by key None = Ok []
globs_by key (Some v) = under key (listed v)

-- the globs that a key of `paths` lists, none where the key isn't there
abbrev pub globs_of : List ℕ → List Entry → Result (List (List ℕ)) Misfit
globs_of key es = globs_by key (look key es)

abbrev pub paths_in : List Entry → Result Paths Misfit
paths_in es =
    and_then (globs_of (codes "include") es) (λ include. and_then (globs_of (codes "exclude") es) (λ exclude. Ok (record { include = include; exclude = exclude })))

abbrev pub paths_of : List Entry → Result Paths Misfit
paths_of es = and_then (inner_of (codes "paths") es) (λ inner. under (codes "paths") (paths_in inner))

abbrev is_false_text : Option (List ℕ) → Bool
is_false_text None = false
is_false_text (Some text) = bytes_eq text (codes "false")

abbrev pub is_false : YValue → Bool
is_false v = is_false_text (text_of v)

abbrev is_truth_text : Option (List ℕ) → Bool
is_truth_text None = false
is_truth_text (Some text) = bytes_eq text (codes "true") || bytes_eq text (codes "false")

-- `true` or `false`
abbrev pub is_truth : YValue → Bool
is_truth v = is_truth_text (text_of v)

abbrev constants_by : Option YValue → Bool
constants_by None = true
constants_by (Some v) = not (is_false v)

-- what the options say of literals
abbrev pub constants_in : List Entry → Bool
constants_in es = constants_by (look (codes "constant_propagation") es)

abbrev constants_if : Option (List Entry) → Bool
constants_if None = true
constants_if (Some es) = constants_in es

abbrev options_by : Option YValue → Bool
options_by None = true
options_by (Some v) = constants_if (entries_of v)

-- whether literals match names that are known to hold them: unless the option says `false`
abbrev pub constants_of : List Entry → Bool
constants_of es = options_by (look (codes "options") es)

-- the names of the options that have no meaning here
abbrev pub unread : List Entry → List (List ℕ)
unread [] = []
unread (e ∷ es) = if bytes_eq e.0 (codes "constant_propagation") then unread es else e.0 ∷ unread es

abbrev unread_by : List Entry → Option YValue → Result (List (List ℕ)) Misfit
unread_by es None = Ok (unread es)
unread_by es (Some v) = if is_truth v then Ok (unread es) else Err (at (codes "constant_propagation") WrongShape)

abbrev pub unread_in : List Entry → Result (List (List ℕ)) Misfit
unread_in es = unread_by es (look (codes "constant_propagation") es)

-- the options that have no meaning here, where `constant_propagation` is `true` or `false` if it is there
abbrev pub unread_of : List Entry → Result (List (List ℕ)) Misfit
unread_of es = and_then (inner_of (codes "options") es) (λ inner. under (codes "options") (unread_in inner))
