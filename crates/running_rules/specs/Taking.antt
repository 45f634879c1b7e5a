-- What the code knows while it takes up rules, one after the other.
use Rattle.std.specs.Prelude.{◌≡◌, ℕ, List, [], ◌∷◌, ◌++◌, if◌then◌else◌}
use Rattle.std.specs.Borrow.{Bor}
use Rattle.std.specs.Ordering.{nat_cmp}
use Rattle.std.specs.Cmp.Lexicographic.{slice_cmp}
use Rattle.std.specs.BTreeSet.{BTreeSet, contains}
use Rattle.rule_form.specs.declared.rule.Rule.{Rule}
use Rattle.report_form.specs.declared.notice.Notice.{Notice}
use Rattle.running_rules.specs.declared.running.Entry.{Entry}
use Rattle.running_rules.specs.Running.{Stated, is_taken, has_refused, first_notices, repeat_notice}

-- the entry without its borrows
abbrev pub said : Entry → Stated
said e = record { file = e.file.now; number = e.number; rule = e.rule.now }

-- the set has just these ids
abbrev pub HasJust : BTreeSet (Bor (List ℕ)) → List (List ℕ) → Type 0
HasJust taken ids = (key : Bor (List ℕ)) → contains (λ x y. slice_cmp nat_cmp x.now y.now) taken key ≡ is_taken ids key.now

-- the rules whose id no earlier one has, where these ids are taken before
abbrev pub firsts_after : List (List ℕ) → List Stated → List Stated
firsts_after taken [] = []
firsts_after taken (s ∷ ss) = if is_taken taken s.rule.id then firsts_after taken ss else s ∷ firsts_after (s.rule.id ∷ taken) ss

-- the notices of good rules, where these ids are taken before
abbrev pub notices_after : List (List ℕ) → List (List ℕ) → List Stated → List Notice
notices_after refused taken [] = []
notices_after refused taken (s ∷ ss) =
    if is_taken taken s.rule.id then repeat_notice s ∷ notices_after refused taken ss else first_notices refused s ++ notices_after refused (s.rule.id ∷ taken) ss

-- the ids that are taken after a rule, where these are before
abbrev pub ids_after : List (List ℕ) → Stated → List (List ℕ)
ids_after ids s = if is_taken ids s.rule.id then ids else s.rule.id ∷ ids

-- the rule, if it runs where those texts are refused
abbrev pub run_of : List (List ℕ) → Rule → List Rule
run_of refused rule = if has_refused refused rule then [] else rule ∷ []

-- the same, where these ids are taken before
abbrev pub rules_at : List (List ℕ) → List (List ℕ) → Stated → List Rule
rules_at refused ids s = if is_taken ids s.rule.id then [] else run_of refused s.rule

-- its notices
abbrev pub notices_at : List (List ℕ) → List (List ℕ) → Stated → List Notice
notices_at refused ids s = if is_taken ids s.rule.id then repeat_notice s ∷ [] else first_notices refused s
