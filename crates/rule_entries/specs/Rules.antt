-- Rules, and what becomes of each entry.
use Rattle.std.specs.Prelude.{◌≡◌, ℕ, ◌+◌, List, [], ◌∷◌, ◌++◌, codes, if◌then◌else◌, Option, Some, None, Result, Ok, Err, ⊤, length, take, slice_get}
use Rattle.std.specs.List.{flat_map}
use Rattle.std.specs.Option.{option_and_then}
use Rattle.std.specs.Fmt.{decimal}
use Rattle.std.specs.Borrow.{Bor}
use Rattle.std.specs.Ordering.{nat_cmp}
use Rattle.std.specs.Cmp.Lexicographic.{slice_cmp}
use Rattle.std.specs.BTreeSet.{BTreeSet, contains}
use Rattle.node_tree.specs.declared.memory.Memory.{Memory}
use Rattle.lexing.specs.WordList.{is_among}
use Rattle.yaml_cells.specs.declared.value.YValue.{YValue}
use Rattle.rule_form.specs.declared.rule.Rule.{Rule}
use Rattle.rule_form.specs.declared.rule.Severity.{Severity}
use Rattle.rule_form.specs.declared.rule.Part.{Part}
use Rattle.rule_keys.specs.declared.extra.Paths.{Paths}
use Rattle.rule_keys.specs.declared.fault.RuleFaultKind.TheVariants.{WrongShape, DuplicateId}
use Rattle.rule_entries.specs.declared.outcome.RuleFault.{RuleFault}
use Rattle.rule_entries.specs.declared.outcome.RuleOutcome.{RuleOutcome}
use Rattle.rule_entries.specs.declared.outcome.RuleOutcome.TheVariants.{Good, Bad}
use Rattle.rule_entries.specs.declared.outcome.RulesFault.{RulesFault}
use Rattle.rule_entries.specs.declared.outcome.RulesFault.TheVariants as faults
use Rattle.rule_entries.specs.declared.found.Found.{Found}
use Rattle.rule_keys.specs.declared.stop.Misfit.{Misfit}
use Rattle.rule_keys.specs.declared.stop.Stop.{Stop}
use Rattle.rule_keys.specs.declared.stop.Stop.TheVariants as stops
use Rattle.rule_keys.specs.Misfits.{here, at}
use Rattle.rule_keys.specs.Values.{Entry, look, entries_of, list_of, required_text}
use Rattle.rule_entries.specs.Readings.{Reading, Outcome, Then, After}
use Rattle.rule_keys.specs.Heads.{id_of, severity_of, languages}
use Rattle.rule_keys.specs.Modes.{mode_of, check_body}
use Rattle.rule_entries.specs.Finds.{Writes}
use Rattle.rule_entries.specs.Bodies.{IsParts}
use Rattle.rule_keys.specs.Extras.{fix_of, paths_of, unread_of, constants_of}

-- nothing is found yet
abbrev pub nothing : Found
nothing = record { patterns = []; texts = [] }

-- a rule with the regular expressions that were found
abbrev pub IsMade : List ℕ → List ℕ → Severity → List Part → Option (List ℕ) → Paths → List (List ℕ) → Reading Rule
IsMade id message severity parts fix paths unread s o =
    o ≡ Ok (
      record {
        id = id;
        message = message;
        severity = severity;
        fix = fix;
        include = paths.include;
        exclude = paths.exclude;
        unread = unread;
        texts = s.texts;
        parts = parts;
      },
      s,
    )

-- the rule of an entry with an id, or the first thing that is wrong with it
abbrev pub IsRule : Writes → List ℕ → List Entry → Reading Rule
IsRule writes id es =
    After (required_text (codes "message") es) (λ message.
    After (severity_of es) (λ severity.
    After (languages es) (λ langs.
    After (mode_of es) (λ mode.
    After (check_body mode es) (λ _.
    Then (IsParts writes (constants_of es) mode es langs) (λ parts.
    After (fix_of es) (λ fix.
    After (paths_of es) (λ paths.
    After (unread_of es) (λ unread.
    IsMade id message severity parts fix paths unread)))))))))

-- the keys and places down to what is wrong, the last one first, with dots before them
abbrev pub dotted : List (List ℕ) → List ℕ
dotted [] = []
dotted (part ∷ parts) = dotted parts ++ (codes "." ++ part)

-- the way to what is wrong in the entry at a place
abbrev pub key_of : ℕ → List (List ℕ) → List ℕ
key_of k path = (codes "rules." ++ decimal k) ++ dotted path

-- the fault of the entry at a place
abbrev pub fault : ℕ → List ℕ → Misfit → RuleFault
fault k id m = record { kind = m.kind; id = id; key = key_of k m.path }

-- the entry at a place is bad for what it stopped at, unless memory runs out
abbrev pub IsBad : ℕ → List ℕ → Stop → Result RuleOutcome Memory → Type 0
IsBad k id stops.Memory (Ok o) = ⊥
IsBad k id (stops.Bad m) (Ok o) = o ≡ Bad (fault k id m)
IsBad k id stop (Err e) = ⊤

-- an entry that is a rule is bad all the same where its id is taken
abbrev pub decided : List (List ℕ) → ℕ → List ℕ → Outcome Rule → RuleOutcome
decided taken k id (Ok rule) = if is_among taken id then Bad (fault k id (at (codes "id") DuplicateId)) else Good rule.0
decided taken k id (Err m) = Bad (fault k id m)

abbrev pub IsOutcomeOf : Writes → List (List ℕ) → ℕ → List Entry → Result (List ℕ) Misfit → RuleOutcome → Type 0
IsOutcomeOf writes taken k es (Ok id) o = (p : Outcome Rule) × IsRule writes id es nothing p × (o ≡ decided taken k id p)
IsOutcomeOf writes taken k es (Err m) o = o ≡ Bad (fault k [] m)

abbrev pub IsOutcomeIn : Writes → List (List ℕ) → ℕ → Option (List Entry) → RuleOutcome → Type 0
IsOutcomeIn writes taken k (Some es) o = IsOutcomeOf writes taken k es (id_of es) o
IsOutcomeIn writes taken k None o = o ≡ Bad (fault k [] (here WrongShape))

-- what becomes of the entry at a place, where these ids are taken
abbrev pub IsOutcome : Writes → List (List ℕ) → ℕ → YValue → RuleOutcome → Type 0
IsOutcome writes taken k v o = IsOutcomeIn writes taken k (entries_of v) o

-- the id of a rule; an entry that is bad has none
abbrev pub rule_id : RuleOutcome → List (List ℕ)
rule_id (Good rule) = rule.id ∷ []
rule_id (Bad f) = []

-- the ids of those that are rules
abbrev pub rule_ids : List RuleOutcome → List (List ℕ)
rule_ids = flat_map rule_id

-- what becomes of the entries, one outcome for each: the ids of the rules before an entry are taken
pub record AreOutcomes (writes : Writes) (vs : List YValue) (os : List RuleOutcome) : Type 0 where
  pub size : length os ≡ length vs
  pub each : (k : ℕ) (v : YValue) (o : RuleOutcome) → slice_get vs k ≡ Some v → slice_get os k ≡ Some o → IsOutcome writes (rule_ids (take k os)) k v o

-- the entries: the items of the list that the key `rules` of a map holds
abbrev pub entries_in : YValue → Option (List YValue)
entries_in v = option_and_then (λ es. option_and_then list_of (look (codes "rules") es)) (entries_of v)

-- the outcomes of a value's entries, one for each, where `writes` says which texts write which patterns
pub record IsRulesOf (writes : Writes) (value : YValue) (os : List RuleOutcome) : Type 0 where
  pub entries : List YValue
  pub are_entries : entries_in value ≡ Some entries
  pub outcomes : AreOutcomes writes entries os

-- ---- for private clauses

-- the ids that are taken after an entry: a rule takes its id
abbrev pub taken_after : List (List ℕ) → RuleOutcome → List (List ℕ)
taken_after taken (Good rule) = rule.id ∷ taken
taken_after taken (Bad f) = taken

-- the set has just these ids
abbrev pub Tells : BTreeSet (Bor (List ℕ)) → List (List ℕ) → Type 0
Tells taken ids = (key : Bor (List ℕ)) → contains (λ x y. slice_cmp nat_cmp x.now y.now) taken key ≡ is_among ids key.now

-- a rule becomes this outcome, and the set then has the ids that are taken, unless memory runs out
abbrev pub Decides : List (List ℕ) → ℕ → List ℕ → Rule → Result RuleOutcome Memory → BTreeSet (Bor (List ℕ)) → Type 0
Decides ids k id rule (Ok o) taken = (o ≡ decided ids k id (Ok (rule, nothing))) × (rule.id ≡ id → Tells taken (taken_after ids o))
Decides ids k id rule (Err e) taken = ⊤

-- the entry comes to this outcome and no other, and the set then has the ids that are taken, unless memory runs out
abbrev pub Comes : List (List ℕ) → (RuleOutcome → Type 0) → Result RuleOutcome Memory → BTreeSet (Bor (List ℕ)) → Type 0
Comes ids R (Ok o) taken = R o × ((p : RuleOutcome) → R p → p ≡ o) × Tells taken (taken_after ids o)
Comes ids R (Err e) taken = ⊤

-- there are no rules, unless memory runs out
abbrev pub Refuses : Result (List RuleOutcome) RulesFault → Type 0
Refuses (Ok found) = ⊥
Refuses (Err e) = ⊤

-- no outcomes but these, unless memory runs out
abbrev pub GivesRules : List RuleOutcome → Result (List RuleOutcome) RulesFault → Type 0
GivesRules os (Ok found) = found ≡ os
GivesRules os (Err faults.Memory) = ⊤
GivesRules os (Err _) = ⊥
