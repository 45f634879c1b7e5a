-- The rules that run, and the notices of rule files, where some texts of regular expressions are refused.
use Rattle.std.specs.Prelude.{◌≡◌, ℕ, suc, Bool, List, [], ◌∷◌, ◌++◌, map, codes, Some, slice_get, if◌then◌else◌}
use Rattle.std.specs.List.{list_any, flat_map}
use Rattle.std.specs.Str.{bytes_eq}
use Rattle.std.specs.Fmt.{decimal}
use Rattle.rule_form.specs.declared.rule.Rule.{Rule}
use Rattle.node_match.specs.Sets.{Among}
use Rattle.rule_entries.specs.declared.outcome.RuleOutcome.{RuleOutcome}
use Rattle.rule_entries.specs.declared.outcome.RuleOutcome.TheVariants.{Good, Bad}
use Rattle.report_form.specs.declared.notice.Notice.{Notice}
use Rattle.report_form.specs.declared.notice.NoticeKind.TheVariants as kinds
use Rattle.rule_files.specs.declared.rule_file.RuleContent.{RuleContent}
use Rattle.rule_files.specs.declared.rule_file.RuleContent.TheVariants as contents
use Rattle.rule_files.specs.declared.rule_file.RuleFile.{RuleFile}
use Rattle.rule_files.specs.RuleFiles.{outcomes_of}
use Rattle.running_rules.specs.Notes.{notice, kind_of, feature_word}
pub use Rattle.decided_texts.specs.Decided.{is_refused}

-- a rule, the name of its file and the number of its entry there, from 0
pub record Stated : Type 0 where
  pub file : List ℕ
  pub number : ℕ
  pub rule : Rule

-- the rule of the entry of that number, if it is a good one
abbrev pub stated_at : List ℕ → ℕ → RuleOutcome → List Stated
stated_at file k (Good rule) = record { file = file; number = k; rule = rule } ∷ []
stated_at file k (Bad fault) = []

-- the good rules of the entries from that number on
abbrev pub stated_from : List ℕ → ℕ → List RuleOutcome → List Stated
stated_from file k [] = []
stated_from file k (o ∷ os) = stated_at file k o ++ stated_from file (suc k) os

-- the good rules of all files, in order of file and entry
abbrev pub stated : List RuleFile → List Stated
stated [] = []
stated (f ∷ fs) = stated_from f.name 0 (outcomes_of f.content) ++ stated fs

-- the id is one of these
abbrev pub is_taken : List (List ℕ) → List ℕ → Bool
is_taken taken id = list_any (λ other. bytes_eq other id) taken

-- a rule is a repeat where some earlier good rule has its id
abbrev pub is_repeat : List Stated → Stated → Bool
is_repeat earlier s = list_any (λ (e : Stated). bytes_eq e.rule.id s.rule.id) earlier

-- each rule with those before it, where these are before the first
abbrev pub with_earlier : List Stated → List Stated → List (List Stated × Stated)
with_earlier earlier [] = []
with_earlier earlier (s ∷ ss) = (earlier, s) ∷ with_earlier (earlier ++ s ∷ []) ss

-- a rule that is no repeat
abbrev pub first_of : List Stated × Stated → List Stated
first_of p = if is_repeat p.0 p.1 then [] else p.1 ∷ []

-- the rules that are no repeats
abbrev pub firsts : List Stated → List Stated
firsts ss = flat_map first_of (with_earlier [] ss)

-- the texts of good rules, in order of rule and place
abbrev pub texts_of : List Stated → List (List ℕ)
texts_of ss = flat_map (λ (s : Stated). s.rule.texts) ss

-- each of these is one of those
abbrev pub AreTextsOf : List RuleFile → List (List ℕ) → Type 0
AreTextsOf files texts = (text : List ℕ) → Among texts text → Among (texts_of (stated files)) text

-- one of the rule's texts is, so that it doesn't run
abbrev pub has_refused : List (List ℕ) → Rule → Bool
has_refused refused rule = list_any (is_refused refused) rule.texts

-- the rules that run
abbrev pub built : List (List ℕ) → List Stated → List Rule
built refused [] = []
built refused (s ∷ ss) = if has_refused refused s.rule then built refused ss else s.rule ∷ built refused ss

abbrev pub running : List (List ℕ) → List RuleFile → List Rule
running refused files = built refused (firsts (stated files))

-- the key of an entry
abbrev pub entry_key : ℕ → List ℕ
entry_key number = codes "rules." ++ decimal number

-- the notice of an option that has no meaning here
abbrev pub option_notice : List ℕ → List ℕ → List ℕ → Notice
option_notice file id option = notice file id kinds.OptionUnread option

-- the notice of a text, if it is refused
abbrev pub refused_notices : List (List ℕ) → List ℕ → List ℕ → List ℕ → List Notice
refused_notices refused file id text = if is_refused refused text then notice file id kinds.Regex text ∷ [] else []

-- the notices of a rule that is no repeat: its unread options and its refused texts
abbrev pub first_notices : List (List ℕ) → Stated → List Notice
first_notices refused s =
    map (option_notice s.file s.rule.id) s.rule.unread ++ flat_map (refused_notices refused s.file s.rule.id) s.rule.texts

-- the notice of a repeat
abbrev pub repeat_notice : Stated → Notice
repeat_notice s = notice s.file s.rule.id kinds.DuplicateId (entry_key s.number ++ codes ".id")

-- the notices of a rule
abbrev pub notices_of : List (List ℕ) → List Stated × Stated → List Notice
notices_of refused p = if is_repeat p.0 p.1 then repeat_notice p.1 ∷ [] else first_notices refused p.1

-- the notices of good rules
abbrev pub stated_notices : List (List ℕ) → List Stated → List Notice
stated_notices refused ss = flat_map (notices_of refused) (with_earlier [] ss)

-- the notice of an entry that is no rule
abbrev pub fault_notices : List ℕ → RuleOutcome → List Notice
fault_notices file (Good rule) = []
fault_notices file (Bad fault) = notice file fault.id (kind_of fault.kind) fault.key ∷ []

-- the notices of a rule file, but for those of its good rules
abbrev pub content_notices : List ℕ → RuleContent → List Notice
content_notices file (contents.Rules outcomes) = flat_map (fault_notices file) outcomes
content_notices file contents.NotUtf8 = notice file [] kinds.NotUtf8 [] ∷ []
content_notices file (contents.OutsideProfile feature line) = notice file [] kinds.YamlProfile (feature_word feature ++ (codes ":" ++ decimal line)) ∷ []
content_notices file contents.NoValue = notice file [] kinds.YamlNoValue [] ∷ []
content_notices file contents.NoRules = notice file [] kinds.NoRules [] ∷ []

abbrev pub file_notices : RuleFile → List Notice
file_notices file = content_notices file.name file.content

-- the notices of the rule files
abbrev pub rule_notices : List (List ℕ) → List RuleFile → List Notice
rule_notices refused files = flat_map file_notices files ++ stated_notices refused (stated files)

-- no two rules have one id
abbrev pub AreApart : List Rule → Type 0
AreApart rules = (i j : ℕ) (r s : Rule) → slice_get rules i ≡ Some r → slice_get rules j ≡ Some s → r.id ≡ s.id → i ≡ j
