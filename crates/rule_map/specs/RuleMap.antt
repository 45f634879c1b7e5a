-- Rule files by name, as a reader of patterns reads them, and the limits on them.
use Rattle.std.specs.Prelude.{◌≡◌, ℕ, List, [], ◌∷◌, ⊤, Option, None, Some, Result, Ok, Err, length, sum_by, nat_lt, if◌then◌else◌, refl}
use Rattle.std.specs.Coded.{Coded, code_by, coded×, coded_list, coded_ℕ}
use Rattle.scan_world.specs.Files.{Files}
use Rattle.rule_entries.specs.Finds.{Writes}
use Rattle.rule_files.specs.declared.rule_file.RuleFile.{RuleFile}
use Rattle.rule_files.specs.RuleFiles.{IsRuleFile, outcomes_of}
use Rattle.file_map.specs.declared.limit.LimitKind.{LimitKind}
use Rattle.file_map.specs.declared.limit.LimitKind.TheVariants as kinds
use Rattle.file_map.specs.declared.fault.PutFault.{PutFault}
use Rattle.file_map.specs.FileMap.{File, with_file, TellsPut}

-- for each of the files, in order, the rule file that its bytes are
abbrev pub AreRuleFiles : Writes → Files → List RuleFile → Type 0
AreRuleFiles writes [] [] = ⊤
AreRuleFiles writes [] (c ∷ cs) = ⊥
AreRuleFiles writes (f ∷ fs) [] = ⊥
AreRuleFiles writes (f ∷ fs) (c ∷ cs) = IsRuleFile writes f.0 f.1 c × AreRuleFiles writes fs cs

-- how many entries a rule file has, good and bad
abbrev pub entries_of : RuleFile → ℕ
entries_of rules = length (outcomes_of rules.content)

-- how many entries all have
abbrev pub count_of : List RuleFile → ℕ
count_of contents = sum_by entries_of contents

-- with that file put, the limit that the number of files passes, or else that its own bytes pass
abbrev pub size_over : Files → File → Option (LimitKind × ℕ)
size_over files file =
    if nat_lt 100 (length (with_file files file)) then Some (kinds.RuleFiles, length (with_file files file)) else (if nat_lt 262144 (length file.1) then Some (kinds.RuleBytes, 262145) else None)

-- the limit that the entries of all pass
abbrev pub entries_over : List RuleFile → Option (LimitKind × ℕ)
entries_over contents = if nat_lt 1000 (count_of contents) then Some (kinds.Rules, count_of contents) else None

-- a limit that is passed by size is passed first, and no bytes are read for it; or else the entries of all the files tell
abbrev pub PassesFirst : Writes → Files → Option (LimitKind × ℕ) → Option (LimitKind × ℕ) → Type 0
PassesFirst writes files (Some passed) over = over ≡ Some passed
PassesFirst writes files None over = (contents : List RuleFile) × AreRuleFiles writes files contents × (over ≡ entries_over contents)

-- with that file put, this limit is passed first, or none
abbrev pub PutRuleEnds : Writes → Files → File → Option (LimitKind × ℕ) → Type 0
PutRuleEnds writes files file over = PassesFirst writes (with_file files file) (size_over files file) over

-- rule files as a map holds them: the reader of their patterns, and the files in order of name, each with its bytes
pub record RuleTexts (R : Type 0) : Type 0 where
  pub reader : R
  pub files : Files

abbrev pub rule_texts_code : {R : Type 0} → Coded R → Coded (RuleTexts R)
rule_texts_code {R} code =
    code_by (R × Files) (coded× code (coded_list (coded× (coded_list coded_ℕ) (coded_list coded_ℕ)))) (λ e. (e.reader, e.files)) (λ p. record { reader = p.0; files = p.1 }) (λ _. refl)

-- of a put that succeeded, or told a limit, this holds: no limit was passed, or that one
abbrev pub TellsEnd : {X : Type 0} → (Option (LimitKind × ℕ) → Type 0) → Result X PutFault → Type 0
TellsEnd Holds (Ok x) = Holds None
TellsEnd Holds (Err fault) = TellsPut Holds fault
