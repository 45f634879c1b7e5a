-- What a map of rule files keeps.
use Rattle.std.specs.Prelude.{◌≡◌, ◌≤◌, ℕ, ◌<◌, List, [], ◌∷◌, ⊤, Result, Ok, Err, length, insert, slice_set}
use Rattle.std.specs.Map.{keys_of}
use Rattle.std.specs.List.Sorted.{IsStrictlySortedBy}
use Rattle.scan_world.specs.Files.{Files, path_cmp}
use Rattle.rule_entries.specs.Finds.{Writes}
use Rattle.rule_files.specs.declared.rule_file.RuleFile.{RuleFile}
use Rattle.rule_files.specs.RuleFiles.{IsRuleFile}
use Rattle.file_map.specs.FileMap.{File}
use Rattle.rule_map.specs.RuleMap.{AreRuleFiles, count_of}

-- the file is that rule file, and no other
abbrev pub IsOnly : Writes → File → RuleFile → Type 0
IsOnly writes f c = IsRuleFile writes f.0 f.1 c × ((d : RuleFile) → IsRuleFile writes f.0 f.1 d → d ≡ c)

-- each of the files, in order, is that rule file and no other
abbrev pub AreOnly : Writes → Files → List RuleFile → Type 0
AreOnly writes [] [] = ⊤
AreOnly writes [] (c ∷ cs) = ⊥
AreOnly writes (f ∷ fs) [] = ⊥
AreOnly writes (f ∷ fs) (c ∷ cs) = IsOnly writes f c × AreOnly writes fs cs

-- files in order of name beside the rule files that they are, all within the limits
pub record IsKept (writes : Writes) (files : Files) (contents : List RuleFile) (entries : ℕ) : Type 0 where
  pub ordered : IsStrictlySortedBy path_cmp (keys_of files)
  pub read : AreOnly writes files contents
  pub counted : entries ≡ count_of contents
  pub few_files : length files ≤ 100
  pub few_entries : entries ≤ 1000

-- the rule files, with that one in place of one that is there, or between others
abbrev pub put_at : Result ℕ ℕ → List RuleFile → RuleFile → List RuleFile
put_at (Ok at) contents c = slice_set contents at c
put_at (Err at) contents c = insert contents at c

-- a place of one of so many, or between them
abbrev pub IsPlaceIn : List RuleFile → Result ℕ ℕ → Type 0
IsPlaceIn contents (Ok at) = at < length contents
IsPlaceIn contents (Err at) = at ≤ length contents

-- the entries of all these files are so many
abbrev pub HaveEntries : Writes → Files → ℕ → Type 0
HaveEntries writes files entries = (contents : List RuleFile) → AreRuleFiles writes files contents → entries ≡ count_of contents
