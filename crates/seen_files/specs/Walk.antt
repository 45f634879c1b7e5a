-- What the code knows on its way over the files.
use Rattle.std.specs.Prelude.{◌≡◌, ◌⊎◌, ◌+◌, ℕ, List, [], ◌∷◌, ◌++◌, length, map, reverse, Option, None, Some, MatchOption, if◌then◌else◌}
use Rattle.std.specs.Str.{bytes_eq}
use Rattle.std.specs.declared.cmp.Ordering.TheVariants.{Less}
use Rattle.meta_bind.specs.Bounds.{name_cmp}
use Rattle.node_match.specs.Sets.{Among}
use Rattle.rule_form.specs.declared.rule.Rule.{Rule}
use Rattle.kept_leaves.specs.declared.leaf.KeptPairs.{KeptPairs}
use Rattle.kept_leaves.specs.Growth.{Meets}
use Rattle.kept_leaves.specs.Kept.{Map}
use Rattle.file_results.specs.Quieted.{Grammars}
use Rattle.file_results.specs.Shown.{File}
use Rattle.seen_files.specs.declared.seen.SeenFile.{SeenFile}
use Rattle.seen_files.specs.declared.seen.SeenFiles.{SeenFiles}
use Rattle.seen_files.specs.Needs.{IsNeeded}
use Rattle.seen_files.specs.Seen.{file_of, IsSeen}
use Rattle.seen_files.specs.Spends.{changed}

-- how often a file with these bytes is opened: not where it was seen with them
abbrev pub openings : Option SeenFile → List ℕ → ℕ
openings None bytes = 1
openings (Some was) bytes = if bytes_eq was.bytes.value bytes then 0 else 1

-- each of the files comes before the path
abbrev pub AreBefore : List ℕ → List SeenFile → Type 0
AreBefore path files = (s : SeenFile) → Among files s → name_cmp s.path path ≡ Less

-- the last of the files, which is there, comes after the path
abbrev pub EndsAfter : List ℕ → List SeenFile → Type 0
EndsAfter path files = (files ≡ []) ⊎ ((front : List SeenFile) × (last : SeenFile) × (files ≡ front ++ last ∷ []) × (name_cmp path last.path ≡ Less))

-- From the end of the files those before a path were taken away, and then that at the path, if it was there.
pub record Takes (path : List ℕ) (old : List SeenFile) (taken : Option SeenFile) (new : List SeenFile) : Type 0 where
  pub gone : List SeenFile
  pub before : AreBefore path gone
  pub found : MatchOption taken ((old ≡ new ++ gone) × EndsAfter path new) (λ s. (old ≡ new ++ s ∷ gone) × (s.path ≡ path))

-- what was seen before, its files the last one first
abbrev pub turned : List SeenFile → KeptPairs → SeenFiles
turned stack kept = record { files = reverse stack; kept = kept }

-- These files were seen by the rules, where those were there before. The pairs that the rules need in them are met. Each changed
-- file took a step, and each new pair.
pub record HasWalked (grammars : Grammars) (rules : List Rule) (old now : List File) (had : Map) (before : ℕ) (has : Map) (after : ℕ) (seen : List SeenFile) : Type 0 where
  pub files_are : map file_of seen ≡ now
  pub all : (s : SeenFile) → Among seen s → IsSeen grammars rules s
  pub meets : Meets (IsNeeded rules seen) had (before + length (changed old now)) has after

-- of the files that were seen before these are gone, each of which stands at or before one that is there now
pub record HasPassed (now : List File) (stack left : List SeenFile) : Type 0 where
  pub gone : List SeenFile
  pub split : stack ≡ left ++ gone
  pub passed : (s : SeenFile) → Among gone s → (f : File) × Among now f × (name_cmp f.0 s.path ≡ Less → ⊥)
