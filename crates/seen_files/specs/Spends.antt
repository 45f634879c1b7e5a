-- What it costs to see files again.
use Rattle.std.specs.Prelude.{◌≡◌, ◌↔◌, ◌+◌, ℕ, List, length, filter, Bool, not, ◌&&◌}
use Rattle.std.specs.List.{list_any}
use Rattle.std.specs.Str.{bytes_eq}
use Rattle.kept_leaves.specs.Pairs.{Pair, IsOneOf, AreApart}
use Rattle.file_results.specs.Shown.{File}

-- the same path, and the same bytes
abbrev pub is_same : File → File → Bool
is_same f g = bytes_eq g.0 f.0 && bytes_eq g.1 f.1

-- those of the files that were not there before: new ones, and those with other bytes
abbrev pub changed : List File → List File → List File
changed before now = filter (λ f. not (list_any (is_same f) before)) now

-- A step for each changed file, and one for each new pair: one that is needed now and wasn't before. Of pairs that count as one
-- there is one among the new ones.
pub record Spends (files_before files_now : List File) (Before Now : Pair → Type 0) (before after : ℕ) : Type 0 where
  pub news : List Pair
  pub exact : (x : Pair) → IsOneOf news x ↔ (Now x × (Before x → ⊥))
  pub apart : AreApart news
  pub cost : after ≡ before + length (changed files_before files_now) + length news
