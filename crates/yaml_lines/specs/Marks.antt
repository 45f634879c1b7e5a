-- The marks `- ` of a line.
use Rattle.std.specs.Prelude.{ℕ, ◌+◌, List, [], ◌∷◌, ◌==◌, ◌||◌, if◌then◌else◌, Bool, false}
use Rattle.yaml_lines.specs.Blanks.{is_blank, is_sign}

-- where the marks stand, the content behind them, and whether a tab stands before a mark and before the content
pub record Marked : Type 0 where
  pub dashes : List ℕ
  pub content : List ℕ
  pub tab_before : Bool
  pub tab_after : Bool

-- the marks of what follows one more
abbrev pub with_mark : ℕ → Bool → Marked → Marked
with_mark at tab m = record { dashes = at ∷ m.dashes; content = m.content; tab_before = tab || m.tab_before; tab_after = m.tab_after }

-- the marks of what stands at a column, where `tab` says whether the blanks before it hold a tab
abbrev pub marks_at : ℕ → Bool → List ℕ → Marked
marks_at at tab [] = record { dashes = []; content = []; tab_before = false; tab_after = tab }
marks_at at tab (b ∷ bs) =
    if is_blank b then marks_at (at + 1) (tab || b == 9) bs
    else (if is_sign 45 b bs then with_mark at tab (marks_at (at + 1) false bs) else record { dashes = []; content = b ∷ bs; tab_before = false; tab_after = tab })

-- a comment is no content
abbrev pub without_comment : List ℕ → List ℕ
without_comment [] = []
without_comment (b ∷ bs) = if b == 35 then [] else b ∷ bs

-- the marks of a line
abbrev pub marks_of : List ℕ → Marked
marks_of line = let m = marks_at 0 false line in record { dashes = m.dashes; content = without_comment m.content; tab_before = m.tab_before; tab_after = m.tab_after }
