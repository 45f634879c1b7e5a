-- Block scalars: YAML 1.2.2, 8.1.
use Rattle.std.specs.Prelude.{ℕ, ◌+◌, ◌-◌, List, [], ◌∷◌, ◌++◌, ◌==◌, ◌||◌, ◌&&◌, nat_lt, if◌then◌else◌, Bool, true, false, Option, Some, None, drop}
use Rattle.std.specs.Option.{option_map}
use Rattle.std.specs.Str.{is_utf8}
use Rattle.yaml_lines.specs.Blanks.{is_blank, is_blank_line, indentation}
use Rattle.yaml_lines.specs.Key.{negate}
use Rattle.yaml_lines.specs.Lines.{is_some}
use Rattle.yaml_cells.specs.declared.block.Chomp.{Chomp}
use Rattle.yaml_cells.specs.declared.block.Chomp.TheVariants.{Strip, Clip, Keep}
use Rattle.yaml_cells.specs.declared.block.Header.{Header}
use Rattle.yaml_cells.specs.Fold.{breaks}

-- what becomes of the last line ends
abbrev pub chomp_of : List ℕ → Option Chomp
chomp_of [] = Some Clip
chomp_of (b ∷ []) = if b == 45 then Some Strip else (if b == 43 then Some Keep else None)
chomp_of (a ∷ b ∷ bs) = None

-- a header that folds or not
abbrev pub header_with : Bool → Option Chomp → Option Header
header_with folds c = option_map (λ x. record { folds = folds; chomp = x }) c

-- what a header says
abbrev pub header_of : List ℕ → Option Header
header_of [] = None
header_of (b ∷ bs) = if b == 124 then header_with false (chomp_of bs) else (if b == 62 then header_with true (chomp_of bs) else None)

-- the column of a block scalar: that of its first line that isn't blank, if there is one
abbrev pub column_of : List (List ℕ) → Option ℕ
column_of [] = None
column_of (l ∷ ls) = if is_blank_line l then column_of ls else Some (indentation l)

-- a line from a column on. Without a column a line says nothing
abbrev pub past_column : Option ℕ → List ℕ → List ℕ
past_column None line = []
past_column (Some column) line = drop column line

-- between two lines that fold one line end is a space, and n empty lines are n line feeds
abbrev pub fold_breaks : ℕ → List ℕ
fold_breaks gap = if gap == 0 then 32 ∷ [] else breaks gap

-- what stands before a line, which `kept` says doesn't fold, after so many empty ones, and before those a line that folds or not, if there is one
abbrev pub before_row : Option Bool → Bool → ℕ → List ℕ
before_row None kept gap = breaks gap
before_row (Some before) kept gap = if before || kept then breaks gap ++ 10 ∷ [] else fold_breaks gap

-- a line that begins with this byte doesn't fold
abbrev pub is_kept : Header → ℕ → Bool
is_kept h b = negate h.folds || is_blank b

-- how many line ends there are at the end, where `text` says that some line isn't empty, and `ended` that the last line has a line end
abbrev pub ends_of : Bool → ℕ → Bool → ℕ
ends_of text gap ended = let all = if text then gap + 1 else gap in if ended then all else all - 1

-- how many of them stay
abbrev pub last_breaks : Chomp → Bool → ℕ → ℕ
last_breaks Strip text ends = 0
last_breaks Clip text ends = if text && nat_lt 0 ends then 1 else 0
last_breaks Keep text ends = ends

-- what stands before something
abbrev pub before : List ℕ → Option (List ℕ) → Option (List ℕ)
before bs rest = option_map (λ r. bs ++ r) rest

-- what a row says, and those after it, where `empty` is said if it is empty. The bytes of a text are UTF-8
abbrev pub with_row : Header → Option Bool → ℕ → List ℕ → Option (List ℕ) → (Option Bool → Option (List ℕ)) → Option (List ℕ)
with_row h kept gap [] empty more = empty
with_row h kept gap (b ∷ bs) empty more =
    if is_utf8 (b ∷ bs) then before (before_row kept (is_kept h b) gap ++ b ∷ bs) (more (Some (is_kept h b))) else None

-- what the lines of a block scalar say after a row that folds or not, if there is one, and so many empty ones
abbrev pub block_from : Header → Option ℕ → Bool → Option Bool → ℕ → List (List ℕ) → Option (List ℕ)
block_from h column ended kept gap [] = Some (breaks (last_breaks h.chomp (is_some kept) (ends_of (is_some kept) gap ended)))
block_from h column ended kept gap (l ∷ ls) =
    with_row h kept gap (past_column column l) (block_from h column ended kept (gap + 1) ls) (λ k. block_from h column ended k 0 ls)

-- what a block scalar says
abbrev pub block_of : Header → Bool → List (List ℕ) → Option (List ℕ)
block_of h ended body = block_from h (column_of body) ended None 0 body
