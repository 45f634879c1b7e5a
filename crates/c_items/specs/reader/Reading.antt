-- Steps of the reader: what each of its functions reads. `items`, `file_items` and `expression` promise them to `c_unit`, whose own promises cite none.
use Rattle.std.specs.Prelude.{ℕ, suc, ◌-◌, List, ◌∷◌, [], ◌++◌, length, Option, Some, None}
use Rattle.grammar.specs.Reader.{read, read_level, choice, ◌>>=◌}
use Rattle.c_expr.specs.declared.word.Token.{Token}
use Rattle.c_expr.specs.declared.part.Part.{Part}
use Rattle.c_expr.specs.Build.{cut_source}
use Rattle.c_items.specs.Table.{Level, Row, table}
use Rattle.c_items.specs.reader.Sets.{sets, ranks}

-- the reader of a level, by the table
unfoldable pub level : List Token → ℕ → Level → ℕ → Option (List Part × ℕ)
level ts room l i = read_level (cut_source ts) sets (suc (length ts)) table ranks.top room l i

-- what a row reads, over the levels at hand and those one step deeper
abbrev pub row : List Token → ℕ → Row → ℕ → Option (List Part × ℕ)
row ts room r i = read (cut_source ts) sets (suc (length ts)) (choice (level ts room) (level ts (room - 1))) (λ i. None) None r i

-- some parts, and what is read behind them
abbrev pub along : List Part → Option (List Part × ℕ) → Option (List Part × ℕ)
along ps r = r >>= λ x. Some (ps ++ x.0, x.1)

-- a place alone
abbrev pub place : ℕ → List Part × ℕ
place j = ([], j)
