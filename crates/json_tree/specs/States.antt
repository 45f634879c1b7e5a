-- The states of the automaton of the tokens, for those who read a text character by character.
use Rattle.std.specs.Prelude.{ℕ, ◌+◌, slice_index, ◌==◌, Bool, not}
use Rattle.lexing.specs.Rules.{symbol}
use Rattle.json_tree.specs.declared.table.TheConstants.{COLUMNS, ROWS}

-- the column of a character
unfoldable pub column : ℕ → ℕ
column c = slice_index COLUMNS (symbol c)

-- the state behind one more character, or 0 where no token or blanks go on so
unfoldable pub next_state : ℕ → ℕ → ℕ
next_state s c = slice_index ROWS (s + column c)

-- whether a token or blanks may end in the state
unfoldable pub may_end : ℕ → Bool
may_end s = not (slice_index ROWS s == 0)
