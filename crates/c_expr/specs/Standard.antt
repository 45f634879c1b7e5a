-- What the rows of the ten levels of binary operators mean (C11 6.5.5 to 6.5.14).
use Rattle.std.specs.Prelude.{◌↔◌, ℕ, List}
use Rattle.grammar.specs.Rule.{ref, make, ◌·◌, outside, Derives}
use Rattle.c_expr.specs.declared.word.Token.{Token}
use Rattle.c_expr.specs.declared.part.Part.{Part}
use Rattle.c_expr.specs.declared.operators.Precedence.{Precedence}
use Rattle.c_expr.specs.Table.{Chain, Row, table}
use Rattle.c_expr.specs.Build.{source}
use Rattle.c_expr.specs.reader.Reading.{chain_level, tail_level, tighter, right_level}

-- the standard's line `l = next {op next}`: the next level, and then operators of this one, each with a right side of the next level; operands are taken from the left
abbrev pub line : Precedence → Row
line k = make Chain (ref (right_level (tighter k)) · ref (tail_level k))

-- these tokens have these parts by a row
abbrev pub Says : List Token → Row → List Part → ℕ → ℕ → Type 0
Says ts r xs i j = Derives (source ts) table outside r xs i j

-- the row of the level says just what the standard's line says
abbrev pub IsLine : Precedence → Type 0
IsLine k = (ts : List Token) (xs : List Part) (i j : ℕ) → Says ts (table (chain_level k)) xs i j ↔ Says ts (line k) xs i j
