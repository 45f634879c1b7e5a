-- How far a function is from the bottom of the grammar, where levels of the same rank in brackets are as far.
use Rattle.std.proofs.Common.{◌≡◌, ℕ, ◌+◌, ◌<◌, true, arith}
use Rattle.py_expr.specs.reader.Reading.{takes_clauses}
use Rattle.py_expr.specs.declared.level.Binary.{Binary}
use Rattle.py_expr.specs.declared.level.Binary.TheVariants as binaries
use Rattle.py_expr.specs.declared.level.Place.{Place}
use Rattle.py_expr.specs.declared.level.Place.TheVariants as places

abbrev pub of_operand : Binary → ℕ
of_operand binaries.Or = 65
of_operand binaries.And = 61
of_operand binaries.Bar = 49
of_operand binaries.Caret = 45
of_operand binaries.Ampersand = 41
of_operand binaries.Shift = 37
of_operand binaries.Sign = 33
of_operand binaries.Factor = 29

abbrev pub of_item : Place → ℕ
of_item places.Star = 81
of_item places.Item = 81
of_item places.Target = 57
of_item places.Piece = 85
of_item places.Arg = 85
of_item places.FirstArg = 85
of_item places.Param = 81
of_item places.LambdaParam = 81

-- where a comprehension may begin
pub takes_more : (p : Place) → takes_clauses p ≡ true → 80 < of_item p + 2
takes_more places.Star h = absurd cc
takes_more places.Item h = omega arith
takes_more places.Target h = absurd cc
takes_more places.Piece h = absurd cc
takes_more places.Arg h = absurd cc
takes_more places.FirstArg h = omega arith
takes_more places.Param h = absurd cc
takes_more places.LambdaParam h = absurd cc
