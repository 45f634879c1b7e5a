-- The parts of a comparison: what they stand for, and how deep they are.
use Rattle.std.specs.Prelude.{ℕ, suc, max, nat_le, nat_lt, if◌then◌else◌, pos, List, Option, Some, None}
use Rattle.rule_form.specs.declared.comparison.Comparison.{Comparison, roll-Comparison}
use Rattle.rule_form.specs.declared.comparison.Comparison.TheOpen as truths
use Rattle.rule_form.specs.declared.comparison.Amount.{Amount, roll-Amount}
use Rattle.rule_form.specs.declared.comparison.Amount.TheOpen as amounts
use Rattle.rule_form.specs.declared.comparison.ArithOp.{ArithOp}
use Rattle.rule_form.specs.declared.comparison.ArithOp.TheVariants as ariths
use Rattle.rule_form.specs.declared.comparison.CompareOp.{CompareOp}
use Rattle.rule_form.specs.declared.comparison.CompareOp.TheVariants as compares
use Rattle.meta_filter.specs.declared.token.Word.{Word}
use Rattle.meta_filter.specs.declared.token.Word.TheVariants as words
use Rattle.meta_filter.specs.declared.part.Part.{Part}
use Rattle.meta_filter.specs.declared.part.Meaning.{Meaning}
use Rattle.meta_filter.specs.declared.part.Meaning.TheVariants.{Truth, Number, Wrong}
use Rattle.meta_filter.specs.Numerals.{magnitude}

-- a part of this depth, which is wrong where it is deeper than 100
abbrev pub part_of : ℕ → Meaning → Part
part_of depth meaning = record { depth = depth; meaning = if nat_le depth 100 then meaning else Wrong }

-- ---- parts of one token, of depth 1

-- a number, which is wrong where it doesn't fit in 128 bits with a sign
abbrev pub figure : List ℕ → Part
figure text = part_of 1 (if nat_lt (magnitude 10 text) 170141183460469231731687303715884105728 then Number (roll-Amount (amounts.Number (pos (magnitude 10 text)))) else Wrong)

-- `$NAME`
abbrev pub named : List ℕ → Part
named name = part_of 1 (Number (roll-Amount (amounts.Value name)))

-- `int($NAME)`
abbrev pub inside : List ℕ → Part
inside name = part_of 1 (Number (roll-Amount (amounts.Content name)))

-- ---- parts of parts, each one deeper than the deepest of them

-- parentheses, which stand for what they hold
abbrev pub enclosed : Part → Part
enclosed p = part_of (suc p.depth) p.meaning

-- `-`, which takes a number
abbrev pub negative : Meaning → Meaning
negative (Number a) = Number (roll-Amount (amounts.Negated a))
negative _ = Wrong

-- `not`, which takes a truth
abbrev pub inverse : Meaning → Meaning
inverse (Truth c) = Truth (roll-Comparison (truths.Not c))
inverse _ = Wrong

-- the operation on numbers that a word names
abbrev pub arith_op : Word → Option ArithOp
arith_op words.Plus = Some ariths.Plus
arith_op words.Minus = Some ariths.Minus
arith_op words.Times = Some ariths.Times
arith_op words.Divide = Some ariths.Divide
arith_op words.Remainder = Some ariths.Remainder
arith_op _ = None

-- the comparison that a word names
abbrev pub compare_op : Word → Option CompareOp
compare_op words.Less = Some compares.Less
compare_op words.LessEqual = Some compares.LessEqual
compare_op words.Greater = Some compares.Greater
compare_op words.GreaterEqual = Some compares.GreaterEqual
compare_op words.Equal = Some compares.Equal
compare_op words.NotEqual = Some compares.NotEqual
compare_op _ = None

-- `+ - * // %` on two numbers
abbrev pub arith : Option ArithOp → Amount → Amount → Meaning
arith (Some op) a b = Number (roll-Amount (amounts.Arith op a b))
arith None a b = Wrong

-- `or` and `and` on two truths
abbrev pub both : Word → Comparison → Comparison → Meaning
both words.Or c d = Truth (roll-Comparison (truths.Or c d))
both words.And c d = Truth (roll-Comparison (truths.And c d))
both _ c d = Wrong

-- an operator between two parts of its kind
abbrev pub combined : Word → Meaning → Meaning → Meaning
combined op (Number a) (Number b) = arith (arith_op op) a b
combined op (Truth c) (Truth d) = both op c d
combined op _ _ = Wrong

abbrev pub joined : Word → Part → Part → Part
joined op p q = part_of (suc (max p.depth q.depth)) (combined op p.meaning q.meaning)
