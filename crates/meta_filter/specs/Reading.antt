-- What the functions of the reader read.
use Rattle.std.specs.Prelude.{◌≡◌, ℕ, suc, List, [], ◌∷◌, length, Option, Some, None, Result, Ok, Err}
use Rattle.grammar.specs.Reader.{read_level}
use Rattle.meta_filter.specs.declared.fault.CompareFault.{CompareFault}
use Rattle.meta_filter.specs.declared.fault.CompareFault.TheVariants.{Memory, NoComparison}
use Rattle.meta_filter.specs.declared.layer.Layer.{Layer}
use Rattle.meta_filter.specs.declared.layer.Layer.TheVariants as layers
use Rattle.meta_filter.specs.declared.part.Part.{Part}
use Rattle.meta_filter.specs.declared.token.Token.{Token}
use Rattle.meta_filter.specs.declared.token.Word.TheVariants as w
use Rattle.meta_filter.specs.Words.{class}
use Rattle.meta_filter.specs.Table.{Level, Either, EitherTail, Both, BothTail, Inverse, Sum, SumTail, Product, ProductTail, Negative, signs, factors, table}
use Rattle.meta_filter.specs.Build.{Piece, part, source}
use Rattle.meta_filter.specs.Sets.{sets, ranks}

-- seen by `view` the result is what reading gives, and NoComparison where that is nothing, unless memory ran out
abbrev pub Gives : {X Y : Type 0} → (X → Y) → Result X CompareFault → Option Y → Type 0
Gives view (Ok found) read = read ≡ Some (view found)
Gives view (Err Memory) read = Unit {0}
Gives view (Err NoComparison) read = read ≡ None

-- the reader of a level, by the table
unfoldable pub level : List Token → ℕ → Level → ℕ → Option (List Piece × ℕ)
level ts room l i = read_level (source ts) sets (suc (length ts)) table ranks.top room l i

-- one part and where it ends
abbrev pub one : Part × ℕ → List Piece × ℕ
one x = (part x.0 ∷ [], x.1)

-- the level of a layer, that of its operands, and its operators
abbrev pub level_of : Layer → Level
level_of layers.Either = Either
level_of layers.Both = Both
level_of layers.Sum = Sum
level_of layers.Product = Product

abbrev pub operand_of : Layer → Level
operand_of layers.Either = Both
operand_of layers.Both = Inverse
operand_of layers.Sum = Product
operand_of layers.Product = Negative

abbrev pub tail_of : Layer → Level
tail_of layers.Either = EitherTail
tail_of layers.Both = BothTail
tail_of layers.Sum = SumTail
tail_of layers.Product = ProductTail

abbrev pub operators_of : Layer → List ℕ
operators_of layers.Either = class w.Or ∷ []
operators_of layers.Both = class w.And ∷ []
operators_of layers.Sum = signs
operators_of layers.Product = factors
