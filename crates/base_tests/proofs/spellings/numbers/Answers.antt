use Rattle.std.proofs.Common.{refl, leb-true}
use Rattle.lexing.specs.Automaton.{IsWhole}
use Rattle.base_tests.specs.declared.spellings.TheConstants.{COLUMNS, ROWS}
use Rattle.lexing.proofs.Whole.{is_whole, whole}
use Rattle.base_tests.proofs.spellings.numbers.Goals as goal

is_whole_table : IsWhole (record { columns = COLUMNS; rows = ROWS; width = 4 })
unfolding is_whole
is_whole_table = whole (record { columns = COLUMNS; rows = ROWS; width = 4 }) refl

pub new-requires : goal.new-requires
new-requires c = record { whole = is_whole_table; begins = record { row = leb-true _ _ refl; nothing = refl } }
