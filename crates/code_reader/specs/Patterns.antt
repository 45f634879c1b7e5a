-- What a reader of patterns answers.
use Rattle.std.specs.Prelude.{◌≡◌, Result, Ok, Err, ⊤}
use Rattle.node_tree.specs.declared.view.Pattern.{Pattern}
use Rattle.node_tree.specs.declared.fault.ReadFault.{ReadFault}
use Rattle.node_tree.specs.declared.fault.ReadFault.TheVariants as unread
use Rattle.code_reader.specs.declared.fault.PatternFault.{PatternFault}
use Rattle.code_reader.specs.declared.fault.PatternFault.TheVariants as faults

-- what a fault of a reader of trees says of a pattern
abbrev pub fault_of : ReadFault → PatternFault
fault_of unread.Memory = faults.Memory
fault_of unread.NoTree = faults.NoPattern

-- no pattern but this one, unless memory ran out
abbrev pub GivesPattern : Pattern → Result Pattern PatternFault → Type 0
GivesPattern p (Ok found) = found ≡ p
GivesPattern p (Err faults.Memory) = ⊤
GivesPattern p (Err _) = ⊥
