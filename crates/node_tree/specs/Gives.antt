-- What a reader of the code gives, against what is to be read.
use Rattle.std.specs.Prelude.{◌≡◌, Option, Some, None, Result, Ok, Err}
use Rattle.node_tree.specs.declared.fault.ReadFault.{ReadFault}
use Rattle.node_tree.specs.declared.fault.ReadFault.TheVariants.{Memory, NoTree}

-- seen by `view` the result is what reading gives, and NoTree where that is nothing, unless memory ran out
abbrev pub Gives : {X Y : Type 0} → (X → Y) → Result X ReadFault → Option Y → Type 0
Gives view (Ok found) read = read ≡ Some (view found)
Gives view (Err Memory) read = Unit {0}
Gives view (Err NoTree) read = read ≡ None
