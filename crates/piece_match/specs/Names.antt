-- Known names, counted from a number.
use Rattle.std.specs.Prelude.{ℕ, ◌-◌, List, [], ◌∷◌, cond, nat_le}
use Rattle.node_tree.specs.declared.known.Known.{Known}

-- the name, counted from that number, where it isn't below it
abbrev pub counted_name : ℕ → Known → List Known
counted_name first k = cond (nat_le first k.at) (record { at = k.at - first; literal = k.literal } ∷ []) []
