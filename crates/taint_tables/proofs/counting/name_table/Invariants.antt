use Rattle.std.proofs.Common.{◌↔◌, ℕ, List, take}
use Rattle.graph_form.specs.Sets.{Among}
use Rattle.taint_form.specs.Tables.{AreNumbers}
use Rattle.taint_tables.specs.Censuses.{key_cmp, texts}
use Rattle.taint_tables.proofs.counting.name_table.Given as goal

abbrev pub invariant-loop-name : goal.invariant-loop-name
invariant-loop-name l = record {
  numbers : AreNumbers key_cmp l.table.numbers l.table.keys.items;
  same : (n : List ℕ) → Among (texts l.table.keys.items) n ↔ Among (texts (take l.name-index l.names)) n;
}
