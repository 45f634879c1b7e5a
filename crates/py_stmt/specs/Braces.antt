-- What stands in braces, by the lines of the reference (Python reference, 6.2.4 to 6.2.7).
use Rattle.std.specs.Prelude.{◌≡◌, ◌↔◌, ℕ, true, List, [], ◌∷◌}
use Rattle.node_tree.specs.declared.kind.Kind.TheVariants as k
use Rattle.grammar.specs.Rule.{done, ref, around, make, has, outside, Derives, ◌·◌, ◌∣◌}
use Rattle.py_expr.specs.declared.item.Item.{Item}
use Rattle.py_expr.specs.declared.word.Word.TheVariants as w
use Rattle.py_expr.specs.Words.{class}
use Rattle.py_expr.specs.Parts.{Part}
use Rattle.py_expr.specs.Table.{Over, Row, tok, table, Test, Star, Named, Pair, AfterStar, AfterPair, Comprehension, Braces}
use Rattle.py_expr.specs.Build.{source}

-- items = star {"," star} [","]
abbrev pub items : Row
items = ref Star · ref AfterStar

-- pairs = pair {"," pair} [","]
abbrev pub pairs : Row
pairs = ref Pair · ref AfterPair

-- named comp
abbrev pub set_comprehension : Row
set_comprehension = ref Named · ref Comprehension

-- test ":" test
abbrev pub key_value : Row
key_value = make (Over k.Pair) (ref Test · tok w.Colon · ref Test)

-- test ":" test comp
abbrev pub dict_comprehension : Row
dict_comprehension = key_value · ref Comprehension

-- nothing, pairs, a comprehension of a dictionary, items, or a comprehension of a set
abbrev pub lines : Row
lines = done ∣ pairs ∣ dict_comprehension ∣ items ∣ set_comprehension

-- such a line in braces
abbrev pub braces : Row
braces = around (class w.LeftBrace ∷ []) (class w.RightBrace ∷ []) lines

-- these tokens, from the one of a number up to that of another, are spelled by a row
abbrev pub Spells : List Item → Row → ℕ → ℕ → Type 0
Spells ts r i j = (xs : List Part) × Derives (source ts) table outside r xs i j

-- a pattern's braces begin with dots; all others begin with the brace alone
abbrev pub BeginsWithBrace : List Item → ℕ → Type 0
BeginsWithBrace ts i = has (class w.LeftBrace ∷ []) ((source ts).cls i) ≡ true

-- the table's braces that begin with the brace alone are the reference's five lines in braces
abbrev pub AreLines : List Item → ℕ → ℕ → Type 0
AreLines ts i j = (BeginsWithBrace ts i × Spells ts (ref Braces) i j) ↔ Spells ts braces i j
