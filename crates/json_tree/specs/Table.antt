-- The grammar of JSON as a table: a row of a level for each line of the grammar of RFC 8259, sections 2 to 5, with what patterns
-- have besides.
use Rattle.std.specs.Prelude.{ℕ, Bool, true, List, [], ◌∷◌}
use Rattle.node_tree.specs.declared.kind.Kind.{Kind}
use Rattle.node_tree.specs.declared.kind.Kind.TheVariants as k
use Rattle.json_tree.specs.declared.token.Word.{Word}
use Rattle.json_tree.specs.declared.token.Word.TheVariants as w
use Rattle.json_tree.specs.Words.{class}
use Rattle.grammar.specs.Rule.{Rule, mark, word, ref, deep, again, around, opt, rep, make, ◌·◌, ◌∣◌, Grammar}

pub data Level : Type 0 where
  Value : Level
  Array : Level
  Values : Level
  ValuesTail : Level
  Object : Level
  Entries : Level
  EntriesTail : Level
  Entry : Level
  Member : Level
  Deep : Level

-- a token that is a leaf has the kind of its word
pub data Leaf : Type 0 where
  Own : Leaf

-- a node over others, which is made above all of them, is named by its kind
abbrev pub Builder : Type 0
Builder = Kind

abbrev pub strong : Builder → Bool
strong kind = true

abbrev pub Row : Type 0
Row = Rule Leaf Builder Level

-- a token of this word, with no node
abbrev pub tok : Word → Row
tok c = mark (class c ∷ [])

-- what a loop goes round, and the loop: parts with commas between them
abbrev pub further : Level → Row
further part = opt (tok w.Comma · ref part · again)

abbrev pub listed : Level → Level → Row
listed part tail = opt (ref part · rep tail (further part))

-- what stands between two brackets, as a node
abbrev pub bracketed : Kind → Word → Word → Level → Row
bracketed kind left right inside = make kind (around (class left ∷ []) (class right ∷ []) (deep inside))

-- the words of a value of one token, of the name of a member, and of what stands in an object in the place of members
abbrev pub scalars : List ℕ
scalars = class w.Str ∷ class w.Number ∷ class w.Const ∷ class w.StrAny ∷ class w.Meta ∷ class w.MetaDots ∷ class w.Dots ∷ []

abbrev pub names : List ℕ
names = class w.Str ∷ class w.StrAny ∷ class w.Meta ∷ []

abbrev pub dots : List ℕ
dots = class w.MetaDots ∷ class w.Dots ∷ []

-- The table.
abbrev pub table : Level → Row
-- value = false / null / true / object / array / number / string                (section 3)
-- in a pattern also / StrAny / Meta / MetaDots / Dots / deep
table Value = word Own scalars ∣ ref Array ∣ ref Object ∣ ref Deep
-- array = begin-array [ value *( value-separator value ) ] end-array            (section 5)     Array[value ..]
table Array = bracketed k.Array w.LeftBracket w.RightBracket Values
table Values = listed Value ValuesTail
table ValuesTail = rep ValuesTail (further Value)
-- object = begin-object [ member *( value-separator member ) ] end-object       (section 4)     Object[member ..]
table Object = bracketed k.Object w.LeftBrace w.RightBrace Entries
table Entries = listed Entry EntriesTail
table EntriesTail = rep EntriesTail (further Entry)
-- in a pattern Dots and MetaDots stand where a member does
table Entry = word Own dots ∣ ref Member
-- member = string name-separator value (section 4), in a pattern also with StrAny or Meta as its name     Member[name, value]
table Member = make k.Member (word Own names · tok w.Colon · deep Value)
-- deep = "<..." value "...>", in a pattern alone                                Deep[value]
table Deep = make k.Deep (tok w.DeepOpen · deep Value · tok w.DeepClose)

-- With the root above the value a tree is at most 500 deep, and no token stands inside more than 500 open brackets: section 9
-- leaves such limits to a reader.
abbrev pub grammar : Grammar Leaf Builder Level
grammar = record { table = table; opens = class w.LeftBrace ∷ class w.LeftBracket ∷ []; closes = class w.RightBrace ∷ class w.RightBracket ∷ []; most_depth = 499; most_brackets = 500 }
