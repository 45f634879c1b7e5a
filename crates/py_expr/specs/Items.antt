-- Tokens as the grammar sees them: an f-string has the nodes of its parts inside.
use Rattle.std.specs.Prelude.{◌≡◌, ◌⊎◌, List, [], ◌∷◌}
use Rattle.node_tree.specs.declared.node.Node.{Node}
use Rattle.node_tree.specs.declared.view.Mode.{Mode}
use Rattle.py_lex.specs.declared.token.PyToken.{PyToken, out-PyToken}
use Rattle.py_lex.specs.declared.token.PyWord.{PyWord}
use Rattle.py_lex.specs.declared.token.PyWord.TheVariants as lexed
use Rattle.py_lex.specs.declared.token.FPart.{FPart}
use Rattle.py_expr.specs.declared.item.Item.{Item}
use Rattle.py_expr.specs.declared.word.Word.{Word}
use Rattle.py_expr.specs.declared.word.Word.TheVariants.{Other, FStr}
use Rattle.py_expr.specs.Words.{word_of}

-- which nodes the parts of an f-string have
abbrev pub Insides : Type 1
Insides = List FPart → List Node → Type 0

-- a token of this word, with these nodes inside
abbrev pub item : Word → PyToken → List Node → Item
item word t nodes = record { word = word; text = (out-PyToken t).text; span = (out-PyToken t).span; inside = nodes }

-- an f-string whose parts have no nodes stands in no expression
abbrev pub IsFString : Insides → PyToken → Item → Type 0
IsFString I t i = ((ns : List Node) × I (out-PyToken t).parts ns × (i ≡ item FStr t ns)) ⊎ (((ns : List Node) → I (out-PyToken t).parts ns → ⊥) × (i ≡ item Other t []))

abbrev pub IsItemBy : PyWord → Insides → Mode → PyToken → List PyToken → Item → Type 0
IsItemBy lexed.FStr I mode t after i = IsFString I t i
IsItemBy _ I mode t after i = i ≡ item (word_of mode t after) t []

-- a token before some others is seen as this item
abbrev pub IsItem : Insides → Mode → PyToken → List PyToken → Item → Type 0
IsItem I mode t after i = IsItemBy (out-PyToken t).word I mode t after i

-- tokens are seen as these items
abbrev pub AreItems : Insides → Mode → List PyToken → List Item → Type 0
AreItems I mode [] is = is ≡ []
AreItems I mode (t ∷ ts) is = (i : Item) × (more : List Item) × IsItem I mode t ts i × AreItems I mode ts more × (is ≡ i ∷ more)
