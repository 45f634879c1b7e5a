-- The parts that each builder of statements makes, from the tokens of its piece and the parts within.
use Rattle.std.specs.Prelude.{ℕ, zero, suc, max, ◌-◌, Bool, true, false, if◌then◌else◌, List, [], ◌∷◌, ◌++◌, length, eqb}
use Rattle.node_tree.specs.declared.node.Node.{Node}
use Rattle.node_tree.specs.declared.kind.Kind.{Kind}
use Rattle.node_tree.specs.declared.kind.Kind.TheVariants as k
use Rattle.node_tree.specs.Tree.{kind_of}
use Rattle.grammar.specs.Rule.{Source}
use Rattle.py_expr.specs.declared.item.Item.{Item}
use Rattle.py_expr.specs.declared.word.Word.{Word}
use Rattle.py_expr.specs.declared.word.Word.TheVariants as w
use Rattle.py_expr.specs.Words.{class}
use Rattle.py_expr.specs.Parts.{Part, whole, lacking, more, clauses, display, sign, node, nodes_of}
use Rattle.py_expr.specs.Build.{token_at, leaf, absent, empty_list, build as build_expression}
use Rattle.py_expr.specs.Table.{Leaf}
use Rattle.py_suite.specs.Table.{Builder, Value_of, Statement, Item_of, Headed, Head, Valued, Several, Listing, Dotting}

-- ---- where a node ends

-- lines, indentation and the `;` between statements belong to no node
abbrev pub is_layout : Word → Bool
is_layout w.Newline = true
is_layout w.Indent = true
is_layout w.Dedent = true
is_layout w.Semicolon = true
is_layout _ = false

-- where the last token before this one ends that belongs to a node
unfoldable pub code_end : List Item → ℕ → ℕ
code_end ts zero = 0
code_end ts (suc n) = if is_layout (token_at ts n).word then code_end ts n else (token_at ts n).span.to

-- where a node ends that begins there
abbrev pub end_from : List Item → ℕ → ℕ → ℕ
end_from ts i j = max (token_at ts i).span.from (code_end ts j)

-- ---- what a statement has

-- the words that count, one behind the other
abbrev pub written : List Part → List ℕ
written [] = []
written (sign text ∷ ps) = text ++ written ps
written (p ∷ ps) = written ps

-- the kids: what lacks is absent, and a list that lacks is empty
abbrev pub filled : ℕ → List Part → List Node
filled from [] = []
filled from (more [] ∷ ps) = absent from ∷ filled from ps
filled from (clauses [] ∷ ps) = empty_list from ∷ filled from ps
filled from (p ∷ ps) = nodes_of (p ∷ []) ++ filled from ps

-- how many kids a statement of the kind has where that is fixed
abbrev pub arity : Kind → ℕ
arity k.AnnAssign = 3
arity k.Return = 1
arity k.Raise = 2
arity k.Assert = 2
arity k.Alias = 2
arity k.If = 3
arity k.While = 3
arity k.For = 4
arity k.Try = 4
arity k.WithItem = 2
arity _ = 0

abbrev pub absents : ℕ → ℕ → List Node
absents from zero = []
absents from (suc n) = absent from ∷ absents from n

-- with what is absent at the end
abbrev pub padded : Kind → ℕ → List Node → List Node
padded kind from kids = kids ++ absents from (arity kind - length kids)

-- the kind that a keyword told
abbrev pub told : List Part → Kind
told [] = k.Empty
told (display kind text ns ∷ ps) = kind
told (p ∷ ps) = told ps

abbrev pub statement : Kind → ℕ → ℕ → List Part → List Part
statement kind from to ps = whole (node kind (written ps) from to (padded kind from (filled from ps))) ∷ []

-- ---- the others

abbrev pub is_dots : Kind → Bool
is_dots k.Dots = true
is_dots k.MetaDots = true
is_dots _ = false

-- a statement or an item that is only dots is no more than dots
abbrev pub unless_dots : Bool → Node → Node → Node
unless_dots true dots n = if is_dots (kind_of dots) then dots else n
unless_dots false dots n = n

abbrev pub item : Kind → Bool → ℕ → ℕ → List Part → List Part
item kind alone from to (whole n ∷ []) = whole (unless_dots alone n (node kind [] from to (padded kind from (n ∷ [])))) ∷ []
item kind alone from to ps = statement kind from to ps

abbrev pub valued : Bool → ℕ → ℕ → List Part → List Part
valued alone from to (whole n ∷ more ns ∷ []) = whole (node k.Assign [] from to (n ∷ ns)) ∷ []
valued alone from to (whole n ∷ lacking kind text end ns ∷ []) = whole (node kind text from to (n ∷ ns)) ∷ []
valued alone from to ps = item k.ExprStmt alone from to ps

abbrev pub several : ℕ → ℕ → List Part → List Part
several from to [] = clauses [] ∷ []
several from to ps = whole (node k.List [] from to (nodes_of ps)) ∷ []

abbrev pub listing : List Part → List Part
listing [] = clauses [] ∷ []
listing ps = ps

-- parts of a name, each with a point before it
abbrev pub pointed : List Part → List ℕ
pointed [] = []
pointed (sign text ∷ ps) = 46 ∷ (text ++ pointed ps)
pointed (p ∷ ps) = pointed ps

-- a name with points between its parts
abbrev pub dotted : List Part → List ℕ
dotted [] = []
dotted (sign text ∷ ps) = text ++ pointed ps
dotted (p ∷ ps) = pointed ps

abbrev pub dotting : ℕ → ℕ → List Part → List Part
dotting from to ps = whole (node k.Id (dotted ps) from to (nodes_of ps)) ∷ []

abbrev pub whole_of : Node → List Part
whole_of n = whole n ∷ []

-- a piece of one token
abbrev pub alone : ℕ → ℕ → Bool
alone i j = eqb j (suc i)

-- ---- all of them, over a piece from a token, behind which another is; alone tells that it is one token

abbrev pub made : Builder → Bool → ℕ → ℕ → List Part → List Part
made (Value_of b) alone from to ps = ps
made (Statement kind) alone from to ps = statement kind from to ps
made (Item_of kind) alone from to ps = item kind alone from to ps
made Headed alone from to ps = statement (told ps) from to ps
made (Head kind) alone from to ps = display kind [] (nodes_of ps) ∷ []
made Valued alone from to ps = valued alone from to ps
made Several alone from to ps = several from to ps
made Listing alone from to ps = listing ps
made Dotting alone from to ps = dotting from to ps

abbrev pub build : List Item → Builder → ℕ → ℕ → List Part → List Part
build ts (Value_of b) i j ps = build_expression ts b i j ps
build ts b i j ps = made b (alone i j) (token_at ts i).span.from (end_from ts i j) ps

-- the tokens, for the grammar
abbrev pub source : List Item → Source Leaf Builder Part
source ts = record { cls = λ i. class (token_at ts i).word; leaf = λ l i. leaf l (token_at ts i); build = build ts }
