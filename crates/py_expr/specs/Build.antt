-- The parts that each builder makes, from the tokens of its piece and the parts within.
use Rattle.std.specs.Prelude.{ℕ, zero, suc, ◌-◌, cond, ltb, List, [], ◌∷◌, ◌++◌, get_or, codes}
use Rattle.node_tree.specs.declared.node.Node.{Node, out-Node, roll-Node}
use Rattle.node_tree.specs.declared.kind.Kind.{Kind}
use Rattle.node_tree.specs.declared.kind.Kind.TheVariants as k
use Rattle.node_tree.specs.Tree.{kids_of}
use Rattle.grammar.specs.Rule.{Source}
use Rattle.py_expr.specs.declared.item.Item.{Item}
use Rattle.py_expr.specs.declared.word.Word.{Word}
use Rattle.py_expr.specs.declared.word.Word.TheVariants as w
use Rattle.py_expr.specs.Words.{class}
use Rattle.py_expr.specs.Strings.{shown_string, shown_prefix}
use Rattle.py_expr.specs.Parts.{Part, whole, lacking, call, more, clauses, display, sign, bounds, node, nodes_of}
use Rattle.py_expr.specs.Table.{Leaf, Own, Ident, Operator, Builder, Over, Signed, Lacking, SignedLacking, Chain, Joint, Further, Clauses, Grouped, Listed, ListOf, Braced, Entry, PairEntry, Undecided, Lambda, Conditional, Compared, Joined, Called, Sign, Yielded, Bounds, Slice, Sliced, Parameter, SignedParameter}

abbrev pub end_item : Item
end_item = record { word = w.Other; text = []; span = record { from = 0; to = 0 }; inside = [] }

-- the token that stands there, or the end
abbrev pub token_at : List Item → ℕ → Item
token_at ts i = get_or ts i end_item

-- where the piece that ends before this token ends
abbrev pub end_of : List Item → ℕ → ℕ
end_of ts j = (token_at ts (j - 1)).span.to

-- ---- leaves

-- the kind of the node that a token makes; marks make none
abbrev pub kind_of : Word → Kind
kind_of w.Name = k.Name
kind_of w.Meta = k.Meta
kind_of w.Number = k.Number
kind_of w.Const = k.Const
kind_of w.Ellipsis = k.Ellipsis
kind_of w.Dots = k.Dots
kind_of w.MetaDots = k.MetaDots
kind_of w.Str = k.Str
kind_of w.FStr = k.FStr
kind_of w.StrAny = k.StrAny
kind_of _ = k.Absent

-- the same where a name is no expression
abbrev pub ident_kind : Word → Kind
ident_kind w.Name = k.Id
ident_kind word = kind_of word

-- the text of that node: as written, of a string its prefix, a quote and its content, and of an f-string its prefix
abbrev pub shown : Word → List ℕ → List ℕ
shown w.Name text = text
shown w.Meta text = text
shown w.Number text = text
shown w.Const text = text
shown w.MetaDots text = text
shown w.Str text = shown_string text
shown w.FStr text = shown_prefix text
shown _ text = []

abbrev pub leaf_of : Kind → Item → Node
leaf_of kind t = roll-Node (record { kind = kind; text = shown t.word t.text; kids = t.inside; span = t.span })

abbrev pub leaf : Leaf → Item → Part
leaf Own t = whole (leaf_of (kind_of t.word) t)
leaf Ident t = whole (leaf_of (ident_kind t.word) t)
leaf Operator t = sign t.text

-- ---- nodes that stand for nothing written

abbrev pub absent : ℕ → Node
absent from = node k.Absent [] from from []

abbrev pub empty_list : ℕ → Node
empty_list from = node k.List [] from from []

-- what stands there, or that it is absent
abbrev pub or_absent : ℕ → List Node → List Node
or_absent from [] = absent from ∷ []
or_absent from (n ∷ ns) = n ∷ ns

-- ---- chains, from the left

-- a part with its first kid
abbrev pub grafted : ℕ → Node → Part → Node
grafted from n (lacking kind text to kids) = node kind text from to (n ∷ kids)
grafted from n (call to) = node k.Call [] from to (n ∷ empty_list from ∷ [])
grafted from n p = node k.List [] from from (n ∷ nodes_of (p ∷ []))

-- the kids of a part
abbrev pub others : Part → List Node
others (lacking kind text to kids) = kids
others p = nodes_of (p ∷ [])

-- a node with the kids of a part too: for a tree that is too deep already, to grow no deeper
abbrev pub widened : Node → Part → Node
widened n (call to) = n
widened n p = roll-Node (record (out-Node n) { kids = kids_of n ++ others p })

-- how far a node's first kids lead down, at most so far
abbrev pub of_first : (Node → ℕ) → List Node → ℕ
of_first f [] = 0
of_first f (kid ∷ kids) = f kid

abbrev pub spine : ℕ → Node → ℕ
spine zero n = 0
spine (suc most) n = suc (of_first (spine most) (kids_of n))

-- A tree of more than 500 first kids below one another is deeper than what is read, so what comes on is put beside them.
abbrev pub too_deep : ℕ
too_deep = 501

abbrev pub attached : ℕ → ℕ → Node → Part → Node
attached from far n p = cond (ltb far too_deep) (grafted from n p) (widened n p)

abbrev pub farther : ℕ → ℕ
farther far = cond (ltb far too_deep) (suc far) far

abbrev pub chain_from : ℕ → ℕ → Node → List Part → Node
chain_from from far n [] = n
chain_from from far n (p ∷ ps) = chain_from from (farther far) (attached from far n p) ps

abbrev pub chain : ℕ → List Part → List Part
chain from (whole n ∷ ps) = whole (chain_from from (spine too_deep n) n ps) ∷ []
chain from ps = ps

-- the first part takes the node before it
abbrev pub joint : ℕ → List Part → List Part
joint from (whole n ∷ lacking kind text to kids ∷ ps) = whole (node kind text from to (n ∷ kids)) ∷ ps
joint from ps = ps

-- ---- lists and comprehensions

-- what stands in marks: a node of this kind, or a comprehension with this text
abbrev pub listed : Kind → List ℕ → ℕ → ℕ → List Part → List Part
listed kind form from to [] = whole (node kind [] from to []) ∷ []
listed kind form from to (whole n ∷ []) = whole (node kind [] from to (n ∷ [])) ∷ []
listed kind form from to (whole n ∷ more ns ∷ []) = whole (node kind [] from to (n ∷ ns)) ∷ []
listed kind form from to (whole n ∷ clauses ns ∷ []) = whole (node k.Comp form from to (n ∷ ns)) ∷ []
listed kind form from to ps = ps

-- one node is itself; with a comma, or with nothing, it is a tuple
abbrev pub grouped : ℕ → ℕ → List Part → List Part
grouped from to (whole n ∷ []) = whole n ∷ []
grouped from to ps = listed k.Tuple (codes "gen") from to ps

-- the list of arguments or parameters
abbrev pub list_of : ℕ → ℕ → List Part → List Part
list_of from to (whole n ∷ clauses ns ∷ []) = whole (node k.List [] from to (node k.Comp (codes "gen") from to (n ∷ ns) ∷ [])) ∷ []
list_of from to ps = listed k.List [] from to ps

-- ---- braces

-- what stands in braces: of this kind, or a comprehension with this text
abbrev pub displayed : Kind → List ℕ → List Part → List Part
displayed kind form (whole n ∷ []) = display kind [] (n ∷ []) ∷ []
displayed kind form (whole n ∷ more ns ∷ []) = display kind [] (n ∷ ns) ∷ []
displayed kind form (whole n ∷ clauses ns ∷ []) = display k.Comp form (n ∷ ns) ∷ []
displayed kind form ps = ps

-- a key with its value begins a dictionary, any other item a set
abbrev pub entry : ℕ → List Part → List Part
entry from (whole n ∷ lacking kind text to kids ∷ ps) = displayed k.DictLit (codes "dict") (whole (node kind text from to (n ∷ kids)) ∷ ps)
entry from ps = displayed k.SetLit (codes "set") ps

-- dots before an entry belong to its dictionary or set; nothing but dots is a dictionary
abbrev pub undecided : List Node → List Part → Part
undecided front [] = display k.DictLit [] front
undecided front (whole n ∷ ps) = undecided (front ++ n ∷ []) ps
undecided front (display kind text ns ∷ []) = display kind text (front ++ ns)
undecided front (p ∷ ps) = undecided (front ++ nodes_of (p ∷ [])) ps

abbrev pub braced : ℕ → ℕ → List Part → List Part
braced from to [] = whole (node k.DictLit [] from to []) ∷ []
braced from to (display kind text ns ∷ []) = whole (node kind text from to ns) ∷ []
braced from to ps = ps

-- ---- the others

abbrev pub lambda_kids : ℕ → List Part → List Node
lambda_kids from (whole n ∷ []) = empty_list from ∷ n ∷ []
lambda_kids from ps = nodes_of ps

-- the condition comes first
abbrev pub conditional : ℕ → ℕ → List Part → List Part
conditional from to (whole n ∷ lacking kind text end (c ∷ ns) ∷ []) = whole (node kind text from to (c ∷ n ∷ ns)) ∷ []
conditional from to ps = ps

-- texts with a space between them
abbrev pub spaced : List ℕ → List ℕ → List ℕ
spaced s t = s ++ 32 ∷ t

-- the operators and the operands of a comparison, after some of them
abbrev pub operators : List ℕ → List Part → List ℕ
operators text [] = text
operators text (sign s ∷ ps) = operators (spaced text s) ps
operators text (p ∷ ps) = operators text ps

abbrev pub compared : ℕ → ℕ → List Part → List Part
compared from to (whole a ∷ sign s ∷ whole b ∷ ps) = whole (node k.Compare (operators s ps) from to (a ∷ b ∷ nodes_of ps)) ∷ []
compared from to ps = ps

abbrev pub joined_strings : ℕ → ℕ → List Part → List Part
joined_strings from to (whole n ∷ more ns ∷ []) = whole (node k.StrJoin [] from to (n ∷ ns)) ∷ []
joined_strings from to ps = ps

abbrev pub called : ℕ → List Part → List Part
called to [] = call to ∷ []
called to ps = lacking k.Call [] to (nodes_of ps) ∷ []

abbrev pub one_sign : List Part → List Part
one_sign (sign s ∷ sign t ∷ []) = sign (spaced s t) ∷ []
one_sign ps = ps

abbrev pub yielded : ℕ → ℕ → List Part → List Part
yielded from to [] = whole (node k.Yield [] from to (absent from ∷ [])) ∷ []
yielded from to (lacking kind text end kids ∷ []) = whole (node kind text from to kids) ∷ []
yielded from to ps = whole (node k.Yield [] from to (nodes_of ps)) ∷ []

abbrev pub bounded : List Part → List Part
bounded (more highs ∷ []) = bounds highs [] ∷ []
bounded (more highs ∷ more steps ∷ []) = bounds highs steps ∷ []
bounded ps = ps

abbrev pub slice_kids : ℕ → List Node → List Node → List Node
slice_kids from highs steps = or_absent from highs ++ or_absent from steps

abbrev pub slice : ℕ → ℕ → List Part → List Part
slice from to (bounds highs steps ∷ []) = whole (node k.Slice [] from to (absent from ∷ slice_kids from highs steps)) ∷ []
slice from to ps = ps

abbrev pub sliced : ℕ → ℕ → List Part → List Part
sliced from to (whole n ∷ bounds highs steps ∷ []) = whole (node k.Slice [] from to (n ∷ slice_kids from highs steps)) ∷ []
sliced from to ps = ps

abbrev pub parameter : List ℕ → ℕ → ℕ → List Part → List Part
parameter mark from to [] = whole (node k.Param mark from to (absent from ∷ absent from ∷ absent from ∷ [])) ∷ []
parameter mark from to (whole n ∷ more types ∷ more values ∷ []) = whole (node k.Param mark from to (n ∷ (or_absent from types ++ or_absent from values))) ∷ []
parameter mark from to ps = ps

-- ---- all of them, over a piece from a place, behind which another is

abbrev pub made : Builder → List ℕ → ℕ → ℕ → List Part → List Part
made (Over kind) text from to ps = whole (node kind [] from to (nodes_of ps)) ∷ []
made (Signed kind) text from to ps = whole (node kind text from to (nodes_of ps)) ∷ []
made (Lacking kind) text from to ps = lacking kind [] to (nodes_of ps) ∷ []
made (SignedLacking kind) text from to ps = lacking kind text to (nodes_of ps) ∷ []
made Chain text from to ps = chain from ps
made Joint text from to ps = joint from ps
made Further text from to ps = more (nodes_of ps) ∷ []
made Clauses text from to ps = clauses (nodes_of ps) ∷ []
made Grouped text from to ps = grouped from to ps
made Listed text from to ps = listed k.ListLit (codes "list") from to ps
made ListOf text from to ps = list_of from to ps
made Braced text from to ps = braced from to ps
made Entry text from to ps = entry from ps
made PairEntry text from to ps = displayed k.DictLit (codes "dict") ps
made Undecided text from to ps = undecided [] ps ∷ []
made Lambda text from to ps = whole (node k.Lambda [] from to (lambda_kids from ps)) ∷ []
made Conditional text from to ps = conditional from to ps
made Compared text from to ps = compared from to ps
made Joined text from to ps = joined_strings from to ps
made Called text from to ps = called to ps
made Sign text from to ps = one_sign ps
made Yielded text from to ps = yielded from to ps
made Bounds text from to ps = bounded ps
made Slice text from to ps = slice from to ps
made Sliced text from to ps = sliced from to ps
made Parameter text from to ps = parameter [] from to ps
made SignedParameter text from to ps = parameter text from to ps

abbrev pub build : List Item → Builder → ℕ → ℕ → List Part → List Part
build ts b i j ps = made b (token_at ts i).text (token_at ts i).span.from (end_of ts j) ps

-- the tokens, for the grammar: a node spans its piece, from the first token's start to the last token's end
abbrev pub source : List Item → Source Leaf Builder Part
source ts = record { cls = λ i. class (token_at ts i).word; leaf = λ l i. leaf l (token_at ts i); build = build ts }
