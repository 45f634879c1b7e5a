-- The nodes of the grammar, from the tokens of their pieces.
use Rattle.std.specs.Prelude.{ℕ, ◌-◌, List, [], ◌∷◌, get_or, map}
use Rattle.node_tree.specs.declared.node.Node.{Node, roll-Node}
use Rattle.node_tree.specs.declared.kind.Kind.{Kind}
use Rattle.node_tree.specs.Tree.{depth_of, largest}
use Rattle.grammar.specs.Rule.{Source}
use Rattle.json_tree.specs.declared.token.Word.TheVariants.{End}
use Rattle.json_tree.specs.declared.token.Token.{Token}
use Rattle.json_tree.specs.Words.{class, kind_of, shown}
use Rattle.json_tree.specs.Table.{Leaf, Builder}

abbrev pub end_token : Token
end_token = record { word = End; text = []; span = record { from = 0; to = 0 } }

-- the token that stands there, or the end
abbrev pub token_at : List Token → ℕ → Token
token_at ts i = get_or ts i end_token

-- the node of one token
abbrev pub leaf : Token → Node
leaf t = roll-Node (record { kind = kind_of t.word; text = shown t.word t.text; kids = []; span = t.span })

-- a node over others
abbrev pub node : Kind → ℕ → ℕ → List Node → Node
node kind from to kids = roll-Node (record { kind = kind; text = []; kids = kids; span = record { from = from; to = to } })

-- where the piece that ends before this token ends
abbrev pub end_of : List Token → ℕ → ℕ
end_of ts j = (token_at ts (j - 1)).span.to

-- the tokens, for the grammar: a node spans its piece, from the first token's start to the last token's end
abbrev pub source : List Token → Source Leaf Builder Node
source ts = record {
  cls = λ i. class (token_at ts i).word;
  leaf = λ l i. leaf (token_at ts i);
  build = λ kind i j kids. node kind (token_at ts i).span.from (end_of ts j) kids ∷ [];
}

-- how deep the deepest of some nodes is
abbrev pub depth_all : List Node → ℕ
depth_all ns = largest (map depth_of ns)
