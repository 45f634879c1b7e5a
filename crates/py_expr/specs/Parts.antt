-- What rows spell: nodes, and parts that are to become nodes.
use Rattle.std.specs.Prelude.{ℕ, suc, max, List, [], ◌∷◌, ◌++◌, map}
use Rattle.node_tree.specs.declared.node.Node.{Node, roll-Node}
use Rattle.node_tree.specs.declared.kind.Kind.{Kind}
use Rattle.node_tree.specs.Tree.{depth_of, largest}

pub data Part : Type 0 where
  -- a node
  whole : Node → Part
  -- a node that lacks its first kid: its kind, its text, where it ends, and its other kids
  lacking : Kind → List ℕ → ℕ → List Node → Part
  -- a call's empty parentheses, and where they end
  call : ℕ → Part
  -- what comes after a first item: further items, or the clauses of a comprehension
  more : List Node → Part
  clauses : List Node → Part
  -- what stands in braces: the kind and the text of its node, and the kids
  display : Kind → List ℕ → List Node → Part
  -- an operator of a comparison
  sign : List ℕ → Part
  -- the upper bound of a slice and its step, where they stand
  bounds : List Node → List Node → Part

abbrev pub node : Kind → List ℕ → ℕ → ℕ → List Node → Node
node kind text from to kids = roll-Node (record { kind = kind; text = text; kids = kids; span = record { from = from; to = to } })

-- nodes as parts
abbrev pub wholes : List Node → List Part
wholes = map whole

-- the nodes of some parts
abbrev pub nodes_of : List Part → List Node
nodes_of [] = []
nodes_of (whole n ∷ ps) = n ∷ nodes_of ps
nodes_of (lacking kind text to kids ∷ ps) = node kind text to to kids ∷ nodes_of ps
nodes_of (call to ∷ ps) = nodes_of ps
nodes_of (more ns ∷ ps) = ns ++ nodes_of ps
nodes_of (clauses ns ∷ ps) = ns ++ nodes_of ps
nodes_of (display kind text ns ∷ ps) = ns ++ nodes_of ps
nodes_of (sign text ∷ ps) = nodes_of ps
nodes_of (bounds highs steps ∷ ps) = highs ++ (steps ++ nodes_of ps)

-- how deep the deepest of some nodes is, and of some parts
abbrev pub depth_nodes : List Node → ℕ
depth_nodes ns = largest (map depth_of ns)

abbrev pub depth_part : Part → ℕ
depth_part (whole n) = depth_of n
depth_part (lacking kind text to kids) = suc (depth_nodes kids)
depth_part (call to) = 0
depth_part (more ns) = depth_nodes ns
depth_part (clauses ns) = depth_nodes ns
depth_part (display kind text ns) = depth_nodes ns
depth_part (sign text) = 0
depth_part (bounds highs steps) = max (depth_nodes highs) (depth_nodes steps)

abbrev pub depth_all : List Part → ℕ
depth_all [] = 0
depth_all (p ∷ ps) = max (depth_part p) (depth_all ps)
