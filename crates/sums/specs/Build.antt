-- The nodes that each builder makes, from the place where its piece begins, the place behind it, and the nodes within.
use Rattle.std.specs.Prelude.{ℕ, List, [], ◌∷◌}
use Rattle.sums.specs.declared.token.Token.{Token}
use Rattle.sums.specs.declared.node.Kind.{Kind}
use Rattle.sums.specs.declared.node.Kind.TheVariants as k
use Rattle.grammar.specs.Rule.{Source}
use Rattle.sums.specs.Token.{class, token_at, end_of}
use Rattle.sums.specs.Tree.{Tree, node, more_trees, trees}
use Rattle.sums.specs.Table.{Builder, Group, Several, Left, Operation, Negation, Conversion, Arguments, Named}

abbrev pub plain : Kind → ℕ → ℕ → ℕ → List Tree → List Tree
plain kind text from to xs = node kind text from to (trees xs) ∷ []

-- a part with a tree put in front of its kids
abbrev pub grafted : ℕ → Tree → Tree → Tree
grafted from t (node kind text f to kids) = node kind text from to (more_trees t kids)

abbrev pub graft_all : ℕ → Tree → List Tree → Tree
graft_all from t [] = t
graft_all from t (p ∷ ps) = graft_all from (grafted from t p) ps

-- the first tree, with each part in turn grafted on
abbrev pub left : ℕ → List Tree → List Tree
left from [] = []
left from (t ∷ ps) = graft_all from t ps ∷ []

-- what stands before a first comma, and a list of what stands behind it
abbrev pub parted : List Tree → List Tree
parted [] = []
parted (t ∷ ts) = t ∷ node k.List 0 0 0 (trees ts) ∷ []

-- one tree is itself; with a list of what stands behind its comma, or with nothing, it is a tuple
abbrev pub group : ℕ → ℕ → List Tree → List Tree
group from to [] = plain k.Tuple 0 from to []
group from to (t ∷ []) = t ∷ []
group from to (t ∷ node kind text f e ts ∷ []) = node k.Tuple 0 from to (more_trees t ts) ∷ []
group from to xs = xs

abbrev pub build : List Token → Builder → ℕ → ℕ → List Tree → List Tree
build ts Group i j xs = group (token_at ts i).from (end_of ts j) xs
build ts Several i j xs = plain k.List 0 0 0 xs
build ts Left i j xs = left (token_at ts i).from xs
build ts Operation i j xs = plain k.Binary (token_at ts i).text (token_at ts i).from (end_of ts j) xs
build ts Negation i j xs = plain k.Negative 0 (token_at ts i).from (end_of ts j) xs
build ts Conversion i j xs = plain k.Cast 0 (token_at ts i).from (end_of ts j) xs
build ts Arguments i j xs = plain k.Call 0 (token_at ts i).from (end_of ts j) xs
build ts Named i j xs = plain k.Keyword 0 (token_at ts i).from (end_of ts j) xs

-- the tokens, for the grammar
abbrev pub source : List Token → Source Kind Builder Tree
source ts = record {
  cls = λ i. class (token_at ts i).word;
  leaf = λ kind i. node kind (token_at ts i).text (token_at ts i).from (token_at ts i).to (trees []);
  build = build ts;
}
