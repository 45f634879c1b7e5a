-- Nodes that no binding makes a pattern match.
use Rattle.std.specs.Prelude.{◌≡◌, List, [], ◌∷◌, true, false, None, Some}
use Rattle.node_tree.specs.declared.node.Node.{Node}
use Rattle.node_tree.specs.Tree.{kind_of}
use Rattle.node_tree.specs.declared.kind.Kind.{Kind}
use Rattle.node_tree.specs.declared.known.Known.{Known}
use Rattle.node_tree.specs.Numbers.{Numbered}
use Rattle.meta_bind.specs.declared.bound.Bound.{Bound}
use Rattle.node_match.specs.Kinds.{role_of, IsOne}
use Rattle.node_match.specs.Sets.{Among}
use Rattle.node_match.specs.Free.{Part}
use Rattle.node_match.specs.Relation.{Matches, MatchesKids, MatchesKid, MatchesArguments, MatchesList, nodes_of}
use Rattle.node_match.specs.Fronts.{MatchesFront}
use Rattle.node_match.specs.Orders.{has_dots, is_named}
use Rattle.node_match.specs.Choices.{Chosen}

-- a part that matches one node, and not a run
abbrev pub IsSingle : Part → Type 0
IsSingle None = Unit {0}
IsSingle (Some p) = IsOne (role_of (kind_of p))

-- each part matches one node, and none a run
abbrev pub all_single : List Part → Type 0
all_single [] = Unit {0}
all_single (p ∷ ps) = IsSingle p × all_single ps

-- the pattern doesn't match the node, whatever its number is, what is known and what is bound
abbrev pub IsRefused : Node → Node → Type 0
IsRefused p n = (C : List Known) (s : Numbered) → s.node ≡ n → (b c : List Bound) → Matches C p s b c → ⊥

-- the same as a kid of a holder of that kind
abbrev pub IsKidRefused : Kind → Node → Node → Type 0
IsKidRefused kind p n = (C : List Known) (h s : Numbered) → kind_of h.node ≡ kind → s.node ≡ n → (b c : List Bound) → MatchesKid C h p s b c → ⊥

-- the same as the arguments of a call
abbrev pub AreArgumentsRefused : Node → Node → Type 0
AreArgumentsRefused p n = (C : List Known) (s : Numbered) → s.node ≡ n → (b c : List Bound) → MatchesArguments C p s b c → ⊥

-- the parts don't match these nodes in order, whichever node of that kind holds them, whatever is known and whatever is bound
abbrev pub AreRefused : Kind → List Part → List Node → Type 0
AreRefused kind ps ns = (C : List Known) (ss : List Numbered) → nodes_of ss ≡ ns → (h : Numbered) → kind_of h.node ≡ kind → (b c : List Bound) → MatchesList C h ps ss b c → ⊥

-- the parts don't match a front of these nodes either
abbrev pub IsFrontRefused : Kind → List Part → List Node → Type 0
IsFrontRefused kind ps ns = (C : List Known) (ss : List Numbered) → nodes_of ss ≡ ns → (h : Numbered) → kind_of h.node ≡ kind → (rest : List Numbered) (b c : List Bound) → MatchesFront C h ps ss rest b c → ⊥

-- the kids of the pattern don't match those of the node, whatever its number is, what is known and what is bound
abbrev pub AreKidsRefused : Node → Node → Type 0
AreKidsRefused p n = (C : List Known) (s : Numbered) → s.node ≡ n → (b c : List Bound) → MatchesKids C p s b c → ⊥

-- the patterns can't choose among these nodes, whatever is known and whatever is bound
abbrev pub IsChoiceRefused : List Node → List Node → Type 0
IsChoiceRefused ps ns = (C : List Known) (ss : List Numbered) → nodes_of ss ≡ ns → (b c : List Bound) → Chosen C false (has_dots ps) ps ss b c → ⊥

-- the pattern matches none of the nodes
abbrev pub IsRefusedBy : List Node → Node → Type 0
IsRefusedBy ns p = (n : Node) → Among ns n → IsRefused p n

-- some pattern with a name matches none of the nodes
abbrev pub AreNamesRefused : List Node → List Node → Type 0
AreNamesRefused ps ns = (p : Node) × Among ps p × (is_named p ≡ true) × IsRefusedBy ns p
