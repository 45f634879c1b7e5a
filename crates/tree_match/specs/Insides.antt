-- Where a search goes into a kid of a list.
use Rattle.std.specs.Prelude.{◌≡◌, ◌↔◌, ◌≤◌, ℕ, List, ◌∷◌, length, drop, Some, Bool, true, false}
use Rattle.node_tree.specs.declared.node.Node.{Node}
use Rattle.node_tree.specs.declared.kind.Kind.{Kind}
use Rattle.node_tree.specs.declared.known.Known.{Known}
use Rattle.node_tree.specs.Tree.{kind_of, kids_of}
use Rattle.node_tree.specs.Numbers.{Numbered, kids_at}
use Rattle.node_pool.specs.Spots.{seen, all_seen}
use Rattle.meta_bind.specs.declared.bound.Bound.{Bound}
use Rattle.node_search.specs.declared.state.State.{State}
use Rattle.node_match.specs.Kinds.{role_of, IsOne}
use Rattle.node_match.specs.Free.{parts_of, HasText}
use Rattle.node_match.specs.Orders.{has_runs}
use Rattle.node_match.specs.Relation.{Matches, MatchesArguments, MatchesKid, MatchesKids, MatchesList}
use Rattle.tree_match.specs.declared.aim.Search.{Search}
use Rattle.tree_match.specs.declared.place.Inside.{Inside}
use Rattle.tree_match.specs.Aims.{left_of}

-- the pattern matches a kid of that value, of a holder of that kind, where its kids match those of the kid in order, and nowhere else
pub record IsInOrder (holder : Kind) (q : Node) (n : Node) : Type 0 where
  pub one : IsOne (role_of (kind_of q))
  pub same : (C : List Known) (h s : Numbered) → kind_of h.node ≡ holder → s.node ≡ n → (b c : List Bound) → MatchesList C s (parts_of q) (kids_at s) b c ↔ MatchesKid C h q s b c

-- the pattern matches a node of that value where its kids match those of the node, and nowhere else
pub record IsByKids (q n : Node) : Type 0 where
  pub one : IsOne (role_of (kind_of q))
  pub same : (C : List Known) (s : Numbered) → s.node ≡ n → (b c : List Bound) → MatchesKids C q s b c ↔ Matches C q s b c

-- the kids of the pattern match those of the node: as arguments of a call, or else as the pattern's kind asks
abbrev pub MatchesBy : Bool → List Known → Node → Numbered → List Bound → List Bound → Type 0
MatchesBy true = MatchesArguments
MatchesBy false = MatchesKids

-- the pattern matches a kid of that value, of a holder of that kind, where its kids match those of the kid so, and nowhere else
pub record IsKidBy (arguments : Bool) (holder : Kind) (q : Node) (n : Node) : Type 0 where
  pub one : IsOne (role_of (kind_of q))
  pub same : (C : List Known) (h s : Numbered) → kind_of h.node ≡ holder → s.node ≡ n → (b c : List Bound) → MatchesBy arguments C q s b c ↔ MatchesKid C h q s b c

-- of the kind and the text that are asked for, and without a run that is bound
abbrev pub AreArguments : Node → Node → Type 0
AreArguments q n = (kind_of q ≡ kind_of n) × HasText q n × (has_runs (kids_of q) ≡ false)

-- the same, where arguments are such
pub record IsWay (arguments : Bool) (holder : Kind) (q n : Node) : Type 0 where
  pub by_kids : IsKidBy arguments holder q n
  pub are : arguments ≡ true → AreArguments q n

-- the state stands before a kid, and the next part matches the kid in that way. After them come the other parts and kids
pub record Opens (s : Search) (from : ℕ) (state : State) (inside : Inside) : Type 0 where
  pub stays : state.floating ≡ false
  pub next_part : left_of s from ≡ Some inside.part.now ∷ left_of s inside.from
  pub next_kid : drop state.at (all_seen s.holder.kids.now) ≡ seen inside.kid ∷ drop inside.at (all_seen s.holder.kids.now)
  pub within : inside.from ≤ length (kids_of s.pattern.now)
  pub way : IsWay inside.arguments (kind_of (seen s.holder.spot).node) inside.part.now (seen inside.kid).node
