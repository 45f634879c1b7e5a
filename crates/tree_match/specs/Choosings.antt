-- What a search finds where parts of a pattern choose among kids.
use Rattle.std.specs.Prelude.{◌≡◌, ℕ, ◌+◌, List, [], drop, Bool, true}
use Rattle.node_tree.specs.declared.node.Node.{Node}
use Rattle.node_tree.specs.Tree.{kids_of}
use Rattle.node_tree.specs.Numbers.{Numbered}
use Rattle.node_pool.specs.declared.spot.Spot.{Spot}
use Rattle.node_pool.specs.Spots.{seen, all_seen}
use Rattle.node_search.specs.Kids.{line}
use Rattle.node_match.specs.Orders.{has_dots}
use Rattle.meta_bind.specs.declared.bound.Bound.{Bound}
use Rattle.node_match.specs.Choices.{untaken, Chosen, TakesAt, Picked}
use Rattle.node_match.specs.Relation.{Matches}
use Rattle.tree_match.specs.declared.aim.Search.{Search}
use Rattle.tree_match.specs.declared.choosing.Choosing.{Choosing}
use Rattle.tree_match.specs.declared.outer.Candidates.{Candidates}
use Rattle.tree_match.specs.declared.outer.Outer.{Outer}
use Rattle.tree_match.specs.declared.place.Inside.{Inside}
use Rattle.tree_match.specs.declared.outer.Left.TheVariants.{Candidates as CandidatesOf}
use Rattle.tree_match.specs.Insides.{MatchesBy}
use Rattle.tree_match.specs.Members.{Member}
use Rattle.tree_match.specs.Aims.{Onward, GivesOn, GivesIn, left_of}

-- a member of an end at which no kid is left and that P says
abbrev pub FoundBy : Search → (List Bound → Type 0) → Member → Type 0
FoundBy s P m = (c : List Bound) × GivesIn s m ([], c) × P c

-- the parts from one on choose among the nodes that aren't taken
abbrev pub FoundChoice : Choosing → ℕ → List Bool → List Bound → Member → Type 0
FoundChoice c from taken b = FoundBy c.search (Chosen c.search.known.names.now c.named c.loose (drop from (kids_of c.search.pattern.now)) (untaken taken (all_seen c.nodes.now)) b)

-- the part takes the node at that place, and the parts after one choose among the others
abbrev pub FoundTaking : Choosing → ℕ → ℕ → Node → List Bool → List Bound → Member → Type 0
FoundTaking c from at p taken b = FoundBy c.search (TakesAt c.search.known.names.now c.named c.loose at p (drop (from + 1) (kids_of c.search.pattern.now)) taken (all_seen c.nodes.now) b)

-- the part matches that node, and the parts from one on choose among the nodes that aren't taken
abbrev pub FoundMatched : Choosing → ℕ → Node → Numbered → List Bool → List Bound → Member → Type 0
FoundMatched c from p n taken b = FoundBy c.search (λ d. (e : List Bound) × Matches c.search.known.names.now p n b e × Chosen c.search.known.names.now c.named c.loose (drop from (kids_of c.search.pattern.now)) (untaken taken (all_seen c.nodes.now)) e d)

-- the parts from one on choose, from one of these bindings
abbrev pub FoundPicked : Choosing → ℕ → List Bool → List (List Bound) → Member → Type 0
FoundPicked c from taken found = FoundBy c.search (Picked c.search.known.names.now c.named c.loose (drop from (kids_of c.search.pattern.now)) (untaken taken (all_seen c.nodes.now)) found)

-- the same where a search goes on among what was left
abbrev pub FoundResumed : Search → Candidates → ℕ → List (List Bound) → Member → Type 0
FoundResumed s left from found = FoundBy s (Picked s.known.names.now left.named left.loose (drop from (kids_of s.pattern.now)) (untaken left.taken.now (all_seen left.nodes.now)) found)

-- the kids of the pattern match those of the node in that way, and the search goes on in these lists
abbrev pub FoundWithin : Search → List Outer → Bool → Node → Numbered → List Bound → Member → Type 0
FoundWithin s os arguments p n b m = (c : List Bound) × GivesOn s.known.names.now s.aim n os m ([], c) × MatchesBy arguments s.known.names.now p n b c

-- what is found inside a kid, entered in that way, and on after it
abbrev pub FoundInside : Search → Bool → Inside → List Bound → Member → Type 0
FoundInside s arguments inside b m =
    (c : List Bound) × Onward s.known.names.now (GivesIn s m) (line s.holder) (left_of s inside.from) inside.at ([], c) × MatchesBy arguments s.known.names.now inside.part.now (seen inside.kid) b c

-- a list in which the parts with a name choose among the arguments with one
pub record IsArgumentChoice (p : Node) (spot : Spot) (nodes : List Spot) (taken : List Bool) (o : Outer) : Type 0 where
  pub left : Candidates
  pub is : o.left ≡ CandidatesOf left
  pub pattern : o.pattern.now ≡ p
  pub holder : o.holder.spot ≡ spot
  pub unnamed : o.unnamed ≡ true
  pub from : o.from ≡ 0
  pub among : left.nodes.now ≡ nodes
  pub free : left.taken.now ≡ taken
  pub named : left.named ≡ true
  pub loose : left.loose ≡ has_dots (kids_of p)
