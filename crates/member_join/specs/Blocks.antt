-- Members in blocks, and what is known of all members of a block.
use Rattle.std.specs.Prelude.{◌≡◌, ◌≤◌, List, false, map, MatchOption}
use Rattle.std.specs.declared.cmp.Ordering.{Ordering}
use Rattle.std.specs.Ordering.{is_lt}
use Rattle.std.specs.Cmp.Lexicographic.{slice_cmp}
use Rattle.node_tree.specs.declared.node.Node.{Node}
use Rattle.node_tree.specs.declared.span.Span.{Span}
use Rattle.node_tree.specs.Order.{node_cmp}
use Rattle.node_tree.specs.Tree.{content_of}
use Rattle.meta_bind.specs.declared.bound.Bound.{Bound}
use Rattle.meta_bind.specs.Bounds.{bound_at}
use Rattle.tree_match.specs.Members.{Member}
use Rattle.node_match.specs.Sets.{Among}
use Rattle.sorted_sets.specs.Sizes.{Each, Any}
use Rattle.member_join.specs.Agreements.{AgreesWith}
use Rattle.member_join.specs.Joins.{meet, IsJoinedFrom}
use Rattle.member_join.specs.declared.state.State.{State}
use Rattle.member_join.specs.declared.operand.Role.{Role}
use Rattle.member_join.specs.declared.block.Hull.{Hull}
use Rattle.member_join.specs.declared.block.Block.{Block}

-- which of two contents comes first
abbrev pub contents_order : List Node → List Node → Ordering
contents_order = slice_cmp node_cmp

-- the first contents don't come before the second ones
abbrev pub IsNotBelow : List Node → List Node → Type 0
IsNotBelow a b = is_lt (contents_order a b) ≡ false

-- the contents come neither before the hull's least nor after its greatest
abbrev pub Encloses : Hull → List Node → Type 0
Encloses h nodes = IsNotBelow nodes (map content_of h.least.now) × IsNotBelow (map content_of h.greatest.now) nodes

-- the member binds the hull's name to contents within it
abbrev pub IsHullOf : Hull → Member → Type 0
IsHullOf h m = MatchOption (bound_at h.name.now m.1) ⊥ (λ (b : Bound). Encloses h b.nodes)

abbrev pub AreHullsOf : List Member → List Hull → Type 0
AreHullsOf members hulls = Each (λ (h : Hull). Each (IsHullOf h) members) hulls

-- none of the members begins before the range, and none ends after it
pub record IsReach (range : Span) (members : List Member) : Type 0 where
  pub begins : Each (λ (m : Member). range.from ≤ m.0.from) members
  pub ends : Each (λ (m : Member). m.0.to ≤ range.to) members

-- what a block says of its members holds of each
pub record IsBlock (block : Block) : Type 0 where
  pub reach : IsReach block.range block.members.now
  pub hulls : AreHullsOf block.members.now block.hulls.items

-- the member is in the block
abbrev pub IsIn : Member → Block → Type 0
IsIn m block = Among block.members.now m

-- the member's range doesn't touch that of the state, or its binding doesn't agree with it
abbrev pub IsApart : State → Member → Type 0
IsApart s m = (meet s.range m.0).from ≤ (meet s.range m.0).to → AgreesWith s.plain s.inside m.1 → ⊥

-- the state is this one with a member of the block that agrees
abbrev pub IsJoinedIn : Role → State → State → Block → Type 0
IsJoinedIn role b s block = IsJoinedFrom role b block.members.now s

-- the same of one of these states and a member of some block
abbrev pub IsJoinedToBlocks : Role → List State → List Block → State → Type 0
IsJoinedToBlocks role before blocks s = Any (λ (b : State). Any (IsJoinedIn role b s) blocks) before
