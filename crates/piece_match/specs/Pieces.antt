-- The members of a pattern in a piece.
use Rattle.std.specs.Prelude.{◌≡◌, Bool, true, false, not, ◌&&◌, nat_le}
use Rattle.std.specs.List.{list_all}
use Rattle.node_tree.specs.declared.node.Node.{Node}
use Rattle.node_tree.specs.declared.kind.Kind.{Kind}
use Rattle.node_tree.specs.declared.kind.Kind.TheVariants as kinds
use Rattle.node_tree.specs.declared.view.FileView.{FileView}
use Rattle.node_tree.specs.declared.view.Pattern.{Pattern}
use Rattle.node_tree.specs.declared.view.Shape.TheVariants.{Run}
use Rattle.node_tree.specs.Tree.{kind_of, kids_of, span_of, pre_of}
use Rattle.node_tree.specs.Numbers.{Numbered, root_of}
use Rattle.piece_form.specs.declared.piece.Piece.{Piece}
use Rattle.tree_match.specs.Members.{Member, MemberRun, MemberUnder, IsMember, KnownTree, known_to}

abbrev pub is_root : Kind → Bool
is_root kinds.Root = true
is_root _ = false

-- no node of the tree begins before the tree does
abbrev pub begins_first : Node → Bool
begins_first n = list_all (λ (m : Node). nat_le (span_of n).from (span_of m).from) (pre_of n)

-- a tree that can be a piece by itself: it is no whole file, and no node of it begins before it does
abbrev pub stands_alone : Node → Bool
stands_alone n = not (is_root (kind_of n)) && begins_first n

-- a file whose statements can each be a piece
abbrev pub falls_apart : Node → Bool
falls_apart tree = is_root (kind_of tree) && list_all stands_alone (kids_of tree)

-- the pattern is looked for in each statement of the file by itself: the pattern isn't a whole file
abbrev pub is_cut : Pattern → Node → Bool
is_cut pattern tree = not (is_root (kind_of pattern.tree)) && falls_apart tree

-- a run of the kids of the root itself
abbrev pub RootRun : Pattern → KnownTree → Member → Type 0
RootRun pattern file m = (pattern.shape ≡ Run) × MemberRun (known_to pattern file.known) pattern.tree (root_of file.tree) m

-- a member in the statements of the root, or only a run of them
abbrev pub MemberOfPiece : Bool → Pattern → KnownTree → Member → Type 0
MemberOfPiece true pattern piece m = RootRun pattern piece m
MemberOfPiece false pattern piece m = IsMember pattern piece m

-- a member in a piece, whose names are known by numbers from its first node: of a file that falls apart a run of its
-- statements alone, since what is in them is in their own pieces
abbrev pub IsPieceMember : Pattern → KnownTree → Member → Type 0
IsPieceMember pattern piece m = MemberOfPiece (is_cut pattern piece.tree) pattern piece m

-- a piece as it is matched
abbrev pub known_piece : Piece → KnownTree
known_piece p = record { tree = p.tree; known = p.known }

-- a member in a file at a node or below it
abbrev pub IsMemberUnder : Pattern → FileView → Numbered → Member → Type 0
IsMemberUnder pattern view s m = MemberUnder (known_to pattern view.known) pattern.shape pattern.tree s m
