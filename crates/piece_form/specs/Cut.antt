-- The pieces of a file.
use Rattle.std.specs.Prelude.{ℕ, ◌+◌, ◌-◌, List, [], ◌∷◌, map, filter, nat_le, nat_lt, ◌&&◌, slice_range}
use Rattle.node_tree.specs.declared.node.Node.{Node}
use Rattle.node_tree.specs.declared.known.Known.{Known}
use Rattle.node_tree.specs.declared.shift.Shift.TheVariants.{Earlier}
use Rattle.node_tree.specs.declared.view.FileView.{FileView}
use Rattle.node_tree.specs.Numbers.{count_of}
use Rattle.node_tree.specs.Shifts.{shifted}
use Rattle.node_tree.specs.Tree.{kids_of, span_of}
use Rattle.piece_form.specs.declared.piece.Piece.{Piece}
use Rattle.piece_form.specs.declared.piece.Placed.{Placed}

-- the known names of the nodes from one number up to another, counted from the first
abbrev pub known_between : ℕ → ℕ → List Known → List Known
known_between first end ks = map (λ (k : Known). record { at = k.at - first; literal = k.literal }) (filter (λ (k : Known). nat_le first k.at && nat_lt k.at end) ks)

-- the piece of a node that has that number: it stands where the node does, and all in it counts from there
abbrev pub piece_at : FileView → ℕ → Node → Placed
piece_at view number n = record {
  start = (span_of n).from;
  piece = record {
    lang = view.lang;
    bytes = slice_range view.bytes (span_of n).from (span_of n).to;
    tree = shifted (Earlier (span_of n).from) n;
    known = known_between number (number + count_of n) view.known;
  };
}

-- the pieces of neighbouring nodes, of which the first has that number
abbrev pub pieces_from : FileView → ℕ → List Node → List Placed
pieces_from view number [] = []
pieces_from view number (n ∷ ns) = piece_at view number n ∷ pieces_from view (number + count_of n) ns

-- the pieces of a file: one for each kid of the root, in order
abbrev pub pieces_of : FileView → List Placed
pieces_of view = pieces_from view 1 (kids_of view.tree)

-- the whole file as a piece, for runs of statements at the top level
abbrev pub root_piece_of : FileView → Piece
root_piece_of view = record { lang = view.lang; bytes = view.bytes; tree = view.tree; known = view.known }
