-- The parts of a file.
use Rattle.std.specs.Prelude.{◌≡◌, ◌⊎◌, List, [], ◌∷◌, ◌++◌, map, filter, Bool, true, false, not, ◌&&◌, ◌||◌, if◌then◌else◌}
use Rattle.node_tree.specs.declared.view.FileView.{FileView}
use Rattle.node_tree.specs.declared.view.Lang.TheVariants.{Python}
use Rattle.node_tree.specs.declared.view.Pattern.{Pattern}
use Rattle.node_tree.specs.declared.view.Shape.{Shape}
use Rattle.node_tree.specs.declared.view.Shape.TheVariants.{Expr, Run}
use Rattle.node_tree.specs.Tree.{kind_of}
use Rattle.piece_form.specs.declared.piece.Placed.{Placed}
use Rattle.piece_form.specs.Cut.{pieces_of, root_piece_of}
use Rattle.piece_match.specs.Pieces.{is_root, falls_apart}
use Rattle.tree_match.specs.Members.{known_tree}
use Rattle.import_names.specs.Resolved.{IsResolved}
use Rattle.file_parts.specs.declared.cut.Cut.{Cut}
use Rattle.file_parts.specs.declared.parts.Part.{Part}
use Rattle.file_parts.specs.Seen.{resolved_tree}

-- a piece and where it stands, whether it is the whole file, whether names are resolved in it, and whether the file falls apart
pub record SeenPart : Type 0 where
  pub placed : Placed
  pub whole : Bool
  pub resolved : Bool
  pub apart : Bool

abbrev pub seen_part : Part → SeenPart
seen_part p = record { placed = p.placed.now; whole = p.whole; resolved = p.resolved; apart = p.apart }

abbrev pub is_run : Shape → Bool
is_run Run = true
is_run Expr = false

-- a pattern that is no whole file is matched in each statement of a file that falls apart; in the whole file it is matched for
-- its runs, or since it can't be matched statement by statement
abbrev pub is_needed : Pattern → SeenPart → Bool
is_needed pattern p =
    if p.whole then is_run pattern.shape || not (not (is_root (kind_of pattern.tree)) && p.apart) else (not (is_root (kind_of pattern.tree)) && p.apart)

-- those of the parts that a pattern is matched in
abbrev pub needed_of : Pattern → List SeenPart → List SeenPart
needed_of pattern parts = filter (is_needed pattern) parts

-- the whole file, where it stands
abbrev pub whole_part : FileView → Placed
whole_part view = record { start = 0; piece = root_piece_of view }

-- pieces and the whole, as parts
abbrev pub as_parts : Bool → Bool → List Placed → Placed → List SeenPart
as_parts resolved apart pieces whole =
    map (λ p. record { placed = p; whole = false; resolved = resolved; apart = apart }) pieces ++ record { placed = whole; whole = true; resolved = resolved; apart = apart } ∷ []

abbrev pub made_part : Bool → Cut → List SeenPart
made_part resolved c = as_parts resolved c.apart c.statements c.whole

-- the parts of one view of a file: its statements, and the whole
abbrev pub parts_in : Bool → FileView → List SeenPart
parts_in resolved view = as_parts resolved (falls_apart view.tree) (pieces_of view) (whole_part view)

-- no name of the file stands for another
abbrev pub ResolvesToItself : FileView → Type 0
ResolvesToItself view = resolved_tree view.lang (known_tree view) ≡ known_tree view

-- the parts of a file in Python with its names resolved; none where that changes nothing, or in another language
abbrev pub AreFurther : FileView → List SeenPart → Type 0
AreFurther view parts = ((parts ≡ []) × ResolvesToItself view) ⊎ ((view.lang ≡ Python) × ((r : FileView) → IsResolved view r → parts ≡ parts_in true r))

-- all parts of a file: of the file as it is written, and those with its names resolved
pub record ArePartsOf (view : FileView) (parts : List SeenPart) : Type 0 where
  pub further : List SeenPart
  pub are : parts ≡ parts_in false view ++ further
  pub resolved : AreFurther view further
