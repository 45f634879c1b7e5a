-- The parts of a file as they are held.
use Rattle.std.specs.Prelude.{◌≡◌, Option, None, Some}
use Rattle.node_tree.specs.declared.view.FileView.{FileView}
use Rattle.node_tree.specs.declared.view.Lang.TheVariants.{Python}
use Rattle.piece_form.specs.Cut.{pieces_of}
use Rattle.piece_match.specs.Pieces.{falls_apart}
use Rattle.import_names.specs.Resolved.{IsResolved}
use Rattle.file_parts.specs.declared.cut.Cut.{Cut}
use Rattle.file_parts.specs.Parts.{whole_part, ResolvesToItself}

-- the pieces of a file, the whole of it, and whether it falls apart
pub record IsCut (view : FileView) (c : Cut) : Type 0 where
  pub statements : c.statements ≡ pieces_of view
  pub whole : c.whole ≡ whole_part view
  pub apart : c.apart ≡ falls_apart view.tree

-- the file with its names resolved, where it is in Python and that changes it
abbrev pub IsFurther : FileView → Option Cut → Type 0
IsFurther view None = ResolvesToItself view
IsFurther view (Some c) = (view.lang ≡ Python) × ((r : FileView) → IsResolved view r → IsCut r c)
