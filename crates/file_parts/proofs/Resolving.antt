-- Files with their names resolved, and how they are cut.
use Rattle.std.proofs.Common.{◌≡◌, ℕ, ◌+◌, List, [], ◌∷◌, refl, sym, ap, ◌∙◌}
use Rattle.std.specs.Prelude.{slice_range}
use Rattle.node_tree.specs.declared.node.Node.{Node}
use Rattle.node_tree.specs.declared.known.Known.{Known}
use Rattle.node_tree.specs.declared.shift.Shift.TheVariants.{Earlier}
use Rattle.node_tree.specs.declared.view.FileView.{FileView}
use Rattle.node_tree.specs.declared.view.Lang.{Lang}
use Rattle.node_tree.specs.declared.view.Lang.TheVariants as langs
use Rattle.node_tree.specs.Numbers.{count_of}
use Rattle.node_tree.specs.Shifts.{shifted}
use Rattle.node_tree.specs.Tree.{kids_of, span_of}
use Rattle.piece_form.specs.declared.piece.Placed.{Placed}
use Rattle.piece_form.specs.Cut.{known_between, piece_at, pieces_from, pieces_of}
use Rattle.tree_match.specs.Members.{KnownTree, known_tree}
use Rattle.import_names.specs.Claims.{claims_of, meaning}
use Rattle.import_names.specs.Resolved.{replaced, kept, tree_in, known_in, IsResolved}
use Rattle.import_names.proofs.Placing.{replaced_lies}
use Rattle.import_names.proofs.Renumbering.{are_names, are_in_order}
use Rattle.file_parts.specs.Seen.{resolved_tree}
use Rattle.file_parts.specs.Parts.{whole_part}

-- ---- the resolved view

-- the view of a file in Python with its names resolved
python_view : FileView → FileView
python_view view =
    let means = meaning (claims_of view.tree) in
    record {
      lang = view.lang;
      bytes = view.bytes;
      tree = replaced means view.tree;
      known = kept means view.tree view.known;
      utf8 = view.utf8;
      small = view.small;
      placed = replaced_lies view.bytes means view.tree view.placed;
      names = are_names means view.tree view.known;
      in_order = are_in_order means view.tree view.known view.in_order;
    }

-- each file in Python has one
pub python_resolved : (view : FileView) → view.lang ≡ langs.Python → (r : FileView) × IsResolved view r
unfolding python_view
python_resolved view e = (
  python_view view,
  record {
    lang = refl;
    bytes = refl;
    tree = sym (ap (λ (l : Lang). tree_in l view.tree) e);
    known = sym (ap (λ (l : Lang). known_in l view.tree view.known) e);
  },
)

pub tree_is : (view r : FileView) → IsResolved view r → resolved_tree view.lang (known_tree view) ≡ known_tree r
tree_is view r is =
    let make : Node → List Known → KnownTree = λ t ks. record { tree = t; known = ks } in
    sym (ap (λ (t : Node). make t r.known) is.tree ∙ ap (make (tree_in view.lang view.tree)) is.known)

-- ---- two views that agree are cut alike

module _ (a b : FileView) (lang : a.lang ≡ b.lang) (bytes : a.bytes ≡ b.bytes) (tree : a.tree ≡ b.tree) (known : a.known ≡ b.known) where
  piece_alike : (number : ℕ) (n : Node) → piece_at a number n ≡ piece_at b number n
  piece_alike number n =
      let make : Lang → List ℕ → List Known → Placed =
      λ l bs ks. record {
        start = (span_of n).from;
        piece = record {
          lang = l;
          bytes = slice_range bs (span_of n).from (span_of n).to;
          tree = shifted (Earlier (span_of n).from) n;
          known = known_between number (number + count_of n) ks;
        };
      } in
      ap (λ (l : Lang). make l a.bytes a.known) lang ∙ ap (λ (bs : List ℕ). make b.lang bs a.known) bytes ∙ ap (make b.lang b.bytes) known

  pieces_alike : (number : ℕ) (ns : List Node) → pieces_from a number ns ≡ pieces_from b number ns
  pieces_alike number [] = refl
  pieces_alike number (n ∷ ns) =
      ap (λ (p : Placed). p ∷ pieces_from a (number + count_of n) ns) (piece_alike number n) ∙ ap (λ (ps : List Placed). piece_at b number n ∷ ps) (pieces_alike (number + count_of n) ns)

  pub all_alike : pieces_of a ≡ pieces_of b
  all_alike = ap (λ (t : Node). pieces_from a 1 (kids_of t)) tree ∙ pieces_alike 1 (kids_of b.tree)

  pub whole_alike : whole_part a ≡ whole_part b
  whole_alike =
      let make : Lang → List ℕ → Node → List Known → Placed = λ l bs t ks. record { start = 0; piece = record { lang = l; bytes = bs; tree = t; known = ks } } in
      ap (λ (l : Lang). make l a.bytes a.tree a.known) lang ∙ ap (λ (bs : List ℕ). make b.lang bs a.tree a.known) bytes ∙ ap (λ (t : Node). make b.lang b.bytes t a.known) tree
      ∙ ap (make b.lang b.bytes b.tree) known
