use Rattle.std.proofs.Common.{ℕ, [], ◌∷◌, sym, ◌∙◌}
use Rattle.std.proofs.lemmas.List.{append-nil}
use denote.Enum.Declared.{tag_of}
use Rattle.node_tree.specs.contracts.view.Shape.{the_type as the_shapes}
use Rattle.tree_code.specs.Code.{tree_code}
use Rattle.piece_form.specs.Code.{lang_place, bool_place}
use Rattle.store_file.proofs.Forests.{four_added}
use Rattle.store_file.proofs.codes.bytes_of_pattern.Goals as goal

pub returns : goal.returns
returns c = λ p e.
    let shape : ℕ = tag_of the_shapes p.shape in
    let lang = c.in_ok-move_place.ensures (lang_place p.lang) (shape ∷ bool_place p.constants ∷ tree_code p.tree) (c.deref.ensures.value ∙ e) in
    let second = c.in_ok-move_place-2.ensures shape (bool_place p.constants ∷ tree_code p.tree) lang.0 in
    let third = c.in_ok-move_place-3.ensures (bool_place p.constants) (tree_code p.tree) second.0 in
    let tree = c.in_ok-move_tree.ensures p.tree [] (third.0 ∙ sym (append-nil (tree_code p.tree))) in
    four_added _ _ _ _ _ _ _ _ _ c.new-out.ensures lang.1 second.1 third.1 tree.1
