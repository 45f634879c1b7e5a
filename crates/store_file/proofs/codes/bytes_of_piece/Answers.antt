use Rattle.std.proofs.Common.{◌≡◌, ℕ, List, [], ◌∷◌, ◌++◌, length, sym, ap, ◌∙◌}
use Rattle.std.proofs.lemmas.List.{append-nil}
use Rattle.tree_code.specs.Code.{number_code, tree_code}
use Rattle.piece_form.specs.Code.{known_code, lang_place}
use Rattle.piece_form.specs.Identity.{known_contents}
use Rattle.store_form.specs.Form.{text_bytes}
use Rattle.store_file.proofs.Forests.{four_added}
use Rattle.store_file.proofs.codes.bytes_of_piece.Goals as goal

pub returns : goal.returns
returns c = λ p key.
    let names = known_contents p.known in
    let behind : List ℕ = number_code (length names) ++ known_code names in
    let lang = c.in_ok-move_place.ensures (lang_place p.lang) (tree_code p.tree ++ behind) (c.deref.ensures.value ∙ key.code) in
    let tree = c.in_ok-move_tree.ensures p.tree behind lang.0 in
    let known = c.in_ok-move_known.ensures names [] (tree.0 ∙ ap (λ (v : List ℕ). number_code (length names) ++ v) (sym (append-nil (known_code names)))) in
    let same : c.as_slice.result.now ≡ p.bytes = c.as_slice.ensures.value ∙ key.bytes in
    let text = c.in_ok-add_text.ensures ∙ ap (λ (v : List ℕ). c.move_place.new.out ++ text_bytes v) same in
    four_added _ _ _ _ _ _ _ _ _ c.new-out.ensures lang.1 text tree.1 known.1
