-- What is written tells pieces apart.
use Rattle.std.proofs.Common.{◌≡◌, ℕ, List, [], ◌∷◌, ◌++◌, length, refl, sym, ap, ◌∙◌, arith, append_assoc}
use denote.Enum.Bare.{tag_one}
use Rattle.node_tree.specs.declared.node.Node.{Node}
use Rattle.node_tree.specs.contracts.view.Lang.{the_type as the_langs}
use Rattle.tree_code.specs.Code.{number_code, tree_code}
use Rattle.tree_code.proofs.Numbers.{number_tells}
use Rattle.tree_code.proofs.Telling.{tree_tells}
use Rattle.piece_form.specs.declared.key.PieceKey.{PieceKey}
use Rattle.piece_form.specs.declared.piece.Piece.{Piece}
use Rattle.piece_form.specs.Code.{known_code, piece_code, lang_place}
use Rattle.piece_form.specs.Identity.{Identity, identity_of, IsSamePiece}
use Rattle.piece_form.specs.Keys.{IsKeyOf}

known_tells : (ks js : List (ℕ × Node)) → length ks ≡ length js → known_code ks ≡ known_code js → ks ≡ js
known_tells [] [] l e = refl
known_tells [] (j ∷ js) l e = absurd (omega arith)
known_tells (k ∷ ks) [] l e = absurd (omega arith)
known_tells (k ∷ ks) (j ∷ js) l e =
    let at = number_tells k.0 j.0 (tree_code k.1 ++ known_code ks) (tree_code j.1 ++ known_code js) e in
    let one = tree_tells k.1 j.1 (known_code ks) (known_code js) at.1 in
    let pair : ℕ → Node → ℕ × Node = λ a n. (a, n) in
    ap (λ (a : ℕ). pair a k.1 ∷ ks) at.0 ∙ ap (λ (n : Node). pair j.0 n ∷ ks) one.0 ∙ ap (λ (zs : List (ℕ × Node)). j ∷ zs) (known_tells ks js (omega arith) one.1)

-- pieces with the same bytes, of which the same is written, are the same
pub piece_tells : (i j : Identity) → i.bytes ≡ j.bytes → piece_code i ≡ piece_code j → i ≡ j
piece_tells i j bytes e =
    let lang : lang_place i.lang ≡ lang_place j.lang = cc in
    let behind : tree_code i.tree ++ (number_code (length i.known) ++ known_code i.known) ≡ tree_code j.tree ++ (number_code (length j.known) ++ known_code j.known) = cc in
    let tree = tree_tells i.tree j.tree (number_code (length i.known) ++ known_code i.known) (number_code (length j.known) ++ known_code j.known) behind in
    let many = number_tells (length i.known) (length j.known) (known_code i.known) (known_code j.known) tree.1 in
    let known = known_tells i.known j.known many.0 many.1 in
    let langs = tag_one the_langs tt i.lang j.lang lang in
    ap (λ (x : _). record { lang = x; bytes = i.bytes; tree = i.tree; known = i.known }) langs
    ∙ ap (λ (x : List ℕ). record { lang = j.lang; bytes = x; tree = i.tree; known = i.known }) bytes
    ∙ ap (λ (x : Node). record { lang = j.lang; bytes = j.bytes; tree = x; known = i.known }) tree.0
    ∙ ap (λ (x : List (ℕ × Node)). record { lang = j.lang; bytes = j.bytes; tree = j.tree; known = x }) known

-- two pieces have equal keys exactly where they are the same
pub keys_tell : (p q : Piece) (a b : PieceKey) → IsKeyOf p a → IsKeyOf q b → a.bytes.items ≡ b.bytes.items → a.code.items ≡ b.code.items → IsSamePiece p q
keys_tell p q a b is its bytes code = piece_tells (identity_of p) (identity_of q) (sym is.bytes ∙ bytes ∙ its.bytes) (sym is.code ∙ code ∙ its.code)

pub same_keys : (p q : Piece) (a b : PieceKey) → IsKeyOf p a → IsKeyOf q b → IsSamePiece p q → (a.bytes.items ≡ b.bytes.items) × (a.code.items ≡ b.code.items)
same_keys p q a b is its same = (is.bytes ∙ ap (λ (i : Identity). i.bytes) same ∙ sym its.bytes, is.code ∙ ap piece_code same ∙ sym its.code)
