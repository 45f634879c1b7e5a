-- What is written of known names, one by one.
use Rattle.std.proofs.Common.{◌≡◌, ℕ, ◌+◌, ◌<◌, List, [], ◌∷◌, ◌++◌, length, take, get_or, refl, sym, ap, ◌∙◌, append_assoc}
use Rattle.std.proofs.lemmas.List.{take_more, get_or-map, append-nil}
use Rattle.node_tree.specs.declared.node.Node.{Node}
use Rattle.node_tree.specs.declared.known.Known.{Known}
use Rattle.node_tree.specs.Tree.{content_of}
use Rattle.tree_code.specs.Code.{number_code, tree_code}
use Rattle.piece_form.specs.Code.{known_code}
use Rattle.piece_form.specs.Identity.{known_contents, known_content}

-- one known name more
known_last : (ks : List (ℕ × Node)) (k : ℕ × Node) → known_code (ks ++ k ∷ []) ≡ known_code ks ++ (number_code k.0 ++ tree_code k.1)
known_last [] k = ap (λ (xs : List ℕ). number_code k.0 ++ xs) (append-nil (tree_code k.1))
known_last (j ∷ ks) k =
    ap (λ (xs : List ℕ). number_code j.0 ++ (tree_code j.1 ++ xs)) (known_last ks k)
    ∙ regrouped (number_code j.0) (tree_code j.1) (known_code ks) (number_code k.0 ++ tree_code k.1)
  where
    regrouped : (a b c d : List ℕ) → a ++ (b ++ (c ++ d)) ≡ (a ++ (b ++ c)) ++ d
    regrouped a b c d = simp append_assoc

contents_last : (ks : List Known) (k : Known) → known_contents (ks ++ k ∷ []) ≡ known_contents ks ++ known_content k ∷ []
contents_last [] k = refl
contents_last (j ∷ ks) k = ap (λ (xs : List (ℕ × Node)). known_content j ∷ xs) (contents_last ks k)

pub known_more : (ks : List Known) (i : ℕ) (k : Known) → i < length ks → k ≡ get_or ks i k → known_code (known_contents (take (i + 1) ks)) ≡ known_code (known_contents (take i ks)) ++ (number_code k.at ++ tree_code (content_of k.literal))
known_more ks i k lt is =
    ap (λ (xs : List Known). known_code (known_contents xs)) (take_more ks i k lt ∙ ap (λ (m : Known). take i ks ++ m ∷ []) (sym is)) ∙ ap known_code (contents_last (take i ks) k)
    ∙ known_last (known_contents (take i ks)) (known_content k)

pub three_parts : (front before at code : List ℕ) → ((front ++ before) ++ at) ++ code ≡ front ++ (before ++ (at ++ code))
three_parts front before at code = simp append_assoc

-- known names that are equal in all, at one place
pub contents_at : (ks js : List Known) (i : ℕ) (a b : Known) → known_contents ks ≡ known_contents js → i < length ks → i < length js → a ≡ get_or ks i a → b ≡ get_or js i b → known_content a ≡ known_content b
contents_at ks js i a b e lt lt' is its =
    ap known_content is ∙ sym (get_or-map known_content ks i a (known_content b) lt) ∙ ap (λ (xs : List (ℕ × Node)). get_or xs i (known_content b)) e ∙ get_or-map known_content js i b (known_content b) lt' ∙ ap known_content (sym its)
