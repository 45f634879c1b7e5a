-- Trees written as bytes.
use Rattle.std.specs.Prelude.{◌≡◌, ℕ, ◌+◌, ◌/◌, ◌%◌, nat_lt, if◌then◌else◌, List, [], ◌∷◌, ◌++◌, length, map}
use Rattle.std.specs.List.{flat_map}
use Rattle.node_tree.specs.declared.node.Node.{Node, fold-Node, fold_out-Node}
use Rattle.node_tree.specs.declared.kind.Kind.{Kind}
use Rattle.node_tree.specs.declared.span.Span.{Span}
use Rattle.node_tree.specs.Order.{kind_place}
use Rattle.node_tree.specs.Tree.{kind_of, text_of, kids_of, span_of}

-- a number takes one byte below 192, two below 16,128, and else five
unfoldable pub number_code : ℕ → List ℕ
number_code n =
    if nat_lt n 192 then n ∷ [] else (
    if nat_lt n 16128 then (n / 256 + 192) ∷ (n % 256) ∷ [] else
    255 ∷ (n % 256) ∷ (n / 256 % 256) ∷ (n / 65536 % 256) ∷ (n / 16777216) ∷ [])

-- a text: its number of bytes, and these
abbrev pub text_code : List ℕ → List ℕ
text_code text = number_code (length text) ++ text

-- a range: where it begins, and where it ends
abbrev pub span_code : Span → List ℕ
span_code span = number_code span.from ++ number_code span.to

-- the place of a kind, and the range of its node
abbrev pub place_code : Kind → Span → List ℕ
place_code kind span = kind_place kind ∷ span_code span

-- a tree: the kind with the range, the text, the number of kids, and these
unfoldable pub tree_code : Node → List ℕ
tree_code = fold-Node (List ℕ) (λ x. place_code x.kind x.span ++ (text_code x.text ++ (number_code (length x.kids) ++ flat_map (λ k. k) x.kids)))

pub tree_code_is : (n : Node) → tree_code n ≡ place_code (kind_of n) (span_of n) ++ (text_code (text_of n) ++ (number_code (length (map tree_code (kids_of n))) ++ flat_map (λ k. k) (map tree_code (kids_of n))))
unfolding tree_code
tree_code_is n =
    fold_out-Node (List ℕ) (λ x. place_code x.kind x.span ++ (text_code x.text ++ (number_code (length x.kids) ++ flat_map (λ k. k) x.kids))) n
