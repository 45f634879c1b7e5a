-- How many nodes a tree has, kid by kid.
use Rattle.std.proofs.Common.{◌≡◌, ℕ, ◌+◌, ◌<◌, ◌≤◌, List, [], ◌∷◌, ◌++◌, length, take, get_or, refl, sym, ap, ◌∙◌, arith}
use Rattle.std.proofs.lemmas.Grind.{flat_map-append}
use Rattle.std.proofs.lemmas.List.{take_more, take_all}
use Rattle.std.proofs.lemmas.List.Concat.{flat_map-cons}
use Rattle.node_tree.specs.declared.node.Node.{Node}
use Rattle.node_tree.specs.Tree.{pre_of, pre_all, kids_of}
use Rattle.node_tree.specs.Numbers.{count_of}
use Rattle.node_tree.proofs.Trees.{pre_is}

pub count_is : (n : Node) → count_of n ≡ 1 + length (pre_all (kids_of n))
count_is n = omega (arith, ap length (pre_is n))

-- one tree more
pub trees_more : (ns : List Node) (i : ℕ) (n : Node) → i < length ns → n ≡ get_or ns i n → pre_all (take (i + 1) ns) ≡ pre_all (take i ns) ++ pre_of n
trees_more ns i n lt is =
    ap pre_all (take_more ns i n lt ∙ ap (λ (m : Node). take i ns ++ m ∷ []) (sym is)) ∙ flat_map-append pre_of (take i ns) (n ∷ []) ∙ ap (λ (xs : List Node). pre_all (take i ns) ++ xs) (flat_map-cons pre_of n [] ∙ nothing (pre_of n))
  where
    nothing : (xs : List Node) → xs ++ [] ≡ xs
    nothing [] = refl
    nothing (x ∷ xs) = ap (λ (ys : List Node). x ∷ ys) (nothing xs)

pub count_done : (tree : Node) (ks : List Node) (i size : ℕ) → ks ≡ kids_of tree → length ks ≤ i → size ≡ 1 + length (pre_all (take i ks)) → size ≡ count_of tree
count_done tree ks i size kids le size-is = size-is ∙ ap (λ (xs : List Node). 1 + length (pre_all xs)) (take_all i ks le ∙ kids) ∙ sym (count_is tree)
