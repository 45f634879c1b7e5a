-- Loops over the nodes of trees.
use Rattle.std.proofs.Common.{◌≡◌, ℕ, ◌+◌, ◌<◌, ◌≤◌, List, [], ◌∷◌, ◌++◌, length, take, get_or, append_assoc, refl, sym, ap, ◌∙◌, arith}
use Rattle.std.proofs.lemmas.List.{take_more, take_all, map-append}
use Rattle.node_tree.specs.declared.node.Node.{Node}
use Rattle.node_tree.specs.Numbers.{Numbered, count_of, numbered, pre_at}
use Rattle.node_tree.specs.Tree.{pre_of}
use Rattle.node_pool.specs.declared.spot.Spot.{Spot}
use Rattle.node_pool.specs.Spots.{seen, all_seen}

numbered_many : (at : ℕ) (ns : List Node) → length (numbered at ns) ≡ length ns
numbered_many at [] = refl
numbered_many at (n ∷ ns) = omega (arith, numbered_many (at + 1) ns)

-- one node more
pub tree_more : (s : Numbered) (x : Spot) (i : ℕ) (first : List Numbered) (old new : List Spot) → i < count_of s.node → seen x ≡ get_or (pre_at s) i (seen x)
    → all_seen old ≡ first ++ take i (pre_at s) → new ≡ old ++ x ∷ [] → all_seen new ≡ first ++ take (i + 1) (pre_at s)
tree_more s x i first old new lt is old_is new_is =
    let inside : i < length (pre_at s) = omega (arith, lt, numbered_many s.at (pre_of s.node)) in
    let one : take (i + 1) (pre_at s) ≡ take i (pre_at s) ++ seen x ∷ [] = take_more (pre_at s) i (seen x) inside ∙ ap (λ y. take i (pre_at s) ++ y ∷ []) (sym is) in
    ap all_seen new_is ∙ map-append seen old (x ∷ []) ∙ ap (λ ys. ys ++ seen x ∷ []) old_is ∙ append_assoc first (take i (pre_at s)) (seen x ∷ []) ∙ ap (λ ys. first ++ ys) (sym one)

-- all of them
pub tree_done : (s : Numbered) (i : ℕ) (first : List Numbered) (now : List Spot) → count_of s.node ≤ i → all_seen now ≡ first ++ take i (pre_at s) → all_seen now ≡ first ++ pre_at s
tree_done s i first now le is =
    let all : length (pre_at s) ≤ i = omega (arith, le, numbered_many s.at (pre_of s.node)) in
    is ∙ ap (λ ys. first ++ ys) (take_all i (pre_at s) all)
