-- Kids are smaller than their nodes.
use Rattle.std.proofs.Common.{◌≡◌, ℕ, zero, suc, ◌+◌, ◌<◌, List, [], ◌∷◌, length, take, drop, get_or, length-append, sym, ap, ◌∙◌, subst, arith}
use Rattle.std.proofs.lemmas.List.Concat.{flat_map-cons}
use Rattle.node_tree.specs.declared.node.Node.{Node}
use Rattle.node_tree.specs.Numbers.{Numbered, count_of, siblings, kids_at}
use Rattle.node_tree.specs.Tree.{pre_of, pre_all, kids_of}
use Rattle.node_pool.specs.declared.spot.Spot.{Spot}
use Rattle.node_pool.specs.Spots.{all_seen}
use Rattle.node_pool.proofs.Placing.{count_is}
use Rattle.point_nodes.specs.Tops.{part}

-- each of these nodes has fewer than so many nodes
abbrev pub Smaller : ℕ → List Numbered → Type 0
Smaller n [] = Unit {0}
Smaller n (s ∷ ss) = (count_of s.node < n) × Smaller n ss

siblings_smaller : (n at : ℕ) (ks : List Node) → length (pre_all ks) < n → Smaller n (siblings at ks)
siblings_smaller n at [] lt = tt
siblings_smaller n at (k ∷ ks) lt =
    let e : length (pre_all (k ∷ ks)) ≡ count_of k + length (pre_all ks) = ap length (flat_map-cons pre_of k ks) ∙ length-append (pre_of k) (pre_all ks) in
    (omega (arith, e, lt), siblings_smaller n (at + count_of k) ks (omega (arith, e, lt)))

pub kids_smaller : (s : Numbered) → Smaller (count_of s.node) (kids_at s)
kids_smaller s = siblings_smaller (count_of s.node) (s.at + 1) (kids_of s.node) (omega (arith, count_is s.node))

smaller_take : (n k : ℕ) (ss : List Numbered) → Smaller n ss → Smaller n (take k ss)
smaller_take n zero ss all = tt
smaller_take n (suc k) [] all = tt
smaller_take n (suc k) (s ∷ ss) all = (all.0, smaller_take n k ss all.1)

smaller_drop : (n k : ℕ) (ss : List Numbered) → Smaller n ss → Smaller n (drop k ss)
smaller_drop n zero ss all = all
smaller_drop n (suc k) [] all = tt
smaller_drop n (suc k) (s ∷ ss) all = smaller_drop n k ss all.1

pub smaller_part : (n k : ℕ) (ss : List Numbered) → Smaller n ss → Smaller n (part k ss)
smaller_part n k ss all = smaller_take n 1 (drop k ss) (smaller_drop n k ss all)

pub smaller_at : (n : ℕ) (spots : List Spot) (i : ℕ) (x : Spot) → Smaller n (all_seen spots) → i < length spots → x ≡ get_or spots i x → count_of x.node.now < n
smaller_at n [] i x all lt is = absurd (omega (arith, lt))
smaller_at n (s ∷ ss) zero x all lt is = let P : Spot → Type 0 = λ y. count_of y.node.now < n in subst P (sym is) all.0
smaller_at n (s ∷ ss) (suc i) x all lt is = smaller_at n ss i x all.1 (omega (arith, lt)) is
