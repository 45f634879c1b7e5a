-- How many nodes patterns have, by which the search goes down.
use Rattle.std.proofs.Common.{◌≡◌, ℕ, zero, suc, ◌+◌, ◌<◌, ◌≤◌, List, [], ◌∷◌, length, drop, get_or, sym, ap, ◌∙◌, arith, add-one, length-append}
use Rattle.std.proofs.Math.Seq.{drop-cons}
use Rattle.std.proofs.lemmas.List.Concat.{flat_map-cons}
use Rattle.node_tree.specs.declared.node.Node.{Node}
use Rattle.node_tree.specs.Tree.{kids_of, pre_of, pre_all}
use Rattle.node_tree.specs.Numbers.{count_of}
use Rattle.node_tree.proofs.Counts.{count_is}

pub count_some : (n : Node) → 1 ≤ count_of n
count_some n = omega (arith, count_is n)

count_more : (n : Node) (ns : List Node) → length (pre_all (n ∷ ns)) ≡ count_of n + length (pre_all ns)
count_more n ns = ap length (flat_map-cons pre_of n ns) ∙ length-append (pre_of n) (pre_all ns)

count_one : (ns : List Node) (i : ℕ) (n : Node) → i < length ns → n ≡ get_or ns i n → count_of n ≤ length (pre_all ns)
count_one [] i n lt is = absurd (omega arith)
count_one (m ∷ ns) zero n lt is =
    let e : n ≡ m = is in
    let f = ap count_of e in
    omega (arith, f, count_more m ns)
count_one (m ∷ ns) (suc i) n lt is =
    let ih = count_one ns i n (omega arith) is in
    omega (arith, ih, count_more m ns)

-- a kid has fewer nodes
pub count_kid : (p : Node) (kids : List Node) (i : ℕ) (q : Node) → kids ≡ kids_of p → i < length kids → q ≡ get_or kids i q → count_of q < count_of p
count_kid p kids i q are lt is =
    let f = ap (λ (ns : List Node). length (pre_all ns)) are in
    omega (arith, f, count_one kids i q lt is, count_is p)

-- all kids together have
pub count_kids : (p : Node) (kids : List Node) → kids ≡ kids_of p → length (pre_all kids) < count_of p
count_kids p kids are = let f = ap (λ (ns : List Node). length (pre_all ns)) are in omega (arith, f, count_is p)

-- the first of some patterns, and the others
pub count_next : (ps : List Node) (i : ℕ) (p : Node) → i < length ps → p ≡ get_or ps i p → length (pre_all (drop i ps)) ≡ count_of p + length (pre_all (drop (i + 1) ps))
count_next ps i p lt is =
    let cut : drop i ps ≡ p ∷ drop (i + 1) ps = drop-cons ps i p lt ∙ ap (λ (q : Node). q ∷ drop (suc i) ps) (sym is) ∙ ap (λ (j : ℕ). p ∷ drop j ps) (sym (add-one i)) in
    ap (λ (ns : List Node). length (pre_all ns)) cut ∙ count_more p (drop (i + 1) ps)
