-- Kids and their numbers.
use Rattle.std.proofs.Common.{◌≡◌, inl, inr, ℕ, zero, suc, ◌+◌, ◌<◌, ◌≤◌, List, [], ◌∷◌, length, take, drop, get_or, refl, sym, ap, ◌∙◌, add-one, Bool}
use Rattle.std.specs.Prelude.{Some, nat_eq, if◌then◌else◌}
use Rattle.std.proofs.Math.Seq.{drop-cons}
use Rattle.node_tree.specs.declared.known.Known.{Known}
use Rattle.std.proofs.lemmas.List.{length-map, get_or-map}
use Rattle.node_tree.specs.declared.node.Node.{Node}
use Rattle.node_tree.specs.Tree.{kids_of, pre_of}
use Rattle.node_pool.specs.declared.spot.Spot.{Spot}
use Rattle.node_tree.specs.Numbers.{Numbered, count_of, siblings, kids_at, pre_at, numbered}
use Rattle.node_pool.specs.Spots.{seen, all_seen}
use Rattle.node_match.specs.Sets.{Among}
use Rattle.node_match.specs.Relation.{nodes_of, held_at}

siblings_nodes : (at : ℕ) (ns : List Node) → nodes_of (siblings at ns) ≡ ns
siblings_nodes at [] = refl
siblings_nodes at (n ∷ ns) = ap (λ (ms : List Node). n ∷ ms) (siblings_nodes (at + count_of n) ns)

-- the nodes of the kids are the kids
pub kids_nodes : (h : Numbered) → nodes_of (kids_at h) ≡ kids_of h.node
kids_nodes h = siblings_nodes (h.at + 1) (kids_of h.node)

pub kids_many : (h : Numbered) → length (kids_at h) ≡ length (kids_of h.node)
kids_many h = sym (length-map (kids_at h) (λ (s : Numbered). s.node)) ∙ ap length (kids_nodes h)

pub among_nodes : (ss : List Numbered) (s : Numbered) → Among ss s → Among (nodes_of ss) s.node
among_nodes [] s a = absurd a
among_nodes (x ∷ ss) s (inl e) = inl (ap (λ (y : Numbered). y.node) e)
among_nodes (x ∷ ss) s (inr a) = inr (among_nodes ss s a)

nodes_drop : (k : ℕ) (ss : List Numbered) → nodes_of (drop k ss) ≡ drop k (nodes_of ss)
nodes_drop zero ss = refl
nodes_drop (suc k) [] = refl
nodes_drop (suc k) (s ∷ ss) = nodes_drop k ss

nodes_take : (k : ℕ) (ss : List Numbered) → nodes_of (take k ss) ≡ take k (nodes_of ss)
nodes_take zero ss = refl
nodes_take (suc k) [] = refl
nodes_take (suc k) (s ∷ ss) = ap (λ (ns : List Node). s.node ∷ ns) (nodes_take k ss)

pub rest_nodes : (h : Numbered) (k : ℕ) → nodes_of (drop k (kids_at h)) ≡ drop k (kids_of h.node)
rest_nodes h k = nodes_drop k (kids_at h) ∙ ap (drop k) (kids_nodes h)

pub run_nodes : (h : Numbered) (size at : ℕ) → nodes_of (take size (drop at (kids_at h))) ≡ take size (drop at (kids_of h.node))
run_nodes h size at = nodes_take size (drop at (kids_at h)) ∙ ap (take size) (rest_nodes h at)

-- a kid at a place
pub kid_is : (h : Numbered) (kids : List Spot) (at : ℕ) (s : Spot) → all_seen kids ≡ kids_at h → at < length kids → s ≡ get_or kids at s → seen s ≡ get_or (kids_at h) at (seen s)
kid_is h kids at s are lt is = ap seen is ∙ sym (get_or-map seen kids at s (seen s) lt) ∙ ap (λ (xs : List Numbered). get_or xs at (seen s)) are

pub as_many : (h : Numbered) (kids : List Spot) → all_seen kids ≡ kids_at h → length kids ≡ length (kids_at h)
as_many h kids are = sym (length-map kids seen) ∙ ap length are

numbered_many : (at : ℕ) (ns : List Node) → length (numbered at ns) ≡ length ns
numbered_many at [] = refl
numbered_many at (n ∷ ns) = ap suc (numbered_many (at + 1) ns)

pub pre_many : (s : Numbered) → length (pre_at s) ≡ count_of s.node
pre_many s = numbered_many s.at (pre_of s.node)

-- the node at a place, and those after it
pub one_further : (xs : List Numbered) (i : ℕ) (m : Numbered) → i < length xs → m ≡ get_or xs i m → drop i xs ≡ m ∷ drop (i + 1) xs
one_further xs i m lt is = drop-cons xs i m lt ∙ ap (λ (y : Numbered). y ∷ drop (suc i) xs) (sym is) ∙ ap (λ (j : ℕ). m ∷ drop j xs) (sym (add-one i))

-- ---- what names are known to hold

pub held_first : (k : Known) (ks : List Known) (at : ℕ) (t : Bool) → nat_eq k.at at ≡ t → held_at (k ∷ ks) at ≡ (if t then Some k.literal else held_at ks at)
held_first k ks at t e = ap (λ (b : Bool). if b then Some k.literal else held_at ks at) e
