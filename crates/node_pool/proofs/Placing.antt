-- Nodes in preorder.
use Rattle.std.proofs.Common.{◌≡◌, ℕ, zero, suc, ◌+◌, ◌^◌, ◌<◌, ◌≤◌, List, [], ◌∷◌, ◌++◌, length, take, drop, get_or, refl, sym, ap, ◌∙◌, subst, arith, length-append, length-drop, append_assoc}
use Rattle.std.proofs.lemmas.List.{take_more, take_all, drop-drop, map-set, take-append-le, length-take, get_or-map, get_or_default, get_or-drop, get_or-take, length-map}
use Rattle.std.specs.Prelude.{map, set}
use Rattle.node_pool.specs.declared.pool.Entry.{Entry}
use Rattle.node_pool.specs.Entries.{seen, sized, nodes_in, IsPool}
use Rattle.std.proofs.lemmas.Grind.{flat_map-append}
use Rattle.std.proofs.lemmas.List.Concat.{flat_map-cons}
use Rattle.std.proofs.Math.Seq.{take-length}
use Rattle.node_tree.specs.declared.node.Node.{Node}
use Rattle.node_tree.specs.Tree.{pre_of, pre_all, kids_of}
use Rattle.node_tree.proofs.Trees.{pre_is}
use Rattle.node_pool.specs.Preorder.{IsPreorder, IsAt, AreAt, Stands}
use Rattle.node_tree.specs.Numbers.{count_of, Numbered, numbered, pre_at}
use Rattle.node_pool.proofs.Induction.{Each, by_kids}

-- ---- lists of nodes in preorder

reaches : (n : Node) (ns : List Node) → take (count_of n) (n ∷ ns) ≡ pre_of n → count_of n ≤ length (n ∷ ns)
reaches n ns e = omega (arith, length-take (count_of n) (n ∷ ns), ap length e)

pub both_preorders : (ms ns : List Node) → IsPreorder ms → IsPreorder ns → IsPreorder (ms ++ ns)
both_preorders [] ns one two = two
both_preorders (m ∷ ms) ns one two =
    (take-append-le (count_of m) (m ∷ ms) ns (reaches m ms one.0) ∙ one.0, both_preorders ms ns one.1 two)

take_whole : (ms ns : List Node) → ms ≡ ns → take (length ms) ns ≡ ms
take_whole ms ns e = ap (λ (xs : List Node). take (length ms) xs) (sym e) ∙ take-length ms

abbrev Ordered : Node → Type 0
Ordered n = IsPreorder (pre_of n)

trees_preorder : (ns : List Node) → Each Ordered ns → IsPreorder (pre_all ns)
trees_preorder [] each = tt
trees_preorder (n ∷ ns) each =
    let P : List Node → Type 0 = IsPreorder in
    subst P (sym (flat_map-cons pre_of n ns)) (both_preorders (pre_of n) (pre_all ns) each.0 (trees_preorder ns each.1))

pub tree_preorder : (n : Node) → IsPreorder (pre_of n)
tree_preorder = by_kids Ordered (λ n each.
    let P : List Node → Type 0 = IsPreorder in
    subst P (sym (pre_is n)) (take_whole (pre_of n) (n ∷ pre_all (kids_of n)) (pre_is n), trees_preorder (kids_of n) each))

-- what stands from a node on begins with its tree
pub below_at : (nodes : List Node) (at : ℕ) (n : Node) → IsPreorder nodes → at < length nodes → IsAt nodes at n → take (count_of n) (drop at nodes) ≡ pre_of n
below_at [] at n ordered lt is = absurd (omega arith)
below_at (m ∷ ms) zero n ordered lt is =
    let P : Node → Type 0 = λ x. take (count_of x) (m ∷ ms) ≡ pre_of x in
    subst P (sym is) ordered.0
below_at (m ∷ ms) (suc at) n ordered lt is = below_at ms at n ordered.1 (omega arith) is

-- ---- counting

pub count_is : (n : Node) → count_of n ≡ 1 + length (pre_all (kids_of n))
count_is n = omega (arith, ap length (pre_is n))

-- one tree more
pub trees_more : (ns : List Node) (i : ℕ) (n : Node) → i < length ns → IsAt ns i n → pre_all (take (i + 1) ns) ≡ pre_all (take i ns) ++ pre_of n
trees_more ns i n lt is =
    ap pre_all (take_more ns i n lt ∙ ap (λ (m : Node). take i ns ++ m ∷ []) (sym is)) ∙ flat_map-append pre_of (take i ns) (n ∷ []) ∙ ap (λ (xs : List Node). pre_all (take i ns) ++ xs) (flat_map-cons pre_of n [] ∙ nothing (pre_of n))
  where
    nothing : (xs : List Node) → xs ++ [] ≡ xs
    nothing [] = refl
    nothing (x ∷ xs) = ap (λ (ys : List Node). x ∷ ys) (nothing xs)

-- the trees so far, and one more, are among all
pub trees_fit : (ns : List Node) (i : ℕ) (n : Node) → i < length ns → IsAt ns i n → length (pre_all (take i ns)) + count_of n ≤ length (pre_all ns)
trees_fit [] i n lt is = absurd (omega arith)
trees_fit (m ∷ ms) zero n lt is =
    let e : n ≡ m = is in
    omega (arith, ap length (flat_map-cons pre_of m ms), length-append (pre_of m) (pre_all ms), ap count_of e)
trees_fit (m ∷ ms) (suc i) n lt is =
    omega (arith, trees_fit ms i n (omega arith) is, ap length (flat_map-cons pre_of m ms), ap length (flat_map-cons pre_of m (take i ms)), length-append (pre_of m) (pre_all ms), length-append (pre_of m) (pre_all (take i ms)))

-- ---- entries

-- the size that is kept is that of the node
pub size_at : (es : List Entry) (i : ℕ) (e : Entry) → map seen es ≡ map sized (nodes_in es) → i < length es → e ≡ get_or es i e → e.size ≡ count_of e.node.now
size_at [] i e sizes lt is = absurd (omega arith)
size_at (x ∷ xs) zero e sizes lt is =
    let P : Entry → Type 0 = λ y. y.size ≡ count_of y.node.now in
    let h : seen x ≡ sized x.node.now = cc in
    subst P (sym is) (ap (λ (y : Node × ℕ). y.1) h)
size_at (x ∷ xs) (suc i) e sizes lt is = let f : map seen xs ≡ map sized (nodes_in xs) = cc in size_at xs i e f (omega arith) is

-- the node of an entry is the node of that number
pub node_at : (es : List Entry) (nodes : List Node) (i : ℕ) (e : Entry) → nodes ≡ nodes_in es → i < length es → e ≡ get_or es i e → IsAt nodes i e.node.now
node_at es nodes i e view lt is =
    let f : Entry → Node = λ x. x.node.now in
    ap f is ∙ sym (get_or-map f es i e e.node.now lt) ∙ ap (λ (xs : List Node). get_or xs i e.node.now) (sym view)

-- there is one node of a number
pub one_at : (nodes : List Node) (i : ℕ) (n m : Node) → i < length nodes → IsAt nodes i n → IsAt nodes i m → n ≡ m
one_at nodes i n m lt n-is m-is = n-is ∙ get_or_default nodes i n m lt ∙ sym m-is

-- the tree of a node doesn't go past the end
pub fits_at : (nodes : List Node) (at : ℕ) (n : Node) → IsPreorder nodes → at < length nodes → IsAt nodes at n → at + count_of n ≤ length nodes
fits_at nodes at n ordered lt is =
    omega (arith, ap length (below_at nodes at n ordered lt is), length-take (count_of n) (drop at nodes), length-drop at nodes)

-- what is known of an entry
pub record Known (es : List Entry) (nodes : List Node) (at : ℕ) (e : Entry) (n : Node) : Type 0 where
  pub size : e.size ≡ count_of n
  pub below : take e.size (drop at nodes) ≡ pre_of n

pub known : (es : List Entry) (nodes : List Node) (room memory at : ℕ) (e : Entry) (n : Node) → IsPool es room memory → nodes_in es ≡ nodes → at < length nodes → e ≡ get_or es at e → IsAt nodes at n → Known es nodes at e n
known es nodes room memory at e n pool view lt e-is n-is =
    let lt' : at < length es = omega (arith, ap length view, length-map es (λ (x : Entry). x.node.now)) in
    let same : e.node.now ≡ n = one_at nodes at e.node.now n lt (node_at es nodes at e (sym view) lt' e-is) n-is in
    let size : e.size ≡ count_of n = size_at es at e pool.sizes lt' e-is ∙ ap count_of same in
    let P : List Node → Type 0 = IsPreorder in
    record { size = size; below = ap (λ (k : ℕ). take k (drop at nodes)) size ∙ below_at nodes at n (subst P view pool.preorder) lt n-is }

pub within : (es : List Entry) (nodes : List Node) (room memory at : ℕ) (e : Entry) → IsPool es room memory → nodes_in es ≡ nodes → at < length nodes → e ≡ get_or es at e → at + e.size < 2 ^ 32
within es nodes room memory at e pool view lt e-is =
    let lt' : at < length es = omega (arith, ap length view, length-map es (λ (x : Entry). x.node.now)) in
    let n = e.node.now in
    let n-is : IsAt nodes at n = node_at es nodes at e (sym view) lt' e-is in
    let P : List Node → Type 0 = IsPreorder in
    omega (arith, size_at es at e pool.sizes lt' e-is, fits_at nodes at n (subst P view pool.preorder) lt n-is, ap length view, length-map es (λ (x : Entry). x.node.now), pool.fits, pool.small)

pub here : (es : List Entry) (nodes : List Node) (at : ℕ) (e : Entry) → nodes_in es ≡ nodes → at < length nodes → e ≡ get_or es at e → IsAt nodes at e.node.now
here es nodes at e view lt e-is =
    let lt' : at < length es = omega (arith, ap length view, length-map es (λ (x : Entry). x.node.now)) in
    node_at es nodes at e (sym view) lt' e-is

pub below_here : (es : List Entry) (nodes : List Node) (room memory at : ℕ) (e : Entry) → IsPool es room memory → nodes_in es ≡ nodes → at < length nodes → e ≡ get_or es at e → take (count_of e.node.now) (drop at nodes) ≡ pre_of e.node.now
below_here es nodes room memory at e pool view lt e-is =
    let P : List Node → Type 0 = IsPreorder in
    below_at nodes at e.node.now (subst P view pool.preorder) lt (here es nodes at e view lt e-is)

-- ---- kids

-- a list that begins with these and others
begins : (fs bs xs : List Node) → take (length (fs ++ bs)) xs ≡ fs ++ bs → take (length bs) (drop (length fs) xs) ≡ bs
begins [] bs xs e = e
begins (f ∷ fs) bs [] e = absurd cc
begins (f ∷ fs) bs (x ∷ xs) e = let g : take (length (fs ++ bs)) xs ≡ fs ++ bs = cc in begins fs bs xs g

fronts : (fs bs xs : List Node) → take (length (fs ++ bs)) xs ≡ fs ++ bs → take (length fs) xs ≡ fs
fronts [] bs xs e = refl
fronts (f ∷ fs) bs [] e = absurd cc
fronts (f ∷ fs) bs (x ∷ xs) e =
    let g : take (length (fs ++ bs)) xs ≡ fs ++ bs = cc in
    let h : x ≡ f = cc in
    ap (λ (y : Node). y ∷ take (length fs) xs) h ∙ ap (λ (ys : List Node). f ∷ ys) (fronts fs bs xs g)

first_at : (nodes : List Node) (at : ℕ) (n : Node) (ns : List Node) → take (length (n ∷ ns)) (drop at nodes) ≡ n ∷ ns → (at < length nodes) × IsAt nodes at n
first_at [] zero n ns e = absurd cc
first_at [] (suc at) n ns e = absurd cc
first_at (m ∷ ms) zero n ns e = let f : n ≡ m = cc in (omega arith, f)
first_at (m ∷ ms) (suc at) n ns e = let r = first_at ms at n ns e in (omega (arith, r.0), r.1)

pub record FirstKid (nodes : List Node) (at : ℕ) (n : Node) (ns : List Node) : Type 0 where
  pub lt : at < length nodes
  pub is : IsAt nodes at n
  pub rest : AreAt nodes (at + count_of n) ns
  pub below : take (count_of n) (drop at nodes) ≡ pre_of n

pub first_kid : (nodes : List Node) (at : ℕ) (ks : List Node) (n : Node) (ns : List Node) → AreAt nodes at ks → ks ≡ n ∷ ns → FirstKid nodes at n ns
first_kid nodes at ks n ns are e =
    let P : List Node → Type 0 = λ xs. take (length xs) (drop at nodes) ≡ xs in
    let whole = subst P (ap pre_all e ∙ flat_map-cons pre_of n ns) are in
    let opened = subst P (ap (λ (xs : List Node). xs ++ pre_all ns) (pre_is n)) whole in
    let first = first_at nodes at n (pre_all (kids_of n) ++ pre_all ns) opened in
    let Q : List Node → Type 0 = λ xs. take (length (pre_all ns)) xs ≡ pre_all ns in
    record { lt = first.0; is = first.1; rest = subst Q (drop-drop (count_of n) at nodes) (begins (pre_of n) (pre_all ns) (drop at nodes) whole); below = fronts (pre_of n) (pre_all ns) (drop at nodes) whole }

pub kids_here : (nodes : List Node) (at : ℕ) (n : Node) → at < length nodes → IsAt nodes at n → take (count_of n) (drop at nodes) ≡ pre_of n → AreAt nodes (at + 1) (kids_of n)
kids_here nodes at n lt is below =
    let P : List Node → Type 0 = λ xs. take (length xs) (drop at nodes) ≡ xs in
    let Q : List Node → Type 0 = λ xs. take (length (pre_all (kids_of n))) xs ≡ pre_all (kids_of n) in
    subst Q (drop-drop 1 at nodes) (begins (n ∷ []) (pre_all (kids_of n)) (drop at nodes) (subst P (pre_is n) below))

-- ---- placing

pub seen_nodes : (es : List Entry) → map (λ (x : Node × ℕ). x.0) (map seen es) ≡ nodes_in es
seen_nodes [] = refl
seen_nodes (e ∷ es) = ap (λ (ns : List Node). e.node.now ∷ ns) (seen_nodes es)

pub sized_nodes : (ns : List Node) → map (λ (x : Node × ℕ). x.0) (map sized ns) ≡ ns
sized_nodes [] = refl
sized_nodes (n ∷ ns) = ap (λ (ms : List Node). n ∷ ms) (sized_nodes ns)

map_both : {X Y : Type 0} (f : X → Y) (xs ys : List X) → map f (xs ++ ys) ≡ map f xs ++ map f ys
map_both f [] ys = refl
map_both f (x ∷ xs) ys = ap (λ (zs : List _). f x ∷ zs) (map_both f xs ys)

pub nodes_more : (old new : List Entry) (ns : List Node) → map seen new ≡ map seen old ++ map sized ns → nodes_in new ≡ nodes_in old ++ ns
nodes_more old new ns e =
    let first = λ (x : Node × ℕ). x.0 in
    sym (seen_nodes new) ∙ ap (map first) e ∙ map_both first (map seen old) (map sized ns)
    ∙ ap (λ (xs : List Node). xs ++ map first (map sized ns)) (seen_nodes old) ∙ ap (λ (xs : List Node). nodes_in old ++ xs) (sized_nodes ns)

pub pool_more : (old new : List Entry) (tree : Node) (room before after : ℕ) → IsPool old room before → map seen new ≡ map seen old ++ map sized (pre_of tree) → length old + count_of tree ≤ room → before ≤ after → IsPool new room after
pool_more old new tree room before after pool e fits memory =
    let nodes = nodes_more old new (pre_of tree) e in
    let P : List Node → Type 0 = IsPreorder in
    record {
      sizes = e ∙ ap (λ (xs : List (Node × ℕ)). xs ++ map sized (pre_of tree)) pool.sizes ∙ sym (map_both sized (nodes_in old) (pre_of tree)) ∙ ap (map sized) (sym nodes);
      preorder = subst P (sym nodes) (both_preorders (nodes_in old) (pre_of tree) pool.preorder (tree_preorder tree));
      fits = omega (arith, fits, ap length e, length-map new seen, length-map old seen, length-append (map seen old) (map sized (pre_of tree)), length-map (pre_of tree) sized);
      reserved = omega (arith, pool.reserved, memory);
      small = pool.small;
    }

-- ---- one node of a tree, kid by kid

-- what stands there once so many kids are placed
abbrev pub HasPlaced : List Entry → List Entry → Node → List Node → ℕ → Type 0
HasPlaced old new tree ks i = map seen new ≡ map seen old ++ (tree, 0) ∷ map sized (pre_all (take i ks))

pub begun : (old new : List Entry) (e : Entry) (tree : Node) (ks : List Node) → new ≡ old ++ e ∷ [] → seen e ≡ (tree, 0) → HasPlaced old new tree ks 0
begun old new e tree ks is seen-is = ap (map seen) is ∙ map_both seen old (e ∷ []) ∙ ap (λ (x : Node × ℕ). map seen old ++ x ∷ []) seen-is

pub placed_more : (old mid new : List Entry) (tree kid : Node) (ks : List Node) (i : ℕ) → HasPlaced old mid tree ks i → map seen new ≡ map seen mid ++ map sized (pre_of kid) → i < length ks → IsAt ks i kid → HasPlaced old new tree ks (i + 1)
placed_more old mid new tree kid ks i has e lt is =
    let P = pre_all (take i ks) in
    e ∙ ap (λ (xs : List (Node × ℕ)). xs ++ map sized (pre_of kid)) has ∙ append_assoc (map seen old) ((tree, 0) ∷ map sized P) (map sized (pre_of kid))
    ∙ ap (λ (xs : List (Node × ℕ)). map seen old ++ (tree, 0) ∷ xs) (sym (map_both sized P (pre_of kid)) ∙ ap (map sized) (sym (trees_more ks i kid lt is)))

length_placed : (old new : List Entry) (tree : Node) (ks : List Node) (i : ℕ) → HasPlaced old new tree ks i → length new ≡ length old + (1 + length (pre_all (take i ks)))
length_placed old new tree ks i has =
    omega (arith, ap length has, length-map new seen, length-map old seen, length-append (map seen old) ((tree, 0) ∷ map sized (pre_all (take i ks))), length-map (pre_all (take i ks)) sized)

pub record Fits (old new : List Entry) (tree kid : Node) (so-far : ℕ) : Type 0 where
  pub room : length new + count_of kid ≤ length old + count_of tree
  pub part : count_of kid < count_of tree
  pub size : so-far + count_of kid ≤ count_of tree

pub fits : (old new : List Entry) (tree kid : Node) (ks : List Node) (i size : ℕ) → HasPlaced old new tree ks i → ks ≡ kids_of tree → i < length ks → IsAt ks i kid → size ≡ 1 + length (pre_all (take i ks)) → Fits old new tree kid size
fits old new tree kid ks i size has e lt is size-is =
    let all : count_of tree ≡ 1 + length (pre_all ks) = count_is tree ∙ ap (λ (xs : List Node). 1 + length (pre_all xs)) (sym e) in
    let more = trees_fit ks i kid lt is in
    let long = length_placed old new tree ks i has in
    record { room = omega (arith, all, more, long); part = omega (arith, all, more); size = omega (arith, all, more, size-is) }

set_seam : {X : Type 0} (xs : List X) (y z : X) (ys : List X) (i : ℕ) → i ≡ length xs → set (xs ++ y ∷ ys) i z ≡ xs ++ z ∷ ys
set_seam [] y z ys zero e = refl
set_seam [] y z ys (suc i) e = absurd (omega arith)
set_seam (x ∷ xs) y z ys zero e = absurd (omega arith)
set_seam (x ∷ xs) y z ys (suc i) e = ap (λ (zs : List _). x ∷ zs) (set_seam xs y z ys i (omega arith))

pub all_placed : (old mid new : List Entry) (e : Entry) (tree : Node) (ks : List Node) (i at size : ℕ) → HasPlaced old mid tree ks i → ks ≡ kids_of tree → length ks ≤ i → at ≡ length old → size ≡ 1 + length (pre_all (take i ks))
    → new ≡ set mid at e → seen e ≡ (tree, size) → map seen new ≡ map seen old ++ map sized (pre_of tree)
all_placed old mid new e tree ks i at size has kids le at-is size-is new-is seen-is =
    let all : pre_all (take i ks) ≡ pre_all (kids_of tree) = ap pre_all (take_all i ks le ∙ kids) in
    let count : size ≡ count_of tree = size-is ∙ ap (λ (xs : List Node). 1 + length xs) all ∙ sym (count_is tree) in
    ap (map seen) new-is ∙ map-set seen mid at e ∙ ap (λ (xs : List (Node × ℕ)). set xs at (seen e)) has
    ∙ set_seam (map seen old) (tree, 0) (seen e) (map sized (pre_all (take i ks))) at (at-is ∙ sym (length-map old seen))
    ∙ ap (λ (x : Node × ℕ). map seen old ++ x ∷ map sized (pre_all (take i ks))) (seen-is ∙ ap (λ (k : ℕ). (tree, k)) count)
    ∙ ap (λ (ns : List Node). map seen old ++ sized tree ∷ map sized ns) all
    ∙ ap (λ (ns : List Node). map seen old ++ map sized ns) (sym (pre_is tree))

pub count_done : (tree : Node) (ks : List Node) (i size : ℕ) → ks ≡ kids_of tree → length ks ≤ i → size ≡ 1 + length (pre_all (take i ks)) → size ≡ count_of tree
count_done tree ks i size kids le size-is = size-is ∙ ap (λ (xs : List Node). 1 + length (pre_all xs)) (take_all i ks le ∙ kids) ∙ sym (count_is tree)

-- ---- numbers

numbered_at : (at : ℕ) (ns : List Node) (k : ℕ) (d : Numbered) → k < length ns → get_or (numbered at ns) k d ≡ record { at = at + k; node = get_or ns k d.node }
numbered_at at [] k d lt = absurd (omega arith)
numbered_at at (n ∷ ns) zero d lt = let e : at ≡ at + 0 = omega arith in let f : ℕ → Numbered = λ i. record { at = i; node = n } in ap f e
numbered_at at (n ∷ ns) (suc k) d lt =
    let e : at + 1 + k ≡ at + suc k = omega arith in
    let f : ℕ → Numbered = λ i. record { at = i; node = get_or ns k d.node } in
    numbered_at (at + 1) ns k d (omega arith) ∙ ap f e

pub numbered_below : (nodes : List Node) (at k : ℕ) (n m : Node) (s : Numbered) → Stands nodes at n → k < count_of n → IsAt nodes (at + k) m → s ≡ record { at = at + k; node = m } → s ≡ get_or (pre_at (record { at = at; node = n })) k s
numbered_below nodes at k n m s stands lt is s-is =
    let f : Node → Numbered = λ x. record { at = at + k; node = x } in
    let here : m ≡ get_or (pre_of n) k m = is ∙ sym (get_or-drop at nodes k m) ∙ sym (get_or-take (count_of n) (drop at nodes) k m lt) ∙ ap (λ (xs : List Node). get_or xs k m) stands.below in
    let P : Numbered → Type 0 = λ d. d ≡ get_or (pre_at (record { at = at; node = n })) k d in
    subst P (sym s-is) (ap f here ∙ sym (numbered_at at (pre_of n) k (record { at = at + k; node = m }) lt))

pub stands_within : (nodes : List Node) (at k : ℕ) (n : Node) → Stands nodes at n → k < count_of n → at + k < length nodes
stands_within nodes at k n stands lt = let lt' = stands.lt in omega (arith, ap length stands.below, length-take (count_of n) (drop at nodes), length-drop at nodes)

pub kid_stands : (nodes : List Node) (at : ℕ) (ks : List Node) (n : Node) (ns : List Node) → AreAt nodes at ks → ks ≡ n ∷ ns → length nodes < 2 ^ 32 → Stands nodes at n
kid_stands nodes at ks n ns are e small = let f = first_kid nodes at ks n ns are e in record { lt = f.lt; is = f.is; below = f.below; small = small }
