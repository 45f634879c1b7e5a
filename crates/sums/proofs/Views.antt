-- The tree of a node.
use Rattle.std.proofs.Common.{◌≡◌, ℕ, List, [], ◌∷◌, ◌++◌, map, refl, ap, ◌+◌, ◌<◌, ◌≤◌, length, drop, get_or, add-one, drop-cons, arith}
use Rattle.std.specs.Prelude.{max, leb, ◌&&◌}
use Rattle.std.proofs.lemmas.List.{append-nil, drop_all}
use Rattle.sums.specs.Tree.{Tree, node, trees, step, view, views, depth, depths}
use Rattle.sums.specs.declared.node.Kind.TheVariants as k
use Rattle.sums.specs.Build.{parted, group}
use Rattle.sums.specs.declared.node.Node.{Node, Node-F, out-Node, roll-Node, fold-roll-Node, fold_out-Node}

pub view_roll : (x : Node-F Node) → view (roll-Node x) ≡ node x.kind x.text x.from x.to (trees (views x.kids.items))
view_roll = fold-roll-Node Tree step

pub view_out : (n : Node) → view n ≡ node (out-Node n).kind (out-Node n).text (out-Node n).from (out-Node n).to (trees (views (out-Node n).kids.items))
view_out = fold_out-Node Tree step

-- one more at the end
pub views_push : (ks : List Node) (k : Node) (ys : List Tree) → views (ks ++ (k ∷ [])) ++ ys ≡ views ks ++ (view k ∷ ys)
views_push [] k ys = refl
views_push (n ∷ ks) k ys = ap (λ ts. view n ∷ ts) (views_push ks k ys)

pub ruleset list_laws = (append-nil, views_push)

-- a list with a comma is a tuple
pub group_parted : (from to : ℕ) (ts : List Tree) → group from to (parted ts) ≡ node k.Tuple 0 from to (trees ts) ∷ []
group_parted from to [] = refl
group_parted from to (t ∷ ts) = refl

-- the depth of a list from one of its nodes on
pub depths_from : (ks : List Node) (i : ℕ) (d : Node) → i < length ks → depths (trees (views (drop i ks))) ≡ max (depth (view (get_or ks i d))) (depths (trees (views (drop (i + 1) ks))))
depths_from ks i d h = rw (add-one i, drop-cons ks i d) refl

pub depths_past : (ks : List Node) (i : ℕ) → length ks ≤ i → depths (trees (views (drop i ks))) ≡ 0
depths_past ks i h = rw (drop_all i ks h) refl

pub leb_max : (a b m : ℕ) → leb (max a b) m ≡ (leb a m && leb b m)
leb_max a b m = grind arith
