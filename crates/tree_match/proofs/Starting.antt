-- Nodes at which a pattern may not begin.
use Rattle.std.proofs.Common.{◌≡◌, ℕ, ◌+◌, ◌<◌, List, [], ◌∷◌, ◌++◌, take, get_or, refl, sym, ap, ◌∙◌, arith}
use Rattle.std.specs.Prelude.{map}
use Rattle.std.proofs.lemmas.List.{get_or-map, take_more, take_all}
use Rattle.node_tree.specs.declared.node.Node.{Node}
use Rattle.node_tree.specs.declared.known.Known.{Known}
use Rattle.node_tree.specs.Order.{kind_place}
use Rattle.node_tree.specs.Numbers.{Numbered, pre_at, count_of}
use Rattle.tree_match.specs.Members.{Member, MemberAt}
use Rattle.tree_match.specs.Starts.{kind_at, kinds_at, IsElsewhere}
use Rattle.node_match.proofs.Numbering.{pre_many}
use Rattle.node_match.proofs.Inversion.{no_literal}

pub kind_here : (root s : Numbered) (k : ℕ) → k < count_of root.node → s ≡ get_or (pre_at root) k s → get_or (kinds_at root) k 0 ≡ kind_at s
kind_here root s k lt is = get_or-map kind_at (pre_at root) k s 0 (omega (arith, pre_many root)) ∙ ap kind_at (sym is)

pub none_begins : (C : List Known) (p : Node) (root s : Numbered) (k kind : ℕ) → IsElsewhere p kind → kind ≡ get_or (kinds_at root) k 0 → k < count_of root.node → s ≡ get_or (pre_at root) k s → (m : Member) → MemberAt C p s m → ⊥
none_begins C p root s k kind elsewhere kind-is lt is m (may, range, x) =
    let same = (no_literal C p s _ elsewhere.plain elsewhere.fixed m.1).1 x in
    elsewhere.other (ap kind_place same.0 ∙ sym (kind_here root s k lt is) ∙ sym kind-is)

map_more : (f : Numbered → ℕ) (xs : List Numbered) (x : Numbered) → map f (xs ++ x ∷ []) ≡ map f xs ++ f x ∷ []
map_more f [] x = refl
map_more f (y ∷ ys) x = ap (λ (ns : List ℕ). f y ∷ ns) (map_more f ys x)

pub kinds_more : (root s : Numbered) (k : ℕ) (old new : List ℕ) → k < count_of root.node → s ≡ get_or (pre_at root) k s → old ≡ map kind_at (take k (pre_at root)) → new ≡ old ++ kind_at s ∷ [] → new ≡ map kind_at (take (k + 1) (pre_at root))
kinds_more root s k old new lt is inv e =
    e ∙ ap (λ (ns : List ℕ). ns ++ kind_at s ∷ []) inv ∙ sym (map_more kind_at (take k (pre_at root)) s)
    ∙ ap (map kind_at) (sym (take_more (pre_at root) k s (omega (arith, pre_many root)) ∙ ap (λ (x : Numbered). take k (pre_at root) ++ x ∷ []) (sym is)))

pub kinds_done : (root : Numbered) (k : ℕ) (all : List ℕ) → count_of root.node ≡ k → all ≡ map kind_at (take k (pre_at root)) → all ≡ kinds_at root
kinds_done root k all le inv = inv ∙ ap (map kind_at) (take_all k (pre_at root) (omega (arith, pre_many root)))
