-- Whether a tree has a literal, by its kids.
use Rattle.std.proofs.Common.{◌≡◌, List, [], ◌∷◌, ◌++◌, refl, sym, ap, ◌∙◌, Bool, true, false}
use Rattle.std.specs.Prelude.{◌||◌}
use Rattle.std.proofs.lemmas.List.Concat.{flat_map-cons}
use Rattle.node_tree.specs.declared.node.Node.{Node}
use Rattle.node_tree.specs.Tree.{kind_of, kids_of, pre_of, pre_all}
use Rattle.node_tree.proofs.Trees.{pre_is}
use Rattle.node_match.specs.Orders.{some_is}
use Rattle.literal_use.specs.Literals.{takes_names, has_literal}

abbrev takes : Node → Bool
takes n = takes_names (kind_of n)

some_append : (f : Node → Bool) (ns ms : List Node) → some_is f (ns ++ ms) ≡ (some_is f ns || some_is f ms)
some_append f [] ms = refl
some_append f (n ∷ ns) ms = by (f n) (some_append f ns ms)
  where
    by : (b : Bool) → some_is f (ns ++ ms) ≡ (some_is f ns || some_is f ms) → (b || some_is f (ns ++ ms)) ≡ ((b || some_is f ns) || some_is f ms)
    by true rest = refl
    by false rest = rest

some_tree : (ns : List Node) → some_is takes (pre_all ns) ≡ some_is has_literal ns
some_tree [] = refl
some_tree (n ∷ ns) =
    ap (some_is takes) (flat_map-cons pre_of n ns) ∙ some_append takes (pre_of n) (pre_all ns)
    ∙ ap (λ (b : Bool). has_literal n || b) (some_tree ns)

has_is : (p : Node) → has_literal p ≡ (takes p || some_is has_literal (kids_of p))
has_is p = ap (some_is takes) (pre_is p) ∙ ap (λ (b : Bool). takes p || b) (some_tree (kids_of p))

-- a node that is one
pub has_here : (p : Node) → takes_names (kind_of p) ≡ true → true ≡ has_literal p
has_here p e = sym (has_is p ∙ ap (λ (b : Bool). b || some_is has_literal (kids_of p)) e)

-- a node that isn't has what its kids have
pub has_below : (p : Node) (kids : List Node) (b : Bool) → takes_names (kind_of p) ≡ false → kids ≡ kids_of p → b ≡ some_is has_literal kids → b ≡ has_literal p
has_below p kids b e is f = f ∙ ap (some_is has_literal) is ∙ sym (has_is p ∙ ap (λ (t : Bool). t || some_is has_literal (kids_of p)) e)
