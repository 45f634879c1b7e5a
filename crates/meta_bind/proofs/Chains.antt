-- The orders of nodes and bindings chain: what is below an item that is below a third is below the third.
use Rattle.std.proofs.Common.{◌≡◌, List, [], ◌∷◌, map, refl, sym, ap, ◌∙◌, subst}
use Rattle.std.specs.declared.cmp.Ordering.{Ordering}
use Rattle.std.specs.declared.cmp.Ordering.TheVariants.{Less, Equal, Greater}
use Rattle.std.specs.Ordering.{nat_cmp, ordering_then}
use Rattle.std.specs.Cmp.Lexicographic.{slice_cmp}
use Rattle.std.proofs.lemmas.Cmp.{nat_cmp_total}
use Rattle.node_tree.specs.declared.node.Node.{Node, Node-F, out-Node, ind-Node}
use Rattle.node_tree.specs.Span.{span_cmp}
use Rattle.node_tree.specs.Order.{node_cmp, kind_place}
use Rattle.node_tree.proofs.Orders.{nat_order, node_cmp_is, node_cmp_rolled, layer_cmp}
use Rattle.meta_bind.specs.Bounds.{name_cmp, place_cmp, contents_cmp, binding_cmp}

-- how the first of three items compares with the third, by how each compares with the next; nothing is said where one falls
abbrev pub Follows : Ordering → Ordering → Ordering → Type 0
Follows Less Less o = o ≡ Less
Follows Less Equal o = o ≡ Less
Follows Less Greater o = Unit {0}
Follows Equal next o = o ≡ next
Follows Greater next o = Unit {0}

abbrev pub Chains : {X : Type 0} → (X → X → Ordering) → Type 0
Chains {X} R = (x y z : X) → Follows (R x y) (R y z) (R x z)

less_any : (o : Ordering) → Follows Less o Less
less_any Less = refl
less_any Equal = refl
less_any Greater = tt

any_less : (o : Ordering) → Follows o Less Less
any_less Less = refl
any_less Equal = refl
any_less Greater = tt

any_greater : (o : Ordering) → Follows o Greater Greater
any_greater Less = tt
any_greater Equal = refl
any_greater Greater = tt

pub then_follows : (a b c a' b' c' : Ordering) → Follows a b c → Follows a' b' c' → Follows (ordering_then a a') (ordering_then b b') (ordering_then c c')
then_follows Less Less c a' b' c' e f = let P : Ordering → Type 0 = λ o. Follows Less Less (ordering_then o c') in subst P (sym e) refl
then_follows Less Equal c a' b' c' e f = let P : Ordering → Type 0 = λ o. Follows Less b' (ordering_then o c') in subst P (sym e) (less_any b')
then_follows Less Greater c a' b' c' e f = tt
then_follows Equal Less c a' b' c' e f = let P : Ordering → Type 0 = λ o. Follows a' Less (ordering_then o c') in subst P (sym e) (any_less a')
then_follows Equal Equal c a' b' c' e f = let P : Ordering → Type 0 = λ o. Follows a' b' (ordering_then o c') in subst P (sym e) f
then_follows Equal Greater c a' b' c' e f = let P : Ordering → Type 0 = λ o. Follows a' Greater (ordering_then o c') in subst P (sym e) (any_greater a')
then_follows Greater b c a' b' c' e f = tt

pub nat_chains : Chains nat_cmp
nat_chains x y z = at (nat_cmp x y) (nat_cmp y z) refl refl
  where
    at : (a b : Ordering) → nat_cmp x y ≡ a → nat_cmp y z ≡ b → Follows a b (nat_cmp x z)
    at Less Less e f = nat_cmp_total.trans x y z e f
    at Less Equal e f = ap (λ k. nat_cmp x k) (sym (nat_order.same y z f)) ∙ e
    at Less Greater e f = tt
    at Equal b e f = nat_cmp_total.congr x y z e ∙ f
    at Greater b e f = tt

pub lists_chain : {X : Type 0} (R : X → X → Ordering) → Chains R → Chains (slice_cmp R)
lists_chain R o [] [] zs = refl
lists_chain R o [] (y ∷ ys) [] = tt
lists_chain R o [] (y ∷ ys) (z ∷ zs) = less_any (slice_cmp R (y ∷ ys) (z ∷ zs))
lists_chain R o (x ∷ xs) [] zs = tt
lists_chain R o (x ∷ xs) (y ∷ ys) [] = any_greater (slice_cmp R (x ∷ xs) (y ∷ ys))
lists_chain R o (x ∷ xs) (y ∷ ys) (z ∷ zs) = then_follows (R x y) (R y z) (R x z) (slice_cmp R xs ys) (slice_cmp R ys zs) (slice_cmp R xs zs) (o x y z) (lists_chain R o xs ys zs)

pub span_chains : Chains span_cmp
span_chains a b c = then_follows _ _ _ (nat_cmp a.to b.to) (nat_cmp b.to c.to) (nat_cmp a.to c.to) (nat_chains a.from b.from c.from) (nat_chains a.to b.to c.to)

-- ---- nodes

abbrev ChainsFrom : Node → Type 0
ChainsFrom n = (m k : Node) → Follows (node_cmp n m) (node_cmp m k) (node_cmp n k)

-- the same for kids that chain
abbrev KidsChain : List Node → Type 0
KidsChain ns = (ms ks : List Node) → Follows (slice_cmp node_cmp ns ms) (slice_cmp node_cmp ms ks) (slice_cmp node_cmp ns ks)

kids_chain : (ns : List ((n : Node) × ChainsFrom n)) → KidsChain (map (λ e. e.0) ns)
kids_chain [] [] ks = refl
kids_chain [] (m ∷ ms) [] = tt
kids_chain [] (m ∷ ms) (k ∷ ks) = less_any (slice_cmp node_cmp (m ∷ ms) (k ∷ ks))
kids_chain (n ∷ ns) [] ks = tt
kids_chain (n ∷ ns) (m ∷ ms) [] = any_greater (slice_cmp node_cmp (n.0 ∷ map (λ e. e.0) ns) (m ∷ ms))
kids_chain (n ∷ ns) (m ∷ ms) (k ∷ ks) =
    let rest = map (λ e. e.0) ns in
    then_follows (node_cmp n.0 m) (node_cmp m k) (node_cmp n.0 k) (slice_cmp node_cmp rest ms) (slice_cmp node_cmp ms ks) (slice_cmp node_cmp rest ks) (n.1 m k) (kids_chain ns ms ks)

layers_chain : (x y z : Node-F Node) → KidsChain x.kids → Follows (layer_cmp x y) (layer_cmp y z) (layer_cmp x z)
layers_chain x y z kids =
    let texts = lists_chain nat_cmp nat_chains x.text y.text z.text in
    then_follows (nat_cmp (kind_place x.kind) (kind_place y.kind)) (nat_cmp (kind_place y.kind) (kind_place z.kind)) (nat_cmp (kind_place x.kind) (kind_place z.kind)) _ _ _
    (nat_chains (kind_place x.kind) (kind_place y.kind) (kind_place z.kind))
    (then_follows (slice_cmp nat_cmp x.text y.text) (slice_cmp nat_cmp y.text z.text) (slice_cmp nat_cmp x.text z.text) _ _ _ texts
    (then_follows (slice_cmp node_cmp x.kids y.kids) (slice_cmp node_cmp y.kids z.kids) (slice_cmp node_cmp x.kids z.kids) _ _ _ (kids y.kids z.kids) (span_chains x.span y.span z.span)))

moved : (a b c a' b' c' : Ordering) → a ≡ a' → b ≡ b' → c ≡ c' → Follows a' b' c' → Follows a b c
moved a b c a' b' c' e f g x =
    let P : Ordering → Type 0 = λ o. Follows o b c in
    let Q : Ordering → Type 0 = λ o. Follows a' o c in
    let R : Ordering → Type 0 = λ o. Follows a' b' o in
    subst P (sym e) (subst Q (sym f) (subst R (sym g) x))

pub node_chains : Chains node_cmp
node_chains = ind-Node ChainsFrom (λ x y is m k.
    let P : Node-F Node → Type 0 = λ z. KidsChain z.kids in
    moved _ _ _ _ _ _ (node_cmp_rolled x m) (node_cmp_is m k) (node_cmp_rolled x k) (layers_chain x (out-Node m) (out-Node k) (subst P is (kids_chain y.kids))))

-- ---- bindings

place_chains : Chains place_cmp
place_chains b c d =
    then_follows (name_cmp b.name c.name) (name_cmp c.name d.name) (name_cmp b.name d.name) (span_cmp b.span c.span) (span_cmp c.span d.span) (span_cmp b.span d.span)
    (lists_chain nat_cmp nat_chains b.name c.name d.name) (span_chains b.span c.span d.span)

contents_chain : Chains contents_cmp
contents_chain b c d = lists_chain node_cmp node_chains b.nodes c.nodes d.nodes

pub binding_chains : Chains binding_cmp
binding_chains b c d =
    then_follows (slice_cmp place_cmp b c) (slice_cmp place_cmp c d) (slice_cmp place_cmp b d) (slice_cmp contents_cmp b c) (slice_cmp contents_cmp c d) (slice_cmp contents_cmp b d)
    (lists_chain place_cmp place_chains b c d) (lists_chain contents_cmp contents_chain b c d)
