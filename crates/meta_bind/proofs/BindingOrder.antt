-- The order of bindings tells bindings apart.
use Rattle.std.proofs.Common.{◌≡◌, ℕ, List, [], ◌∷◌, refl, ap, ◌∙◌, subst}
use Rattle.std.specs.declared.cmp.Ordering.{Ordering}
use Rattle.std.specs.declared.cmp.Ordering.TheVariants.{Less, Equal, Greater}
use Rattle.std.specs.Ordering.{ordering_reverse, nat_cmp}
use Rattle.std.specs.Cmp.Lexicographic.{slice_cmp}
use Rattle.node_tree.specs.declared.node.Node.{Node}
use Rattle.node_tree.specs.declared.span.Span.{Span}
use Rattle.node_tree.specs.Order.{node_cmp}
use Rattle.node_tree.specs.Span.{span_cmp}
use Rattle.node_tree.proofs.Orders.{IsOrder, nat_order, lists_order, span_order, node_order, then_first, then_second, then_flip}
use Rattle.meta_bind.specs.declared.bound.Bound.{Bound}
use Rattle.meta_bind.specs.Bounds.{place_cmp, contents_cmp, binding_cmp}

place_flip : (b c : Bound) → place_cmp b c ≡ ordering_reverse (place_cmp c b)
place_flip b c = then_flip _ _ (slice_cmp nat_cmp c.name b.name) (span_cmp c.span b.span) ((lists_order nat_cmp nat_order).flip b.name c.name) (span_order.flip b.span c.span)

contents_flip : (b c : Bound) → contents_cmp b c ≡ ordering_reverse (contents_cmp c b)
contents_flip b c = (lists_order node_cmp node_order).flip b.nodes c.nodes

lists_flip : {X : Type 0} (R : X → X → Ordering) → ((x y : X) → R x y ≡ ordering_reverse (R y x)) → (xs ys : List X) → slice_cmp R xs ys ≡ ordering_reverse (slice_cmp R ys xs)
lists_flip R o [] [] = refl
lists_flip R o [] (y ∷ ys) = refl
lists_flip R o (x ∷ xs) [] = refl
lists_flip R o (x ∷ xs) (y ∷ ys) = then_flip (R x y) (slice_cmp R xs ys) (R y x) (slice_cmp R ys xs) (o x y) (lists_flip R o xs ys)

same_bounds : (bs cs : List Bound) → slice_cmp place_cmp bs cs ≡ Equal → slice_cmp contents_cmp bs cs ≡ Equal → bs ≡ cs
same_bounds [] [] e f = refl
same_bounds [] (c ∷ cs) e f = absurd cc
same_bounds (b ∷ bs) [] e f = absurd cc
same_bounds (b ∷ bs) (c ∷ cs) e f =
    let place = then_first (place_cmp b c) (slice_cmp place_cmp bs cs) e in
    let name = (lists_order nat_cmp nat_order).same b.name c.name (then_first (slice_cmp nat_cmp b.name c.name) (span_cmp b.span c.span) place) in
    let span = span_order.same b.span c.span (then_second (slice_cmp nat_cmp b.name c.name) (span_cmp b.span c.span) place) in
    let nodes = (lists_order node_cmp node_order).same b.nodes c.nodes (then_first (contents_cmp b c) (slice_cmp contents_cmp bs cs) f) in
    let f1 : List ℕ → Bound = λ x. record { name = x; span = b.span; nodes = b.nodes } in
    let f2 : Span → Bound = λ x. record { name = c.name; span = x; nodes = b.nodes } in
    let f3 : List Node → Bound = λ x. record { name = c.name; span = c.span; nodes = x } in
    ap (λ (x : Bound). x ∷ bs) (ap f1 name ∙ ap f2 span ∙ ap f3 nodes)
    ∙ ap (λ (xs : List Bound). c ∷ xs) (same_bounds bs cs (then_second (place_cmp b c) (slice_cmp place_cmp bs cs) e) (then_second (contents_cmp b c) (slice_cmp contents_cmp bs cs) f))

pub binding_order : IsOrder binding_cmp
binding_order = record {
  flip = λ b c. then_flip _ _ (slice_cmp place_cmp c b) (slice_cmp contents_cmp c b) (lists_flip place_cmp place_flip b c) (lists_flip contents_cmp contents_flip b c);
  same = λ b c e. same_bounds b c (then_first (slice_cmp place_cmp b c) (slice_cmp contents_cmp b c) e) (then_second (slice_cmp place_cmp b c) (slice_cmp contents_cmp b c) e);
}

pub tied : (b c : List Bound) → b ≡ c → binding_cmp b c ≡ Equal
tied b c e = let P : List Bound → Type 0 = λ x. binding_cmp b x ≡ Equal in subst P e (itself (binding_cmp b b) (binding_order.flip b b))
  where
    itself : (o : Ordering) → o ≡ ordering_reverse o → o ≡ Equal
    itself Less e = absurd cc
    itself Equal e = refl
    itself Greater e = absurd cc
