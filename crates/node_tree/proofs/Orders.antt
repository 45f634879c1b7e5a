-- The order of nodes tells nodes apart.
use Rattle.std.proofs.Common.{◌≡◌, ℕ, suc, ◌+◌, ◌<◌, ◌≤◌, List, [], ◌∷◌, length, drop, get_or, map, refl, sym, ap, ◌∙◌, subst, arith, add-one, length-drop}
use Rattle.std.specs.declared.cmp.Ordering.{Ordering}
use Rattle.std.specs.declared.cmp.Ordering.TheVariants.{Less, Equal, Greater}
use Rattle.std.specs.Ordering.{nat_cmp, ordering_then, ordering_reverse}
use Rattle.std.specs.Cmp.Lexicographic.{slice_cmp}
use Rattle.std.proofs.lemmas.Cmp.{nat_cmp_total, ranked}
use Rattle.std.proofs.lemmas.List.{drop_all}
use Rattle.std.proofs.Math.Seq.{drop-cons}
use denote.Enum.Bare.{tag_one}
use Rattle.node_tree.specs.declared.node.Node.{Node, Node-F, out-Node, roll-Node, out-roll-Node, roll-out-Node, fold_out-Node, ind-Node}
use Rattle.node_tree.specs.declared.kind.Kind.{Kind}
use Rattle.node_tree.specs.contracts.kind.Kind.{the_type}
use Rattle.node_tree.specs.declared.span.Span.{Span}
use Rattle.node_tree.specs.Tree.{kind_of, text_of, kids_of, content_of, content_is, content_kind, no_span}
use Rattle.node_tree.specs.Order.{node_cmp, node_step, kind_place}
use Rattle.node_tree.specs.Span.{span_cmp}

-- an order that tells its items apart, and says the same from both sides
pub record IsOrder {X : Type 0} (R : X → X → Ordering) : Type 0 where
  pub flip : (x y : X) → R x y ≡ ordering_reverse (R y x)
  pub same : (x y : X) → R x y ≡ Equal → x ≡ y

pub then_first : (a b : Ordering) → ordering_then a b ≡ Equal → a ≡ Equal
then_first Less b e = e
then_first Equal b e = refl
then_first Greater b e = e

pub then_second : (a b : Ordering) → ordering_then a b ≡ Equal → b ≡ Equal
then_second Less b e = absurd cc
then_second Equal b e = e
then_second Greater b e = absurd cc

pub then_flip : (a b a' b' : Ordering) → a ≡ ordering_reverse a' → b ≡ ordering_reverse b' → ordering_then a b ≡ ordering_reverse (ordering_then a' b')
then_flip a b Less b' e f = ap (λ x. ordering_then x b) e
then_flip a b Equal b' e f = ap (λ x. ordering_then x b) e ∙ f
then_flip a b Greater b' e f = ap (λ x. ordering_then x b) e

pub nat_order : IsOrder nat_cmp
nat_order = record { flip = nat_cmp_total.antisymm; same = λ x y e. ranked x y Equal (sym e) }

module _ {X : Type 0} (R : X → X → Ordering) where
  pub lists_order : IsOrder R → IsOrder (slice_cmp R)
  lists_order o = record { flip = flips; same = sames }
    where
      flips : (xs ys : List X) → slice_cmp R xs ys ≡ ordering_reverse (slice_cmp R ys xs)
      flips [] [] = refl
      flips [] (y ∷ ys) = refl
      flips (x ∷ xs) [] = refl
      flips (x ∷ xs) (y ∷ ys) = then_flip (R x y) (slice_cmp R xs ys) (R y x) (slice_cmp R ys xs) (o.flip x y) (flips xs ys)

      sames : (xs ys : List X) → slice_cmp R xs ys ≡ Equal → xs ≡ ys
      sames [] [] e = refl
      sames [] (y ∷ ys) e = absurd cc
      sames (x ∷ xs) [] e = absurd cc
      sames (x ∷ xs) (y ∷ ys) e =
          ap (λ z. z ∷ xs) (o.same x y (then_first (R x y) (slice_cmp R xs ys) e)) ∙ ap (λ zs. y ∷ zs) (sames xs ys (then_second (R x y) (slice_cmp R xs ys) e))

pub span_order : IsOrder span_cmp
span_order = record {
  flip = λ a b. then_flip _ _ (nat_cmp b.from a.from) (nat_cmp b.to a.to) (nat_order.flip a.from b.from) (nat_order.flip a.to b.to);
  same = λ a b e.
      let f : ℕ → Span = λ x. record { from = x; to = a.to } in
      let g : ℕ → Span = λ x. record { from = b.from; to = x } in
      ap f (nat_order.same a.from b.from (then_first _ _ e)) ∙ ap g (nat_order.same a.to b.to (then_second (nat_cmp a.from b.from) _ e));
}

mapped : (ns ms : List Node) → slice_cmp (λ (f : Node → Ordering) (k : Node). f k) (map node_cmp ns) ms ≡ slice_cmp node_cmp ns ms
mapped [] [] = refl
mapped [] (m ∷ ms) = refl
mapped (n ∷ ns) [] = refl
mapped (n ∷ ns) (m ∷ ms) = ap (λ o. ordering_then (node_cmp n m) o) (mapped ns ms)

-- what stands below a node in the order, after its kind and text
abbrev pub layer_cmp : Node-F Node → Node-F Node → Ordering
layer_cmp x y =
    ordering_then (nat_cmp (kind_place x.kind) (kind_place y.kind)) (ordering_then (slice_cmp nat_cmp x.text y.text)
    (ordering_then (slice_cmp node_cmp x.kids y.kids) (span_cmp x.span y.span)))

pub node_cmp_is : (n m : Node) → node_cmp n m ≡ layer_cmp (out-Node n) (out-Node m)
unfolding node_cmp
node_cmp_is n m =
    let x = out-Node n in
    let y = out-Node m in
    ap (λ (f : Node → Ordering). f m) (fold_out-Node (Node → Ordering) node_step n)
    ∙ ap (λ o. ordering_then (nat_cmp (kind_place x.kind) (kind_place y.kind)) (ordering_then (slice_cmp nat_cmp x.text y.text) (ordering_then o (span_cmp x.span y.span)))) (mapped x.kids y.kids)

pub node_cmp_rolled : (x : Node-F Node) (m : Node) → node_cmp (roll-Node x) m ≡ layer_cmp x (out-Node m)
node_cmp_rolled x m = node_cmp_is (roll-Node x) m ∙ ap (λ z. layer_cmp z (out-Node m)) (out-roll-Node x)

-- ---- nodes are told apart

abbrev Told : Node → Type 0
Told n = (m : Node) → node_cmp n m ≡ Equal → n ≡ m

told_kids : (ns : List ((n : Node) × Told n)) (ms : List Node) → slice_cmp node_cmp (map (λ e. e.0) ns) ms ≡ Equal → map (λ e. e.0) ns ≡ ms
told_kids [] [] e = refl
told_kids [] (m ∷ ms) e = absurd cc
told_kids (n ∷ ns) [] e = absurd cc
told_kids (n ∷ ns) (m ∷ ms) e =
    ap (λ z. z ∷ map (λ e. e.0) ns) (n.1 m (then_first (node_cmp n.0 m) (slice_cmp node_cmp (map (λ e. e.0) ns) ms) e))
    ∙ ap (λ zs. m ∷ zs) (told_kids ns ms (then_second (node_cmp n.0 m) (slice_cmp node_cmp (map (λ e. e.0) ns) ms) e))

told_layer : (x y : Node-F Node) → ((ms : List Node) → slice_cmp node_cmp x.kids ms ≡ Equal → x.kids ≡ ms) → layer_cmp x y ≡ Equal → x ≡ y
told_layer x y kids e =
    let a = nat_cmp (kind_place x.kind) (kind_place y.kind) in
    let b = slice_cmp nat_cmp x.text y.text in
    let c = slice_cmp node_cmp x.kids y.kids in
    let d = span_cmp x.span y.span in
    let e1 = then_second a (ordering_then b (ordering_then c d)) e in
    let e2 = then_second b (ordering_then c d) e1 in
    let kind = tag_one the_type tt x.kind y.kind (nat_order.same (kind_place x.kind) (kind_place y.kind) (then_first a _ e)) in
    let text = (lists_order nat_cmp nat_order).same x.text y.text (then_first b (ordering_then c d) e1) in
    let ks = kids y.kids (then_first c d e2) in
    let span = span_order.same x.span y.span (then_second c d e2) in
    let f1 : Kind → Node-F Node = λ z. record { kind = z; text = x.text; kids = x.kids; span = x.span } in
    let f2 : List ℕ → Node-F Node = λ z. record { kind = y.kind; text = z; kids = x.kids; span = x.span } in
    let f3 : List Node → Node-F Node = λ z. record { kind = y.kind; text = y.text; kids = z; span = x.span } in
    let f4 : Span → Node-F Node = λ z. record { kind = y.kind; text = y.text; kids = y.kids; span = z } in
    ap f1 kind ∙ ap f2 text ∙ ap f3 ks ∙ ap f4 span

pub told : (n : Node) → Told n
told = ind-Node Told (λ x y is m e.
    let kids = subst (λ (z : Node-F Node). (ms : List Node) → slice_cmp node_cmp z.kids ms ≡ Equal → z.kids ≡ ms) is (told_kids y.kids) in
    ap roll-Node (told_layer x (out-Node m) kids (sym (node_cmp_rolled x m) ∙ e)) ∙ roll-out-Node m)

-- ---- the order says the same from both sides

abbrev Flips : Node → Type 0
Flips n = (m : Node) → node_cmp n m ≡ ordering_reverse (node_cmp m n)

flips_kids : (ns : List ((n : Node) × Flips n)) (ms : List Node) → slice_cmp node_cmp (map (λ e. e.0) ns) ms ≡ ordering_reverse (slice_cmp node_cmp ms (map (λ e. e.0) ns))
flips_kids [] [] = refl
flips_kids [] (m ∷ ms) = refl
flips_kids (n ∷ ns) [] = refl
flips_kids (n ∷ ns) (m ∷ ms) = then_flip (node_cmp n.0 m) _ (node_cmp m n.0) _ (n.1 m) (flips_kids ns ms)

pub flips : (n : Node) → Flips n
flips = ind-Node Flips (λ x y is m.
    let z = out-Node m in
    let kids = subst (λ (z : Node-F Node). (ms : List Node) → slice_cmp node_cmp z.kids ms ≡ ordering_reverse (slice_cmp node_cmp ms z.kids)) is (flips_kids y.kids) in
    node_cmp_rolled x m
    ∙ then_flip _ _ (nat_cmp (kind_place z.kind) (kind_place x.kind)) _ (nat_order.flip (kind_place x.kind) (kind_place z.kind))
    (then_flip _ _ (slice_cmp nat_cmp z.text x.text) _ ((lists_order nat_cmp nat_order).flip x.text z.text)
    (then_flip _ _ (slice_cmp node_cmp z.kids x.kids) (span_cmp z.span x.span) (kids z.kids) (span_order.flip x.span z.span)))
    ∙ ap ordering_reverse (sym (node_cmp_is m (roll-Node x) ∙ ap (layer_cmp z) (out-roll-Node x))))

pub node_order : IsOrder node_cmp
node_order = record { flip = flips; same = told }

-- ---- contents

abbrev shell : Node → Node-F Node
shell n = record { kind = content_kind (kind_of n); text = text_of n; kids = map content_of (kids_of n); span = no_span }

shelled : (n : Node) → out-Node (content_of n) ≡ shell n
shelled n = ap out-Node (content_is n) ∙ out-roll-Node (shell n)

then_equal : (o : Ordering) → ordering_then o Equal ≡ o
then_equal Less = refl
then_equal Equal = refl
then_equal Greater = refl

-- the order of two contents
pub content_cmp : (n m : Node) → node_cmp (content_of n) (content_of m)
    ≡ ordering_then (nat_cmp (kind_place (content_kind (kind_of n))) (kind_place (content_kind (kind_of m)))) (ordering_then (slice_cmp nat_cmp (text_of n) (text_of m)) (slice_cmp node_cmp (map content_of (kids_of n)) (map content_of (kids_of m))))
content_cmp n m =
    let a = nat_cmp (kind_place (content_kind (kind_of n))) (kind_place (content_kind (kind_of m))) in
    let b = slice_cmp nat_cmp (text_of n) (text_of m) in
    let c = slice_cmp node_cmp (map content_of (kids_of n)) (map content_of (kids_of m)) in
    node_cmp_is (content_of n) (content_of m)
    ∙ ap (λ x. layer_cmp x (out-Node (content_of m))) (shelled n) ∙ ap (λ y. layer_cmp (shell n) y) (shelled m)
    ∙ ap (λ o. ordering_then a (ordering_then b o)) (then_equal c)

-- ---- a comparison of lists, place by place

module _ (ns ms : List Node) (i : ℕ) (n : Node) (lt : i < length ns) (is : n ≡ get_or ns i n) where
  opened : drop i ns ≡ n ∷ drop (i + 1) ns
  opened = drop-cons ns i n lt ∙ ap (λ (y : Node). y ∷ drop (suc i) ns) (sym is) ∙ ap (λ (j : ℕ). n ∷ drop j ns) (sym (add-one i))

  pub longer : length ms ≤ i → slice_cmp node_cmp (map content_of (drop i ns)) (map content_of (drop i ms)) ≡ Greater
  longer le = ap (λ (xs : List Node). slice_cmp node_cmp (map content_of xs) (map content_of (drop i ms))) opened ∙ ap (λ (xs : List Node). slice_cmp node_cmp (map content_of (n ∷ drop (i + 1) ns)) (map content_of xs)) (drop_all i ms le)

  pub at_place : (m : Node) → i < length ms → m ≡ get_or ms i m → slice_cmp node_cmp (map content_of (drop i ns)) (map content_of (drop i ms))
      ≡ ordering_then (node_cmp (content_of n) (content_of m)) (slice_cmp node_cmp (map content_of (drop (i + 1) ns)) (map content_of (drop (i + 1) ms)))
  at_place m lt' is' =
      let o' : drop i ms ≡ m ∷ drop (i + 1) ms = drop-cons ms i m lt' ∙ ap (λ (y : Node). y ∷ drop (suc i) ms) (sym is') ∙ ap (λ (j : ℕ). m ∷ drop j ms) (sym (add-one i)) in
      ap (λ (xs : List Node). slice_cmp node_cmp (map content_of xs) (map content_of (drop i ms))) opened ∙ ap (λ (xs : List Node). slice_cmp node_cmp (map content_of (n ∷ drop (i + 1) ns)) (map content_of xs)) o'

pub at_end : (ns ms : List Node) (i : ℕ) → length ns ≤ i → i < length ms → slice_cmp node_cmp (map content_of (drop i ns)) (map content_of (drop i ms)) ≡ Less
at_end ns ms i le lt =
    ap (λ (xs : List Node). slice_cmp node_cmp (map content_of xs) (map content_of (drop i ms))) (drop_all i ns le) ∙ some (drop i ms) (omega (arith, length-drop i ms))
  where
    some : (xs : List Node) → 0 < length xs → slice_cmp node_cmp [] (map content_of xs) ≡ Less
    some [] h = absurd (omega arith)
    some (x ∷ xs) h = refl

pub at_ends : (ns ms : List Node) (i : ℕ) → length ns ≤ i → length ms ≤ i → slice_cmp node_cmp (map content_of (drop i ns)) (map content_of (drop i ms)) ≡ Equal
at_ends ns ms i le le' =
    ap (λ (xs : List Node). slice_cmp node_cmp (map content_of xs) (map content_of (drop i ms))) (drop_all i ns le) ∙ ap (λ (xs : List Node). slice_cmp node_cmp [] (map content_of xs)) (drop_all i ms le')

-- ---- one comparison after another

pub kinds_are : (n m : Node) (p q : ℕ) (k l : Kind) (o : Ordering) → o ≡ nat_cmp p q → p ≡ kind_place k → q ≡ kind_place l → k ≡ content_kind (kind_of n) → l ≡ content_kind (kind_of m)
    → o ≡ nat_cmp (kind_place (content_kind (kind_of n))) (kind_place (content_kind (kind_of m)))
kinds_are n m p q k l o e p-is q-is k-is l-is =
    e ∙ ap (λ x. nat_cmp x q) (p-is ∙ ap kind_place k-is) ∙ ap (λ y. nat_cmp (kind_place (content_kind (kind_of n))) y) (q-is ∙ ap kind_place l-is)

pub texts_are : (n m : Node) (a b : List ℕ) (o : Ordering) → o ≡ slice_cmp nat_cmp a b → a ≡ text_of n → b ≡ text_of m → o ≡ slice_cmp nat_cmp (text_of n) (text_of m)
texts_are n m a b o e a-is b-is = e ∙ ap (λ x. slice_cmp nat_cmp x b) a-is ∙ ap (λ y. slice_cmp nat_cmp (text_of n) y) b-is

pub first_less : (o a b : Ordering) → o ≡ a → o ≡ Less → Less ≡ ordering_then a b
first_less o a b e is = sym (ap (λ x. ordering_then x b) (sym e ∙ is))

pub first_greater : (o a b : Ordering) → o ≡ a → o ≡ Greater → Greater ≡ ordering_then a b
first_greater o a b e is = sym (ap (λ x. ordering_then x b) (sym e ∙ is))

pub first_equal : (o a b r : Ordering) → o ≡ a → o ≡ Equal → r ≡ b → r ≡ ordering_then a b
first_equal o a b r e is r-is = r-is ∙ sym (ap (λ x. ordering_then x b) (sym e ∙ is))
