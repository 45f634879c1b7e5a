-- What is exposed in nodes, and what is outermost in them, by their kids.
use Rattle.std.proofs.Common.{◌≡◌, ◌<◌, ◌≤◌, ◌+◌, ℕ, Bool, true, false, if◌then◌else◌, refl, List, [], ◌∷◌, ◌++◌, length, take, map, get_or, sym, ap, ◌∙◌, append_assoc}
use Rattle.std.specs.List.{flat_map}
use Rattle.node_tree.specs.declared.node.Node.{Node, Node-F, out-Node, roll-Node, roll-out-Node, para-Node, para-roll-Node}
use Rattle.node_tree.specs.declared.span.Span.{Span}
use Rattle.node_tree.specs.Tree.{kids_of, kind_of, span_of}
use Rattle.node_tree.proofs.Trees.{firsts, seconds}
use Rattle.assignments.specs.Trees.{whole}
use Rattle.std.proofs.lemmas.List.{take_more, take_all, append-nil}
use Rattle.std.proofs.lemmas.List.Concat.{flat_map-cons, flat_map-append}
use Rattle.taint_form.specs.Expressions.{exposed, exposed_by, outermost, outermost_by, lies_in, shown, opens}
use Rattle.std.specs.Prelude.{◌&&◌}
use Rattle.node_tree.specs.Kinds.{is_expression}

module _ (by : Node → List Node → List Node) where
  abbrev step : Node-F (Node × List Node) → List Node
  step x = by (whole x) (flat_map (λ (e : Node × List Node). e.1) x.kids)

  fold_is : (n : Node) → para-Node (List Node) step n ≡ by n (flat_map (para-Node (List Node) step) (kids_of n))
  fold_is n =
      let o : Node-F Node = out-Node n in
      let f : Node → List Node = para-Node (List Node) step in
      let pairs : List (Node × List Node) = map (λ (y : Node). (y, f y)) o.kids in
      let same : roll-Node (record { kind = o.kind; text = o.text; kids = map (λ (e : Node × List Node). e.0) pairs; span = o.span }) ≡ n =
      ap (λ (ks : List Node). roll-Node (record { kind = o.kind; text = o.text; kids = ks; span = o.span })) (firsts f o.kids) ∙ roll-out-Node n in
      ap f (sym (roll-out-Node n)) ∙ para-roll-Node (List Node) step o
      ∙ ap (λ (m : Node). by m (flat_map (λ (e : Node × List Node). e.1) pairs)) same
      ∙ ap (by n) (seconds f o.kids)

pub exposed_is : (spans : List Span) (n : Node) → exposed spans n ≡ exposed_by spans n (flat_map (exposed spans) (kids_of n))
unfolding exposed
exposed_is spans n = fold_is (exposed_by spans) n

pub outermost_is : (range : Span) (n : Node) → outermost range n ≡ outermost_by range n (flat_map (outermost range) (kids_of n))
unfolding outermost
outermost_is range n = fold_is (outermost_by range) n

-- one kid more of a loop that adds what each has
pub kids_more : (F : Node → List Node) (kids : List Node) (i : ℕ) (kid : Node) (first old new : List Node) → i < length kids → kid ≡ get_or kids i kid
    → old ≡ first ++ flat_map F (take i kids) → new ≡ old ++ F kid → new ≡ first ++ flat_map F (take (i + 1) kids)
kids_more F kids i kid first old new lt is old_is new_is =
    let one : take (i + 1) kids ≡ take i kids ++ kid ∷ [] = take_more kids i kid lt ∙ ap (λ y. take i kids ++ y ∷ []) (sym is) in
    let all : flat_map F (take (i + 1) kids) ≡ flat_map F (take i kids) ++ F kid =
    ap (flat_map F) one ∙ flat_map-append F (take i kids) (kid ∷ []) ∙ ap (λ ys. flat_map F (take i kids) ++ ys) (flat_map-cons F kid [] ∙ append-nil (F kid)) in
    new_is ∙ ap (λ ys. ys ++ F kid) old_is ∙ append_assoc first (flat_map F (take i kids)) (F kid) ∙ ap (λ ys. first ++ ys) (sym all)

pub kids_done : (F : Node → List Node) (kids ks : List Node) (i : ℕ) (first now : List Node) → length kids ≤ i → kids ≡ ks → now ≡ first ++ flat_map F (take i kids) → now ≡ first ++ flat_map F ks
kids_done F kids ks i first now le is now_is = now_is ∙ ap (λ zs. first ++ flat_map F zs) (take_all i kids le ∙ is)

-- ---- the outermost ones

all_true : {X : Type 0} (a b : Bool) (x y : X) → a ≡ true → b ≡ true → (if a && b then x else y) ≡ x
all_true true true x y e f = refl
all_true true false x y e f = absurd cc
all_true false b x y e f = absurd cc

first_false : {X : Type 0} (a b : Bool) (x y : X) → a ≡ false → (if a && b then x else y) ≡ y
first_false true b x y e = absurd cc
first_false false b x y e = refl

second_false : {X : Type 0} (a b : Bool) (x y : X) → b ≡ false → (if a && b then x else y) ≡ y
second_false true true x y e = absurd cc
second_false true false x y e = refl
second_false false b x y e = refl

module _ (range : Span) (n : Node) where
  abbrev below : List Node
  below = flat_map (outermost range) (kids_of n)

  pub outermost_here : is_expression (kind_of n) ≡ true → lies_in range (span_of n) ≡ true → outermost range n ≡ n ∷ []
  outermost_here e f = outermost_is range n ∙ all_true (is_expression (kind_of n)) (lies_in range (span_of n)) (n ∷ []) below e f

  pub outermost_none : is_expression (kind_of n) ≡ false → outermost range n ≡ flat_map (outermost range) (kids_of n)
  outermost_none e = outermost_is range n ∙ first_false (is_expression (kind_of n)) (lies_in range (span_of n)) (n ∷ []) below e

  pub outermost_below : lies_in range (span_of n) ≡ false → outermost range n ≡ flat_map (outermost range) (kids_of n)
  outermost_below e = outermost_is range n ∙ second_false (is_expression (kind_of n)) (lies_in range (span_of n)) (n ∷ []) below e

-- nothing is exposed below a node that doesn't open
pub exposed_shut : (spans : List Span) (n : Node) → opens spans n ≡ false → exposed spans n ≡ shown spans n
exposed_shut spans n e =
    let below : List Node = flat_map (exposed spans) (kids_of n) in
    exposed_is spans n ∙ ap (λ b. shown spans n ++ (if b then below else [])) e ∙ append-nil (shown spans n)

pub exposed_open : (spans : List Span) (n : Node) → opens spans n ≡ true → exposed spans n ≡ shown spans n ++ flat_map (exposed spans) (kids_of n)
exposed_open spans n e =
    let below : List Node = flat_map (exposed spans) (kids_of n) in
    exposed_is spans n ∙ ap (λ b. shown spans n ++ (if b then below else [])) e
