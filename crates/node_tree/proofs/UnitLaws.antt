-- The nodes of a unit, by a node and what is below it.
use Rattle.std.proofs.Common.{◌≡◌, ℕ, zero, suc, ◌-◌, Bool, true, false, List, [], ◌∷◌, ◌++◌, length, take, refl, sym, ap, ◌∙◌}
use Rattle.std.specs.Prelude.{map, if◌then◌else◌}
use Rattle.std.specs.List.{flat_map}
use Rattle.std.proofs.lemmas.List.{length-map}
use Rattle.node_tree.specs.declared.node.Node.{Node, Node-F, out-Node, roll-Node, roll-out-Node, para-roll-Node}
use Rattle.node_tree.specs.declared.kind.Kind.{Kind}
use Rattle.node_tree.specs.Kinds.{is_function}
use Rattle.node_tree.specs.Tree.{kind_of, kids_of}
use Rattle.node_tree.specs.Units.{nested, outside_body}
use Rattle.node_tree.specs.Walk.{walked, entered}
use Rattle.node_tree.proofs.Trees.{pre_is, firsts, seconds}

module _ {X Y : Type 0} (f : X → Y) where
  take-map : (i : ℕ) (xs : List X) → take i (map f xs) ≡ map f (take i xs)
  take-map zero xs = refl
  take-map (suc i) [] = refl
  take-map (suc i) (x ∷ xs) = ap (λ (ys : List Y). f x ∷ ys) (take-map i xs)

  part_mapped : (function : Bool) (xs : List X) → (if function then take (length (map f xs) - 1) (map f xs) else map f xs) ≡ map f (if function then take (length xs - 1) xs else xs)
  part_mapped true xs = ap (λ (k : ℕ). take (k - 1) (map f xs)) (length-map xs f) ∙ take-map (length xs - 1) xs
  part_mapped false xs = refl

  -- the part of what the kids have is had by the part of the kids
  outside_mapped : (kind : Kind) (xs : List X) → outside_body kind (map f xs) ≡ map f (outside_body kind xs)
  outside_mapped kind xs = part_mapped (is_function kind) xs

abbrev step : Node-F (Node × List Node) → List Node
step x =
    roll-Node (record { kind = x.kind; text = x.text; kids = map (λ (e : Node × List Node). e.0) x.kids; span = x.span })
    ∷ flat_map (λ (e : Node × List Node). e.1) (outside_body x.kind x.kids)

-- a node, and then what is nested in each kid that belongs to the unit
pub nested_is : (n : Node) → nested n ≡ n ∷ flat_map nested (outside_body (kind_of n) (kids_of n))
unfolding nested
nested_is n =
    let o : Node-F Node = out-Node n in
    let pair : Node → Node × List Node = λ y. (y, nested y) in
    let opened : nested n ≡ nested (roll-Node o) = ap nested (sym (roll-out-Node n)) in
    let whole : roll-Node (record { kind = o.kind; text = o.text; kids = map (λ (e : Node × List Node). e.0) (map pair o.kids); span = o.span }) ≡ n =
    ap (λ (ks : List Node). roll-Node (record { kind = o.kind; text = o.text; kids = ks; span = o.span })) (firsts nested o.kids) ∙ roll-out-Node n in
    let below : List (Node × List Node) → List Node = flat_map (λ (e : Node × List Node). e.1) in
    opened ∙ para-roll-Node (List Node) step o ∙ ap (λ (m : Node). m ∷ below (outside_body o.kind (map pair o.kids))) whole
    ∙ ap (λ (es : List (Node × List Node)). n ∷ below es) (outside_mapped pair o.kind o.kids)
    ∙ ap (λ (ms : List Node). n ∷ ms) (seconds nested (outside_body o.kind o.kids))

-- a node, and then what is walked of each kid that is entered
pub walked_is : (bodies : Bool) (n : Node) → walked bodies n ≡ n ∷ flat_map (walked bodies) (entered bodies n)
walked_is true n = pre_is n
walked_is false n = nested_is n
