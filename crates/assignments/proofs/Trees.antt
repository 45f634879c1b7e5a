-- What nodes have, by what their kids have.
use Rattle.std.proofs.Common.{◌≡◌, ℕ, ◌+◌, List, [], ◌∷◌, ◌++◌, refl, sym, ap, ◌∙◌}
use Rattle.std.specs.Prelude.{map}
use Rattle.std.specs.List.{flat_map}
use Rattle.node_tree.specs.declared.node.Node.{Node, Node-F, out-Node, roll-Node, roll-out-Node, para-Node, para-roll-Node}
use Rattle.node_tree.specs.Numbers.{Numbered, count_of, siblings}
use Rattle.assignments.specs.Trees.{numbered_pairs, whole, from_kids, paired}

firsts : {X : Type 0} (f : Node → X) (ns : List Node) → map (λ (e : Node × X). e.0) (map (λ (y : Node). (y, f y)) ns) ≡ ns
firsts f [] = refl
firsts f (n ∷ ns) = ap (λ (ms : List Node). n ∷ ms) (firsts f ns)

module _ {X : Type 0} (make : Numbered → List (Numbered × X) → X) where
  abbrev step : Node-F (Node × (ℕ → X)) → ℕ → X
  step x at = make (record { at = at; node = whole x }) (numbered_pairs (at + 1) x.kids)

  abbrev pair : Node → Node × (ℕ → X)
  pair y = (y, para-Node (ℕ → X) step y)

  pairs : (at : ℕ) (ns : List Node) → numbered_pairs at (map pair ns) ≡ map (λ (kid : Numbered). (kid, from_kids make kid)) (siblings at ns)
  unfolding from_kids
  pairs at [] = refl
  pairs at (n ∷ ns) = ap (λ (rest : List (Numbered × X)). (record { at = at; node = n }, para-Node (ℕ → X) step n at) ∷ rest) (pairs (at + count_of n) ns)

  -- what a node has is made of it and of what each of its kids has
  pub from_kids_is : (s : Numbered) → from_kids make s ≡ make s (paired (from_kids make) s)
  unfolding from_kids
  from_kids_is s =
      let o : Node-F Node = out-Node s.node in
      let same : roll-Node (record { kind = o.kind; text = o.text; kids = map (λ (e : Node × (ℕ → X)). e.0) (map pair o.kids); span = o.span }) ≡ s.node =
      ap (λ (ks : List Node). roll-Node (record { kind = o.kind; text = o.text; kids = ks; span = o.span })) (firsts (para-Node (ℕ → X) step) o.kids) ∙ roll-out-Node s.node in
      ap (λ (n : Node). para-Node (ℕ → X) step n s.at) (sym (roll-out-Node s.node))
      ∙ ap (λ (f : ℕ → X). f s.at) (para-roll-Node (ℕ → X) step o)
      ∙ ap (λ (n : Node). make (record { at = s.at; node = n }) (numbered_pairs (s.at + 1) (map pair o.kids))) same
      ∙ ap (make s) (pairs (s.at + 1) o.kids)

-- what pairs of nodes and what they have give
pub flat_map-map : {X Y Z : Type 0} (F : Y → List Z) (g : X → Y) (xs : List X) → flat_map F (map g xs) ≡ flat_map (λ (x : X). F (g x)) xs
flat_map-map F g [] = refl
flat_map-map F g (x ∷ xs) = ap (λ (zs : List _). F (g x) ++ zs) (flat_map-map F g xs)
