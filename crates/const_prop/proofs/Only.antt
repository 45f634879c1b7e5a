-- There is just one list of what is known.
use Rattle.std.proofs.Common.{◌≡◌, inl, inr, ℕ, suc, ◌+◌, ◌<◌, List, [], ◌∷◌, map, refl, sym, ap, ◌∙◌, subst, arith, Some}
use Rattle.std.specs.Prelude.{slice_get, slice_index}
use Rattle.std.specs.List.Sorted.{IsStrictlyIncreasing}
use Rattle.node_tree.specs.declared.node.Node.{Node}
use Rattle.node_tree.specs.declared.known.Known.{Known}
use Rattle.graph_form.specs.declared.graph.Edge.{Edge}
use Rattle.graph_form.specs.declared.graph.Graph.{Graph}
use Rattle.graph_form.specs.declared.graph.Point.{Point}
use Rattle.graph_form.specs.Sets.{Among}
use Rattle.flow_graph.specs.Units.{IsPointBefore, IsEdgeBefore, InOrder, IsGraphOf, points_of, Goes}
use Rattle.unit_names.specs.declared.scope.Scope.{Scope}
use Rattle.unit_names.specs.Scopes.{AreScopes}
use Rattle.unit_names.specs.Words.{Word, leaf}
use Rattle.const_prop.specs.Constants.{IsKnown, AreConstants}

-- ---- lists in order with the same items

abbrev Steps : {X : Type 0} → (X → X → Type 0) → List X → Type 0
Steps Before [] = Unit {0}
Steps Before (x ∷ xs) = ((y : _) → Among xs y → Before x y) × Steps Before xs

module _ {X : Type 0} (Before : X → X → Type 0) where
  place_of : (xs : List X) (y : X) → Among xs y → (k : ℕ) × (slice_get xs k ≡ Some y)
  place_of [] y h = absurd h
  place_of (x ∷ xs) y (inl e) = (0, ap Some e)
  place_of (x ∷ xs) y (inr h) = let r = place_of xs y h in (suc r.0, r.1)

  pub steps_of : (xs : List X) → InOrder Before xs → Steps Before xs
  steps_of [] h = tt
  steps_of (x ∷ xs) h =
      (λ y among. let r = place_of xs y among in h 0 (suc r.0) x y (omega arith) refl r.1, steps_of xs (λ i j a b lt ia jb. h (suc i) (suc j) a b (omega (arith, lt)) ia jb))

  module _ (not_both : (x y : X) → Before x y → Before y x → ⊥) where
    first_same : (x y : X) (xs ys : List X) → ((z : X) → Among xs z → Before x z) → ((z : X) → Among ys z → Before y z) → Among (y ∷ ys) x → Among (x ∷ xs) y → x ≡ y
    first_same x y xs ys xb yb (inl e) b = sym e
    first_same x y xs ys xb yb (inr h) (inl e) = e
    first_same x y xs ys xb yb (inr h) (inr g) = absurd (not_both x y (xb y g) (yb x h))

    rest_has : (x y z : X) (xs ys : List X) → x ≡ y → ((u : X) → Among xs u → Before x u) → Among xs z → Among (y ∷ ys) z → Among ys z
    rest_has x y z xs ys e xb h (inl f) = let b : Before x z = xb z h in let c : Before x x = subst (λ u. Before x u) (sym f ∙ sym e) b in absurd (not_both x x c c)
    rest_has x y z xs ys e xb h (inr g) = g

    same_steps : (xs ys : List X) → Steps Before xs → Steps Before ys → ((z : X) → Among xs z → Among ys z) → ((z : X) → Among ys z → Among xs z) → xs ≡ ys
    same_steps [] [] h g to from = refl
    same_steps [] (y ∷ ys) h g to from = absurd (from y (inl refl))
    same_steps (x ∷ xs) [] h g to from = absurd (to x (inl refl))
    same_steps (x ∷ xs) (y ∷ ys) h g to from =
        let e : x ≡ y = first_same x y xs ys h.0 g.0 (to x (inl refl)) (from y (inl refl)) in
        let rest : xs ≡ ys = same_steps xs ys h.1 g.1 (λ z a. rest_has x y z xs ys e h.0 a (to z (inr a))) (λ z a. rest_has y x z ys xs (sym e) g.0 a (from z (inr a))) in
        λ i. e i ∷ rest i

-- ---- graphs

points_apart : (a b : Point) → IsPointBefore a b → IsPointBefore b a → ⊥
points_apart a b (inl h) (inl g) = omega (arith, h, g)
points_apart a b (inl h) (inr g) = omega (arith, h, g.0)
points_apart a b (inr h) (inl g) = omega (arith, h.0, g)
points_apart a b (inr h) (inr g) = omega (arith, h.1, g.1)

edges_apart : (a b : Edge) → IsEdgeBefore a b → IsEdgeBefore b a → ⊥
edges_apart a b (inl h) (inl g) = omega (arith, h, g)
edges_apart a b (inl h) (inr g) = omega (arith, h, g.0)
edges_apart a b (inr h) (inl g) = omega (arith, h.0, g)
edges_apart a b (inr h) (inr g) = omega (arith, h.1, g.1)

module _ (these : List Point) (To : Point → Point → Type 0) where
  abbrev Joins : List Point → ℕ → ℕ → Type 0
  Joins ps i j = (a : Point) × (slice_get ps i ≡ Some a) × (b : Point) × (slice_get ps j ≡ Some b) × To a b

  edge_too : (g h : Graph) → IsGraphOf these To g → IsGraphOf these To h → g.points ≡ h.points → (e : Edge) → Among g.edges e → Among h.edges e
  edge_too g h gis his same e among = (his.edges e.from e.to).1 (subst (λ ps. Joins ps e.from e.to) same ((gis.edges e.from e.to).0 among))

  -- the points and the edges between them are one graph
  graph_only : (g h : Graph) → IsGraphOf these To g → IsGraphOf these To h → g ≡ h
  graph_only g h gis his =
      let points : g.points ≡ h.points =
      same_steps IsPointBefore points_apart g.points h.points (steps_of IsPointBefore g.points gis.points_order) (steps_of IsPointBefore h.points his.points_order)
      (λ p among. (his.points p).1 ((gis.points p).0 among)) (λ p among. (gis.points p).1 ((his.points p).0 among)) in
      let edges : g.edges ≡ h.edges =
      same_steps IsEdgeBefore edges_apart g.edges h.edges (steps_of IsEdgeBefore g.edges gis.edges_order) (steps_of IsEdgeBefore h.edges his.edges_order)
      (edge_too g h gis his points) (edge_too h g his gis (sym points)) in
      λ i. record { points = points i; edges = edges i }

-- ---- units

module _ (root : Node) where
  abbrev HaveGraphs : List Scope → Type 0
  HaveGraphs ss = (s : Scope) → Among ss s → IsGraphOf (points_of root s.unit) (Goes root s.unit) s.graph

  scopes_by : (xs ys : List Scope) → map (λ (s : Scope). s.unit) xs ≡ map (λ (s : Scope). s.unit) ys → HaveGraphs xs → HaveGraphs ys → xs ≡ ys
  scopes_by [] [] e h g = refl
  scopes_by [] (y ∷ ys) e h g = absurd cc
  scopes_by (x ∷ xs) [] e h g = absurd cc
  scopes_by (x ∷ xs) (y ∷ ys) e h g =
      let unit : x.unit ≡ y.unit = cc in
      let units : map (λ (s : Scope). s.unit) xs ≡ map (λ (s : Scope). s.unit) ys = cc in
      let graph : x.graph ≡ y.graph =
      graph_only (points_of root y.unit) (Goes root y.unit) x.graph y.graph (subst (λ n. IsGraphOf (points_of root n) (Goes root n) x.graph) unit (h x (inl refl))) (g y (inl refl)) in
      let rest : xs ≡ ys = scopes_by xs ys units (λ s among. h s (inr among)) (λ s among. g s (inr among)) in
      λ i. record { unit = unit i; graph = graph i } ∷ rest i

  -- the units of a file are one list
  pub scopes_only : (xs ys : List Scope) → AreScopes root xs → AreScopes root ys → xs ≡ ys
  scopes_only xs ys h g = scopes_by xs ys (h.units ∙ sym g.units) h.graphs g.graphs

-- ---- what is known

abbrev Earlier : Known → Known → Type 0
Earlier a b = a.at < b.at

earlier_apart : (a b : Known) → Earlier a b → Earlier b a → ⊥
earlier_apart a b h g = omega (arith, h, g)

tail_up : (x : ℕ) (xs : List ℕ) → IsStrictlyIncreasing (x ∷ xs) → IsStrictlyIncreasing xs
tail_up x xs up k lt =
    let next : suc k + 1 ≡ suc (k + 1) = omega arith in
    subst (λ n. slice_index xs k < slice_index (x ∷ xs) n) next (up (suc k) (omega (arith, lt)))

head_less : (k : Known) (ks : List Known) → IsStrictlyIncreasing (map (λ (j : Known). j.at) (k ∷ ks)) → (j : Known) → Among ks j → Earlier k j
head_less k [] up j h = absurd h
head_less k (l ∷ ls) up j (inl e) = let less : k.at < l.at = up 0 (omega arith) in subst (λ (m : Known). k.at < m.at) e less
head_less k (l ∷ ls) up j (inr h) =
    let less : k.at < l.at = up 0 (omega arith) in
    let more : l.at < j.at = head_less l ls (tail_up k.at (map (λ (m : Known). m.at) (l ∷ ls)) up) j h in
    omega (arith, less, more)

known_steps : (ks : List Known) → IsStrictlyIncreasing (map (λ (j : Known). j.at) ks) → Steps Earlier ks
known_steps [] up = tt
known_steps (k ∷ ks) up = (head_less k ks up, known_steps ks (tail_up k.at (map (λ (m : Known). m.at) ks) up))

known_too : (root : Node) (a b : List Known) (h : AreConstants root a) (g : AreConstants root b) → h.scopes ≡ g.scopes → (k : Known) → Among a k → Among b k
known_too root a b h g same k among = (g.exact k).1 (subst (λ (ss : List Scope). (literal : Word) × (k.literal ≡ leaf literal) × IsKnown root ss k.at literal) same ((h.exact k).0 among))

-- the names that are known are one list
pub constants_only : (root : Node) (a b : List Known) → AreConstants root a → AreConstants root b → a ≡ b
constants_only root a b h g =
    let same : h.scopes ≡ g.scopes = scopes_only root h.scopes g.scopes h.units g.units in
    same_steps Earlier earlier_apart a b (known_steps a h.in_order) (known_steps b g.in_order) (known_too root a b h g same) (known_too root b a g h (sym same))
