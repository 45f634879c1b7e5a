-- What is added for the names of a unit is what was seen there.
use Rattle.std.proofs.Common.{◌≡◌, ◌⊎◌, ◌↔◌, inl, inr, ℕ, zero, suc, ◌+◌, ◌<◌, Bool, true, false, List, [], ◌∷◌, ◌++◌, length, take, get_or, append_assoc, refl, sym, ap, ◌∙◌, subst, arith, Some}
use Rattle.std.specs.Prelude.{None, ◌||◌, ◌==◌, if◌then◌else◌, slice_get}
use Rattle.std.specs.List.{flat_map}
use Rattle.std.proofs.lemmas.Bool.{eqb-true, eq-eqb}
use Rattle.std.proofs.lemmas.List.{take_more, append-nil, length-take-le}
use Rattle.node_tree.specs.declared.node.Node.{Node}
use Rattle.node_tree.specs.declared.kind.Kind.TheVariants as kinds
use Rattle.node_tree.specs.Numbers.{Numbered}
use Rattle.node_tree.specs.Tree.{kind_of, text_of}
use Rattle.graph_form.specs.declared.graph.Point.{Point}
use Rattle.graph_form.specs.Sets.{Among}
use Rattle.graph_form.proofs.Amongs.{among_app}
use Rattle.point_nodes.specs.Tops.{nodes_of}
use Rattle.assignments.specs.Targets.{is_name}
use Rattle.unit_names.specs.declared.scope.Scope.{Scope}
use Rattle.unit_names.specs.Words.{Word, word_of}
use Rattle.unit_effects.specs.Fixed.{Value, State}
use Rattle.const_prop.specs.Constants.{IsSmall, Holds, Reads, target_numbers}
use Rattle.const_prop.specs.Sights.{Says, IsSeen, IsSeenIn, AddsSeen}
use Rattle.const_prop.specs.Views.{is_in, sighted, sightings_at, sightings_from}
use Rattle.const_prop.proofs.NameKinds.{name_kind}

-- ---- lists

-- the points after some
from_app : (nodes : List Node) (held : ℕ → Word → Value) (k : ℕ) (xs : List Point) (p : Point) → sightings_from nodes held k (xs ++ p ∷ []) ≡ sightings_from nodes held k xs ++ sightings_at nodes (held (k + length xs)) p
from_app nodes held k [] p = let e : k ≡ k + 0 = omega arith in append-nil (sightings_at nodes (held k) p) ∙ ap (λ j. sightings_at nodes (held j) p) e
from_app nodes held k (x ∷ xs) p =
    let e : suc k + length xs ≡ k + length (x ∷ xs) = omega arith in
    ap (λ gs. sightings_at nodes (held k) x ++ gs) (from_app nodes held (suc k) xs p ∙ ap (λ j. sightings_from nodes held (suc k) xs ++ sightings_at nodes (held j) p) e)
    ∙ sym (append_assoc (sightings_at nodes (held k) x) (sightings_from nodes held (suc k) xs) (sightings_at nodes (held (k + length (x ∷ xs))) p))

-- one point more
pub from_more : (nodes : List Node) (held : ℕ → Word → Value) (ps : List Point) (i : ℕ) (d : Point) (first old new : List (ℕ × Value)) → i < length ps
    → old ≡ first ++ sightings_from nodes held 0 (take i ps) → new ≡ old ++ sightings_at nodes (held i) (get_or ps i d) → new ≡ first ++ sightings_from nodes held 0 (take (i + 1) ps)
from_more nodes held ps i d first old new lt old_is new_is =
    let e : 0 + length (take i ps) ≡ i = omega (arith, length-take-le i ps (omega (arith, lt))) in
    new_is ∙ ap (λ gs. gs ++ sightings_at nodes (held i) (get_or ps i d)) old_is ∙ append_assoc first (sightings_from nodes held 0 (take i ps)) (sightings_at nodes (held i) (get_or ps i d))
    ∙ ap (λ gs. first ++ gs) (sym (ap (sightings_from nodes held 0) (take_more ps i d lt) ∙ from_app nodes held 0 (take i ps) (get_or ps i d) ∙ ap (λ j. sightings_from nodes held 0 (take i ps) ++ sightings_at nodes (held j) (get_or ps i d)) e))

-- ---- what is in lists

in_forth : (numbers : List ℕ) (at : ℕ) → is_in numbers at ≡ true → Among numbers at
in_forth [] at e = absurd cc
in_forth (n ∷ ns) at e = by (n == at) refl (in_forth ns at) e
  where
    by : (b : Bool) → (n == at) ≡ b → (is_in ns at ≡ true → Among ns at) → b || is_in ns at ≡ true → Among (n ∷ ns) at
    by true same rest h = inl (eqb-true n at same)
    by false other rest h = inr (rest h)

in_back : (numbers : List ℕ) (at : ℕ) → Among numbers at → is_in numbers at ≡ true
in_back [] at among = absurd among
in_back (n ∷ ns) at (inl is) = ap (λ b. b || is_in ns at) (eq-eqb n at is)
in_back (n ∷ ns) at (inr among) = by (n == at) (in_back ns at among)
  where
    by : (b : Bool) → is_in ns at ≡ true → b || is_in ns at ≡ true
    by true rest = refl
    by false rest = rest

among_flat : {X Y : Type 0} (F : X → List Y) (xs : List X) (y : Y) → Among (flat_map F xs) y ↔ ((x : X) × Among xs x × Among (F x) y)
among_flat F [] y = (λ never. absurd never, λ h. absurd h.1)
among_flat F (x ∷ xs) y =
    let rest = among_flat F xs y in (
      λ h. elim ((among_app (F x) (flat_map F xs) y).0 h) [ inl a ↦ (x, inl refl, a) | inr b ↦ (let r = rest.0 b in (r.0, inr r.1, r.2)) ],
      λ h. (among_app (F x) (flat_map F xs) y).1 (elim h.1 [ inl is ↦ inl (subst (λ z. Among (F z) y) (sym is) h.2) | inr t ↦ inr (rest.1 (h.0, t, h.2)) ]),
    )

among_from : (nodes : List Node) (held : ℕ → Word → Value) (k : ℕ) (ps : List Point) (g : ℕ × Value) → Among (sightings_from nodes held k ps) g ↔ ((i : ℕ) × (p : Point) × (slice_get ps i ≡ Some p) × Among (sightings_at nodes (held (k + i)) p) g)
among_from nodes held k [] g = (λ never. absurd never, λ h. absurd (none h.0 h.1 h.2))
  where
    none : (i : ℕ) (p : Point) → slice_get [] i ≡ Some p → ⊥
    none i p e = absurd cc
among_from nodes held k (p ∷ ps) g =
    let rest = among_from nodes held (suc k) ps g in (
      λ h. elim ((among_app (sightings_at nodes (held k) p) (sightings_from nodes held (suc k) ps) g).0 h) [
        | inl a ↦ (let e : k ≡ k + 0 = omega arith in (0, p, refl, subst (λ j. Among (sightings_at nodes (held j) p) g) e a))
        | inr b ↦ (let r = rest.0 b in let e : suc k + r.0 ≡ k + suc r.0 = omega arith in (suc r.0, r.1, r.2, subst (λ j. Among (sightings_at nodes (held j) r.1) g) e r.3))
      ],
      λ h. (among_app (sightings_at nodes (held k) p) (sightings_from nodes held (suc k) ps) g).1 (back (λ j r e a. rest.1 (j, r, e, a)) h.0 h.1 h.2 h.3),
    )
  where
    back : ((i : ℕ) (q : Point) → slice_get ps i ≡ Some q → Among (sightings_at nodes (held (suc k + i)) q) g → Among (sightings_from nodes held (suc k) ps) g) → (i : ℕ) (q : Point) → slice_get (p ∷ ps) i ≡ Some q → Among (sightings_at nodes (held (k + i)) q) g → Among (sightings_at nodes (held k) p) g ⊎ Among (sightings_from nodes held (suc k) ps) g
    back rest zero q e a = let is : p ≡ q = cc in let z : k + 0 ≡ k = omega arith in inl (subst (λ r. Among (sightings_at nodes (held k) r) g) (sym is) (subst (λ j. Among (sightings_at nodes (held j) q) g) z a))
    back rest (suc i) q e a = let z : k + suc i ≡ suc k + i = omega arith in inr (rest i q e (subst (λ j. Among (sightings_at nodes (held j) q) g) z a))

-- ---- what was seen

module _ (nodes : List Node) (start : State) (s : Scope) (held : ℕ → Word → Value)
    (tells : (place : ℕ) (p : Point) → slice_get s.graph.points place ≡ Some p → (n : Numbered) → Among (nodes_of nodes p) n → is_name (kind_of n.node) ≡ true
    → (literal : Word) → (held place (word_of n.node) ≡ Some literal) ↔ (IsSmall nodes start s × Holds nodes start s place (text_of n.node) literal)) where
  module _ (place : ℕ) (p : Point) (here : slice_get s.graph.points place ≡ Some p) where
    says : (n : Numbered) → Among (nodes_of nodes p) n → is_name (kind_of n.node) ≡ true → (b : Bool) → is_in (target_numbers nodes p) n.at ≡ b
        → (literal : Word) → ((if b then None else held place (word_of n.node)) ≡ Some literal) ↔ Reads nodes start s place p n.at n.node literal
    says n among name true e literal = (λ f. absurd cc, λ r. absurd (r.read (in_forth (target_numbers nodes p) n.at e)))
    says n among name false e literal =
        let t = tells place p here n among name literal in (
          λ f. let h = t.0 f in record { small = h.0; read = λ yes. absurd (clash (in_back (target_numbers nodes p) n.at yes) e); holds = h.1 },
          λ r. t.1 (r.small, r.holds),
        )
      where
        clash : is_in (target_numbers nodes p) n.at ≡ true → is_in (target_numbers nodes p) n.at ≡ false → ⊥
        clash a b = absurd cc

    abbrev value : Numbered → Value
    value n = if is_in (target_numbers nodes p) n.at then None else held place (word_of n.node)

    seen_forth : (at : ℕ) (v : Value) (n : Numbered) → Among (nodes_of nodes p) n → (b : Bool) → is_name (kind_of n.node) ≡ b → Among {X = ℕ × Value} (if b then (n.at, value n) ∷ [] else []) (at, v) → (m : Node) × IsSeen nodes start s place p at m v
    seen_forth at v n among false name here_is = absurd here_is
    seen_forth at v n among true name (inr never) = absurd never
    seen_forth at v n among true name (inl is) =
        let at_is : n.at ≡ at = ap (λ g. g.0) is in
        let v_is : value n ≡ v = ap (λ g. g.1) is in
        let one : IsSeen nodes start s place p n.at n.node (value n) = record { node = among; name = name_kind (kind_of n.node) name; says = says n among name (is_in (target_numbers nodes p) n.at) refl } in
        (n.node, subst (λ k. IsSeen nodes start s place p k n.node v) at_is (subst (λ w. IsSeen nodes start s place p n.at n.node w) v_is one))

    seen_each : (at : ℕ) (m : Node) → Among (nodes_of nodes p) (record { at = at; node = m }) → kind_of m ≡ kinds.Name
        → (v : Value) × Says nodes start s place p at m v × Among (sightings_at nodes (held place) p) (at, v)
    seen_each at m among kind =
        let n : Numbered = record { at = at; node = m } in
        let name : is_name (kind_of m) ≡ true = ap is_name kind in
        let here_is : Among (sighted (is_in (target_numbers nodes p)) (held place) n) (at, value n) = subst (λ b. Among {X = ℕ × Value} (if b then (at, value n) ∷ [] else []) (at, value n)) (sym name) (inl refl) in
        (value n, says n among name (is_in (target_numbers nodes p) at) refl, (among_flat (sighted (is_in (target_numbers nodes p)) (held place)) (nodes_of nodes p) (at, value n)).1 (n, among, here_is))

  -- what is added is what was seen
  pub adds_seen : (old new : List (ℕ × Value)) → new ≡ old ++ sightings_from nodes held 0 s.graph.points → AddsSeen nodes start s old new
  adds_seen old new is = record {
    kept = λ g h. subst (λ gs. Among gs g) (sym is) ((among_app old (sightings_from nodes held 0 s.graph.points) g).1 (inl h));
    only = λ at v h. elim ((among_app old (sightings_from nodes held 0 s.graph.points) (at, v)).0 (subst (λ gs. Among gs (at, v)) is h)) [
      | inl a ↦ inl a
      | inr b ↦ inr (forth at v ((among_from nodes held 0 s.graph.points (at, v)).0 b))
    ];
    each = λ place p at n here among kind. (
        let e = seen_each place p here at n among kind in
        let z : place ≡ 0 + place = omega arith in
        let new_one = (among_from nodes held 0 s.graph.points (at, e.0)).1 (place, p, here, subst (λ j. Among (sightings_at nodes (held j) p) (at, e.0)) z e.2) in
        (e.0, e.1, subst (λ gs. Among gs (at, e.0)) (sym is) ((among_app old (sightings_from nodes held 0 s.graph.points) (at, e.0)).1 (inr new_one)))
        );
  }
    where
      forth : (at : ℕ) (v : Value) → ((i : ℕ) × (p : Point) × (slice_get s.graph.points i ≡ Some p) × Among (sightings_at nodes (held (0 + i)) p) (at, v)) → IsSeenIn nodes start s at v
      forth at v (i, p, here, among) =
          let z : 0 + i ≡ i = omega arith in
          let f = (among_flat (sighted (is_in (target_numbers nodes p)) (held i)) (nodes_of nodes p) (at, v)).0 (subst (λ j. Among (sightings_at nodes (held j) p) (at, v)) z among) in
          let seen = seen_forth i p here at v f.0 f.1 (is_name (kind_of f.0.node)) refl f.2 in
          (i, p, seen.0, here, seen.1)
