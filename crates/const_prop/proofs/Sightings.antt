-- What was seen at the points of all units, and what is known by it.
use Rattle.std.proofs.Common.{◌≡◌, ◌⊎◌, ◌↔◌, inl, inr, ℕ, ◌<◌, true, All, List, [], ◌∷◌, ◌++◌, length, get_or, refl, ap, subst, arith, Some}
use Rattle.std.specs.Prelude.{Option, None, option_map, slice_get}
use Rattle.std.proofs.lemmas.Option.{slice_get_within}
use Rattle.node_tree.specs.declared.node.Node.{Node}
use Rattle.node_tree.specs.declared.known.Known.{Known}
use Rattle.node_tree.specs.declared.kind.Kind.TheVariants as kinds
use Rattle.node_tree.specs.KnownNames.{IsNameAt, AreNames}
use Rattle.node_tree.specs.Numbers.{count_of}
use Rattle.node_tree.specs.Tree.{pre_of, kind_of}
use Rattle.graph_form.specs.declared.graph.Point.{Point}
use Rattle.graph_form.specs.Sets.{Among}
use Rattle.graph_form.proofs.Amongs.{among_push, among_at}
use Rattle.point_nodes.specs.Tops.{nodes_of}
use Rattle.assignments.specs.Targets.{is_name}
use Rattle.unit_names.specs.declared.scope.Scope.{Scope}
use Rattle.unit_names.specs.Scopes.{AreScopes}
use Rattle.unit_names.specs.Words.{Word, leaf}
use Rattle.unit_effects.specs.Fixed.{Value, State}
use Rattle.const_prop.specs.Constants.{start_of, IsKnown, AreConstants}
use Rattle.const_prop.specs.Settled.{Agrees, AreSettled, name_by}
use Rattle.const_prop.specs.Sights.{Says, IsSeenIn, AddsSeen}
use Rattle.const_prop.specs.Units.{AreSeen}
use Rattle.const_prop.proofs.NameKinds.{name_kind}

-- ---- one unit more

pub none_seen : (nodes : List Node) (scopes : List Scope) (gs : List (ℕ × Value)) → gs ≡ [] → AreSeen nodes scopes [] gs
none_seen nodes scopes gs none = record {
  only = λ at value among. absurd (subst (λ xs. Among xs (at, value)) none among);
  each = λ s place p at n among. absurd among;
}

module _ (nodes : List Node) (scopes these : List Scope) (s : Scope) (start : State) (old new : List (ℕ × Value)) (so : AreSeen nodes scopes these old) (start_is : start ≡ start_of nodes scopes s) (given : AddsSeen nodes start s old new) where
  adds : AddsSeen nodes (start_of nodes scopes s) s old new
  adds = subst (λ (t : State). AddsSeen nodes t s old new) start_is given

  abbrev Each : Scope → Type 0
  Each t = (place : ℕ) (p : Point) (at : ℕ) (n : Node) → slice_get t.graph.points place ≡ Some p → Among (nodes_of nodes p) (record { at = at; node = n }) → kind_of n ≡ kinds.Name → (value : Value) × Says nodes (start_of nodes scopes t) t place p at n value × Among new (at, value)

  pub seen_more : AreSeen nodes scopes (these ++ s ∷ []) new
  seen_more = record { only = λ at value among. which at value (adds.only at value among); each = λ t place p at n among. of_each t place p at n ((among_push these s t).0 among) }
    where
      which : (at : ℕ) (value : Value) → Among old (at, value) ⊎ IsSeenIn nodes (start_of nodes scopes s) s at value → (t : Scope) × Among (these ++ s ∷ []) t × IsSeenIn nodes (start_of nodes scopes t) t at value
      which at value (inl among) = let r = so.only at value among in (r.0, (among_push these s r.0).1 (inl r.1), r.2)
      which at value (inr seen) = (s, (among_push these s s).1 (inr refl), seen)

      this : Each s
      this place p at n is node name = adds.each place p at n is node name

      of_each : (t : Scope) (place : ℕ) (p : Point) (at : ℕ) (n : Node) → Among these t ⊎ (s ≡ t) → slice_get t.graph.points place ≡ Some p → Among (nodes_of nodes p) (record { at = at; node = n }) → kind_of n ≡ kinds.Name
          → (value : Value) × Says nodes (start_of nodes scopes t) t place p at n value × Among new (at, value)
      of_each t place p at n (inl among) is node name = let r = so.each t place p at n among is node name in (r.0, r.1, adds.kept (at, r.0) r.2)
      of_each t place p at n (inr e) is node name = subst Each e this place p at n is node name

-- ---- what is known

name_of : (o : Option Node) → name_by o ≡ true → option_map kind_of o ≡ Some kinds.Name
name_of None e = absurd cc
name_of (Some n) e = ap Some (name_kind (kind_of n) e)

of_name : (o : Option Node) → option_map kind_of o ≡ Some kinds.Name → name_by o ≡ true
of_name None e = absurd cc
of_name (Some n) e = let is : kind_of n ≡ kinds.Name = cc in ap is_name is

some_node : (o : Option Node) → option_map kind_of o ≡ Some kinds.Name → (n : Node) × (o ≡ Some n)
some_node None e = absurd cc
some_node (Some n) e = (n, refl)

module _ (root : Node) (scopes : List Scope) (gs : List (ℕ × Value)) (so : AreSeen (pre_of root) scopes scopes gs) where
  known_of : (at : ℕ) (literal : Word) → IsNameAt root at → Agrees gs at literal → IsKnown root scopes at literal
  known_of at literal name agrees = record {
    is_name = name;
    some =
        let r = so.only at agrees.some.0 agrees.some.1 in
        let s = r.0 in
        let seen = r.2 in
        (s, seen.0, seen.1, seen.2, record { unit = r.1; point = seen.3; node = seen.4.node; name = seen.4.name });
    every = λ s place p n is.
        let r = so.each s place p at n is.unit is.point is.node is.name in
        (r.1 literal).0 (agrees.every r.0 r.2);
  }

  agree_of : (at : ℕ) (literal : Word) → IsKnown root scopes at literal → Agrees gs at literal
  agree_of at literal known = record {
    some =
        let (s, place, p, n, is) = known.some in
        let r = so.each s place p at n is.unit is.point is.node is.name in
        (r.0, r.2);
    every = λ value among.
        let r = so.only at value among in
        let seen = r.2 in
        (seen.4.says literal).1 (known.every r.0 seen.0 seen.1 seen.2 (record { unit = r.1; point = seen.3; node = seen.4.node; name = seen.4.name }));
  }

  module _ (are : AreScopes root scopes) (count : ℕ) (count_is : count ≡ count_of root) (known : List Known) (settled : AreSettled (pre_of root) gs count known) where
    exact : (k : Known) → Among known k ↔ ((literal : Word) × (k.literal ≡ leaf literal) × IsKnown root scopes k.at literal)
    exact k = (
      λ among.
          let r = (settled.exact k).0 among in
          (r.1, r.2, known_of k.at r.1 (name_of (slice_get (pre_of root) k.at) r.3) r.4),
      λ (literal, is, h).
          let there = some_node (slice_get (pre_of root) k.at) h.is_name in
          let below : k.at < length (pre_of root) = slice_get_within (pre_of root) k.at there.0 there.1 in
          (settled.exact k).1 (omega (arith, below, count_is), literal, is, of_name (slice_get (pre_of root) k.at) h.is_name, agree_of k.at literal h),
    )

    pub constants_are : AreConstants root known
    constants_are = record { scopes = scopes; units = are; in_order = settled.in_order; exact = exact }

all_of : {X : Type 0} (P : X → Type 0) (xs : List X) → ((x : X) → Among xs x → P x) → All P xs
all_of P xs each k d lt = each (get_or xs k d) (among_at xs k d lt)

-- they are names
pub names_are : (root : Node) (known : List Known) → AreConstants root known → AreNames root known
names_are root known are = all_of (λ (k : Known). IsNameAt root k.at) known (λ k among. let r = (are.exact k).0 among in r.2.is_name)

-- what was seen at the points of all units, and settled, is what is known
pub known_from : (root : Node) (nodes : List Node) (scopes : List Scope) (gs : List (ℕ × Value)) (count : ℕ) (known : List Known) → nodes ≡ pre_of root → AreScopes root scopes → AreSeen nodes scopes scopes gs → count ≡ count_of root → AreSettled nodes gs count known
    → AreConstants root known
known_from root nodes scopes gs count known are units seen size settled =
    constants_are root scopes gs (subst (λ ns. AreSeen ns scopes scopes gs) are seen) units count size known (subst (λ ns. AreSettled ns gs count known) are settled)
