-- How many different items a list has, and how large a unit is.
use Rattle.std.proofs.Common.{◌≡◌, ◌≢◌, ◌↔◌, inl, inr, ℕ, ◌+◌, ◌*◌, ◌≤◌, Bool, true, false, List, [], ◌∷◌, ◌++◌, length, get_or, Decides, refl, sym, ap, ◌∙◌, subst, arith, Some}
use Rattle.std.specs.Prelude.{slice_get, filter, cond, ◌==◌}
use Rattle.std.specs.Borrow.{Bor}
use Rattle.std.specs.Cmp.{IsEquivalence}
use Rattle.std.specs.List.{flat_map, AllPairs, AllByRecursion, IsDistinct}
use Rattle.std.specs.Ordering.{is_eq, ordering_reverse}
use Rattle.std.specs.declared.cmp.Ordering.{Ordering}
use Rattle.std.specs.declared.cmp.Ordering.TheVariants.{Less, Equal, Greater}
use Rattle.std.specs.Set.{distinct_count, is_member, unique_keys}
use Rattle.std.specs.Str.{bytes_eq}
use Rattle.std.proofs.lemmas.Bool.Decides.{same_from_decides, Decides-and, Decides-eqb}
use Rattle.std.proofs.lemmas.Bool.{cases_order}
use Rattle.std.proofs.lemmas.List.{length-map}
use Rattle.std.proofs.lemmas.Map.Made.{length-from_keys, length-le_from_is_member, is_member-Decides, IsDistinct-from_AllPairs}
use Rattle.std.proofs.lemmas.Map.Keys.{IsDistinct-cons}
use Rattle.std.proofs.lemmas.Option.{slice_get-get_or}
use Rattle.std.proofs.lemmas.Slice.Eq.{bytes_eq-Decides}
use Rattle.node_tree.specs.declared.node.Node.{Node}
use Rattle.node_tree.specs.declared.span.Span.{Span}
use Rattle.node_tree.specs.Span.{span_cmp}
use Rattle.node_tree.specs.Tree.{pre_of}
use Rattle.node_tree.proofs.Orders.{span_order}
use Rattle.graph_form.specs.declared.graph.Graph.{Graph}
use Rattle.graph_form.specs.declared.graph.Point.{Point}
use Rattle.graph_form.specs.declared.graph.Role.{Role}
use Rattle.graph_form.specs.declared.graph.Role.TheVariants as roles
use Rattle.graph_form.specs.Sets.{Among}
use Rattle.graph_form.proofs.Amongs.{among_app, among_at, among_place}
use Rattle.flow_graph.specs.Keys.{role_at}
use Rattle.flow_graph.specs.Units.{points_of, Goes, IsGraphOf, role_place, IsPointBefore}
use Rattle.taint_form.specs.Expressions.{same_span, has_span}
use Rattle.taint_tables.specs.declared.census.Census.{Census}
use Rattle.taint_tables.specs.declared.sets.TaintSets.{TaintSets}
use Rattle.taint_tables.specs.Censuses.{IsCensus, texts_of}
use Rattle.taint_flow.specs.Sizes.{same_point, names_of, sources_of, size_of}
use Rattle.taint_tables.specs.Names.{names_at, names_among, spans_at, spans_among, sources_among}
use Rattle.taint_plan.proofs.Below.{among_flat}

module _ {K : Type 0} (eq : K → K → Bool) (same : (a b : K) → Decides (eq a b) (a ≡ b)) where
  laws : IsEquivalence eq
  laws = record {
    refl = λ x. (same x x).1 refl;
    symm = λ x y. same_from_decides (eq x y) (eq y x) (same x y) (λ e. sym ((same y x).0 e), λ e. (same y x).1 (sym e));
    congr = λ x y z e. ap (λ w. eq w z) ((same x y).0 e);
  }

  member_is : (xs : List K) (q : K) → Decides (is_member eq xs q) (Among xs q)
  member_is xs q =
      let d = is_member-Decides same xs q in (
        λ e. (let (i, lt, at) = d.0 e in subst (λ x. Among xs x) at (among_at xs i q lt)),
        λ among. d.1 (among_place q xs q among),
      )

  apart : (x : K) (ks : List K) → ((y : K) → Among ks y → eq x y ≡ false) → AllByRecursion (λ y. eq x y ≡ false) ks
  apart x [] each = tt
  apart x (y ∷ ys) each = (each y (inl refl), apart x ys (λ z there. each z (inr there)))

  unique_within : (xs : List K) (q : K) → Among (unique_keys eq xs) q → Among xs q
  unique_within [] q = λ none. absurd none
  unique_within (x ∷ xs) q = by (unique_within xs q) (is_member eq xs x)
    where
      by : (Among (unique_keys eq xs) q → Among xs q) → (b : Bool) → Among (cond b (unique_keys eq xs) (x ∷ unique_keys eq xs)) q → Among (x ∷ xs) q
      by later true there = inr (later there)
      by later false (inl e) = inl e
      by later false (inr there) = inr (later there)

  none_distinct : IsDistinct eq []
  unfolding IsDistinct
  none_distinct = tt

  unique_once : (xs : List K) → IsDistinct eq (unique_keys eq xs)
  unique_once [] = none_distinct
  unique_once (x ∷ xs) = by (unique_once xs) (is_member eq xs x) refl
    where
      other : is_member eq xs x ≡ false → (y : K) → Among (unique_keys eq xs) y → (b : Bool) → eq x y ≡ b → b ≡ false
      other out y there false is = refl
      other out y there true is = sym ((member_is xs x).1 (subst (λ z. Among xs z) (sym ((same x y).0 is)) (unique_within xs y there))) ∙ out

      by : IsDistinct eq (unique_keys eq xs) → (b : Bool) → is_member eq xs x ≡ b → IsDistinct eq (cond b (unique_keys eq xs) (x ∷ unique_keys eq xs))
      by later true is = later
      by later false out = IsDistinct-cons eq x (unique_keys eq xs) (apart x (unique_keys eq xs) (λ y there. other out y there (eq x y) refl)) later

  -- a list has at most as many different items as a list that has them all is long
  pub counted_within : (xs ys : List K) → ((x : K) → Among xs x → Among ys x) → distinct_count eq xs ≤ length ys
  counted_within xs ys all = length-le_from_is_member laws (unique_keys eq xs) ys (unique_once xs) (λ q is. (member_is ys q).1 (all q (unique_within xs q ((member_is (unique_keys eq xs) q).0 is))))

  -- items that stand there once each are as many as the different items of a list with the same ones
  pub counted : (ns xs : List K) → ((i j : ℕ) (x : K) → slice_get ns i ≡ Some x → slice_get ns j ≡ Some x → i ≡ j) → ((x : K) → Among ns x ↔ Among xs x) → length ns ≡ distinct_count eq xs
  counted ns xs once both = length-from_keys laws ns xs (IsDistinct-from_AllPairs same ns apart) (λ q. same_from_decides (is_member eq ns q) (is_member eq xs q) (member_is ns q) (λ e. (both q).1 ((member_is xs q).0 e), λ a. (member_is xs q).1 ((both q).0 a)))
    where
      apart : AllPairs (λ x y. x ≢ y) ns
      apart i j d lt less e =
          let first = slice_get-get_or ns i d (omega (arith, lt, less)) in
          let second = slice_get-get_or ns j d less in
          let q = once i j (get_or ns i d) first (second ∙ ap Some (sym e)) in
          omega (arith, q, lt)

is_equal : (o : Ordering) → is_eq o ≡ true → o ≡ Equal
is_equal Less e = absurd cc
is_equal Equal e = refl
is_equal Greater e = absurd cc

pub spans_tell : (a b : Span) → Decides (same_span a b) (a ≡ b)
spans_tell a b = (λ e. span_order.same a b (is_equal (span_cmp a b) e), λ e. subst (λ x. same_span a x ≡ true) e (itself a))
  where
    turned : (o : Ordering) → o ≡ ordering_reverse o → is_eq o ≡ true
    turned Less e = absurd cc
    turned Equal e = refl
    turned Greater e = absurd cc

    itself : (x : Span) → is_eq (span_cmp x x) ≡ true
    itself x = turned (span_cmp x x) (span_order.flip x x)

role_back : (r : Role) → role_at (role_place r) ≡ r
role_back roles.Entry = refl
role_back roles.Exit = refl
role_back roles.Head = refl
role_back roles.Init = refl
role_back roles.Test = refl
role_back roles.Step = refl

pub points_tell : (a b : Point) → Decides (same_point a b) (a ≡ b)
points_tell a b =
    let d = Decides-and (a.node == b.node) (role_place a.role == role_place b.role) (Decides-eqb a.node b.node) (Decides-eqb (role_place a.role) (role_place b.role)) in (
      λ e.
          let (node, place) = d.0 e in
          let role : a.role ≡ b.role = sym (role_back a.role) ∙ ap role_at place ∙ role_back b.role in
          λ i. record { node = node i; role = role i },
      λ e. d.1 (ap (λ (p : Point). p.node) e, ap (λ (p : Point). role_place p.role) e),
    )

-- ---- a unit

-- a graph has as many points as its unit has different ones
pub points_counted : (root : Node) (unit : ℕ) (To : Point → Point → Type 0) (graph : Graph) → IsGraphOf (points_of root unit) To graph → length graph.points ≡ distinct_count same_point (points_of root unit)
points_counted root unit To graph is = counted same_point points_tell graph.points (points_of root unit) once is.points
  where
    never : (p : Point) → IsPointBefore p p → ⊥
    never p (inl less) = omega (arith, less)
    never p (inr (same, less)) = omega (arith, less)

    once : (i j : ℕ) (p : Point) → slice_get graph.points i ≡ Some p → slice_get graph.points j ≡ Some p → i ≡ j
    once i j p first second = elim (cases_order i j) [
      | inl e ↦ e
      | inr other ↦ elim other [
        | inl less ↦ absurd (never p (is.points_order i j p p less first second))
        | inr more ↦ absurd (never p (is.points_order j i p p more second first))
      ]
    ]

-- what the same points have, before something else
flat_same : {X Y : Type 0} (F : X → List Y) (ps qs : List X) (rest : List Y) → ((p : X) → Among ps p → Among qs p) → (y : Y) → Among (flat_map F ps ++ rest) y → Among (flat_map F qs ++ rest) y
flat_same F ps qs rest same y among = (among_app (flat_map F qs) rest y).1 (elim ((among_app (flat_map F ps) rest y).0 among) [
  | inl some ↦ inl (let (p, there, has) = (among_flat F ps y).0 some in (among_flat F qs y).1 (p, same p there, has))
  | inr other ↦ inr other
])

-- those of a part are those of all that pass the test
pub among_filter : {X : Type 0} (test : X → Bool) (xs : List X) (x : X) → Among (filter test xs) x ↔ (Among xs x × (test x ≡ true))
among_filter test [] x = (λ none. absurd none, λ h. absurd h.0)
among_filter test (y ∷ ys) x = by (among_filter test ys x) (test y) refl
  where
    by : Among (filter test ys) x ↔ (Among ys x × (test x ≡ true)) → (b : Bool) → test y ≡ b → Among (cond b (y ∷ filter test ys) (filter test ys)) x ↔ (Among (y ∷ ys) x × (test x ≡ true))
    by below true e = (
      λ h. elim h [ inl q ↦ (inl q, ap test (sym q) ∙ e) | inr more ↦ (let r = below.0 more in (inr r.0, r.1)) ],
      λ h. elim h.0 [ inl q ↦ inl q | inr more ↦ inr (below.1 (more, h.1)) ],
    )
    by below false e = (
      λ more. (let r = below.0 more in (inr r.0, r.1)),
      λ h. elim h.0 [ inl q ↦ absurd (let u : true ≡ false = sym h.1 ∙ ap test (sym q) ∙ e in cc) | inr more ↦ below.1 (more, h.1) ],
    )

module _ (root : Node) (unit : ℕ) (graph : Graph) (is : IsGraphOf (points_of root unit) (Goes root unit) graph) where
  names_same : (n : List ℕ) → Among (names_among (pre_of root) unit graph.points) n ↔ Among (names_of root unit) n
  names_same n = (flat_same (names_at (pre_of root)) graph.points (points_of root unit) _ (λ p. (is.points p).0) n, flat_same (names_at (pre_of root)) (points_of root unit) graph.points _ (λ p. (is.points p).1) n)

  pub spans_same : (s : Span) → Among (spans_among (pre_of root) unit graph.points) s ↔ Among (spans_among (pre_of root) unit (points_of root unit)) s
  spans_same s = (flat_same (spans_at (pre_of root)) graph.points (points_of root unit) _ (λ p. (is.points p).0) s, flat_same (spans_at (pre_of root)) (points_of root unit) graph.points _ (λ p. (is.points p).1) s)

  -- the sources at the points of the graph are those of the unit
  pub sources_same : (sources : List Span) (s : Span) → Among (sources_among (pre_of root) unit graph.points sources) s ↔ Among (sources_among (pre_of root) unit (points_of root unit) sources) s
  sources_same sources s =
      let a = among_filter (has_span sources) (spans_among (pre_of root) unit graph.points) s in
      let b = among_filter (has_span sources) (spans_among (pre_of root) unit (points_of root unit)) s in (
        λ h. (let r = a.0 h in b.1 ((spans_same s).0 r.0, r.1)),
        λ h. (let r = b.0 h in a.1 ((spans_same s).1 r.0, r.1)),
      )

  module _ (sources : List Span) (census : Census) (has : IsCensus (pre_of root) unit graph.points sources census) where
    -- the names of a census are as many as the different names of the unit
    pub names_counted : length census.names.keys.items ≡ distinct_count bytes_eq (names_of root unit)
    names_counted = sym (length-map census.names.keys.items (λ (key : Bor (List ℕ)). key.now)) ∙ counted bytes_eq bytes_eq-Decides (texts_of census) (names_of root unit) once both
      where
        once : (i j : ℕ) (n : List ℕ) → slice_get (texts_of census) i ≡ Some n → slice_get (texts_of census) j ≡ Some n → i ≡ j
        once i j n first second = let q : Some i ≡ Some j = sym ((has.numbered.names n i).1 first) ∙ (has.numbered.names n j).1 second in cc

        both : (n : List ℕ) → Among (texts_of census) n ↔ Among (names_of root unit) n
        both n = (λ h. (names_same n).0 ((has.has_names n).0 h), λ h. (has.has_names n).1 ((names_same n).1 h))

    pub sources_counted : length census.sources.keys.items ≡ distinct_count same_span (sources_among (pre_of root) unit (points_of root unit) sources)
    sources_counted = counted same_span spans_tell census.sources.keys.items (sources_among (pre_of root) unit (points_of root unit) sources) once both
      where
        once : (i j : ℕ) (s : Span) → slice_get census.sources.keys.items i ≡ Some s → slice_get census.sources.keys.items j ≡ Some s → i ≡ j
        once i j s first second = let q : Some i ≡ Some j = sym ((has.numbered.sources s i).1 first) ∙ (has.numbered.sources s j).1 second in cc

        both : (s : Span) → Among census.sources.keys.items s ↔ Among (sources_among (pre_of root) unit (points_of root unit) sources) s
        both s = (λ h. (sources_same sources s).0 ((has.has_sources s).0 h), λ h. (has.has_sources s).1 ((sources_same sources s).1 h))

  -- the size of the unit, by its census
  pub size_is : (sets : TaintSets) (census : Census) → IsCensus (pre_of root) unit graph.points sets.sources census → size_of root unit sets ≡ length graph.points * (length census.names.keys.items * length census.sources.keys.items + 1)
  size_is sets census has =
      let p = points_counted root unit (Goes root unit) graph is in
      let n = names_counted sets.sources census has in
      let s = sources_counted sets.sources census has in
      ap (λ x. x * (distinct_count bytes_eq (names_of root unit) * distinct_count same_span (sources_of root unit sets) + 1)) (sym p)
      ∙ ap (λ x. length graph.points * (x * distinct_count same_span (sources_of root unit sets) + 1)) (sym n)
      ∙ ap (λ x. length graph.points * (length census.names.keys.items * x + 1)) (sym s)

  -- the same with no sources
  pub size_alone : (sets : TaintSets) → sets.sources ≡ [] → size_of root unit sets ≡ length graph.points * (0 * 0 + 1)
  size_alone sets none =
      let p = points_counted root unit (Goes root unit) graph is in
      let s : distinct_count same_span (sources_of root unit sets) ≡ 0 = ap (λ xs. distinct_count same_span (sources_among (pre_of root) unit (points_of root unit) xs)) none ∙ ap (distinct_count same_span) (no_sources (spans_among (pre_of root) unit (points_of root unit))) in
      ap (λ x. x * (distinct_count bytes_eq (names_of root unit) * distinct_count same_span (sources_of root unit sets) + 1)) (sym p)
      ∙ ap (λ x. length graph.points * (distinct_count bytes_eq (names_of root unit) * x + 1)) s
      ∙ ap (λ x. length graph.points * (x + 1)) (let z : distinct_count bytes_eq (names_of root unit) * 0 ≡ 0 * 0 = omega arith in z)
    where
      no_sources : (xs : List Span) → filter (has_span []) xs ≡ []
      no_sources [] = refl
      no_sources (x ∷ xs) = no_sources xs
