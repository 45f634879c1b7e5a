-- The names that are tainted along a path are those whose facts are brought along it.
use Rattle.std.proofs.Common.{◌≡◌, ◌⊎◌, ◌↔◌, inl, inr, ℕ, ◌<◌, List, [], ◌∷◌, refl, sym, ap, ◌∙◌, subst, arith}
use Rattle.std.specs.Prelude.{Option, Some, None}
use Rattle.node_tree.specs.declared.node.Node.{Node}
use Rattle.node_tree.specs.declared.span.Span.{Span}
use Rattle.node_tree.specs.Numbers.{Numbered}
use Rattle.node_tree.specs.Tree.{pre_of, text_of, span_of}
use Rattle.graph_form.specs.declared.graph.Point.{Point}
use Rattle.graph_form.specs.Sets.{Among}
use Rattle.point_nodes.specs.Tops.{nodes_of}
use Rattle.assignments.specs.declared.assignment.Reach.TheVariants as reaches
use Rattle.assignments.specs.Assignments.{assigned_of}
use Rattle.assignments.specs.Seen.{Named, Assigned}
use Rattle.assignments.specs.Targets.{targets}
use Rattle.taint_tables.specs.declared.sets.TaintSets.{TaintSets}
use Rattle.taint_tables.specs.declared.sets.Carry.{Carry}
use Rattle.taint_tables.specs.Numbers.{Numbering}
use Rattle.taint_tables.specs.Taints.{IsFactOf, Taints}
use Rattle.taint_plan.specs.Facts.{TaintsValue, AfterFact, AfterFacts, Same, PointFact, Brought}
use Rattle.taint_plan.specs.Spreading.{Tainted, Gives, AfterNode, AfterNodes, After, IsExpressionAt}
use Rattle.flow_graph.specs.Units.{points_of}
use Rattle.taint_flow.specs.Taint.{AtEntry, Left, IsPath}

-- the end of a path is a point of the unit
pub path_there : (root : Node) (unit : ℕ) (earlier : List Point) (p : Point) → IsPath root unit earlier p → Among (points_of root unit) p
path_there root unit [] p is = inl (sym is)
path_there root unit (last ∷ earlier) p (before, there, goes) = there

-- sources and names are told apart by their numbers, and the source has this one
pub record AreApart (numbers : Numbering) (source : Span) (number : ℕ) : Type 0 where
  pub there : numbers.source source ≡ Some number
  pub below : (s : Span) (i : ℕ) → numbers.source s ≡ Some i → i < numbers.sources
  pub spans : (s t : Span) (i : ℕ) → numbers.source s ≡ Some i → numbers.source t ≡ Some i → s ≡ t
  pub names : (n m : List ℕ) (i : ℕ) → numbers.name n ≡ Some i → numbers.name m ≡ Some i → n ≡ m

-- the name has a fact
abbrev pub IsKnown : Numbering → List ℕ → Type 0
IsKnown numbers n = (fact : ℕ) × IsFactOf numbers n fact

-- the targets of what is given a value have facts
abbrev pub AreKnown : Numbering → List Assigned → Type 0
AreKnown numbers list = (a : Assigned) → Among list a → (value : Node) → a.value ≡ Some value → (t : Named) → Among a.targets t → IsKnown numbers t.name

module _ (sets : TaintSets) (numbers : Numbering) (source : Span) (number : ℕ) (apart : AreApart numbers source number) where
  -- a fact of the source, or of a name of the set
  abbrev pub Held : (List ℕ → Type 0) → ℕ → Type 0
  Held N fact = (fact ≡ number) ⊎ ((n : List ℕ) × IsFactOf numbers n fact × N n)

  -- the names of a set are those whose facts come from facts of another set
  abbrev pub Says : (List ℕ → Type 0) → (List ℕ → Type 0) → (ℕ → ℕ → Type 0) → Type 0
  Says First N R = (n : List ℕ) → N n ↔ ((to : ℕ) × IsFactOf numbers n to × ((from : ℕ) × Held First from × R from to))

  -- sources come from themselves
  abbrev pub Keeps : (ℕ → ℕ → Type 0) → Type 0
  Keeps R = (from to : ℕ) → to < numbers.sources → R from to ↔ (to ≡ from)

  number_below : number < numbers.sources
  number_below = apart.below source number apart.there

  one_name : (n m : List ℕ) (fact : ℕ) → IsFactOf numbers n fact → IsFactOf numbers m fact → n ≡ m
  one_name n m fact (i, has, e) (k, got, f) =
      let same : k ≡ i = omega (arith, e, f) in
      apart.names n m i has (got ∙ ap (λ (z : ℕ). Some z) same)

  no_source : (n : List ℕ) (fact : ℕ) → IsFactOf numbers n fact → fact < numbers.sources → ⊥
  no_source n fact (m, has, e) lt = omega (arith, e, lt)

  -- a value is tainted by a set exactly where it is by a fact that comes from it
  module _ (First N : List ℕ → Type 0) (R : ℕ → ℕ → Type 0) (says : Says First N R) (keeps : Keeps R) where
    tainted_by : (v : Node) → Tainted sets source N v → (fact : ℕ) × Taints sets.sanitizers numbers v fact × ((from : ℕ) × Held First from × R from fact)
    tainted_by v (e, shown, inl span) =
        let has : numbers.source (span_of e) ≡ Some number = ap numbers.source span ∙ apart.there in
        (number, (e, shown, inl has), (number, inl refl, (keeps number number number_below).1 refl))
    tainted_by v (e, shown, inr (is, on)) =
        let r = (says (text_of e)).0 on in
        (r.0, (e, shown, inr (is, r.1)), r.2)

    by_tainted : (v : Node) (fact : ℕ) → Taints sets.sanitizers numbers v fact → (from : ℕ) → Held First from → R from fact → Tainted sets source N v
    by_tainted v fact (e, shown, inl has) from held turns =
        let lt = apart.below (span_of e) fact has in
        let same : fact ≡ from = (keeps from fact lt).0 turns in (
          e,
          shown,
          inl (elim held [
            | inl q ↦ apart.spans (span_of e) source number (has ∙ ap (λ (z : ℕ). Some z) (same ∙ q)) apart.there
            | inr (n, is, on) ↦ absurd (no_source n from is (omega (arith, same, lt)))
          ]),
        )
    by_tainted v fact (e, shown, inr (is, f)) from held turns = (e, shown, inr (is, (says (text_of e)).1 (fact, f, (from, held, turns))))

    pub value_is : (v : Node) → Tainted sets source N v ↔ ((fact : ℕ) × Taints sets.sanitizers numbers v fact × ((from : ℕ) × Held First from × R from fact))
    value_is v = (tainted_by v, λ (fact, taints, (from, held, turns)). by_tainted v fact taints from held turns)

    given_by : (value : Option Node) → Gives sets source N value → (fact : ℕ) × TaintsValue sets.sanitizers numbers value fact × ((from : ℕ) × Held First from × R from fact)
    given_by None none = absurd none
    given_by (Some v) t = tainted_by v t

    by_given : (value : Option Node) (fact : ℕ) → TaintsValue sets.sanitizers numbers value fact → (from : ℕ) → Held First from → R from fact → Gives sets source N value
    by_given None fact none from held turns = absurd none
    by_given (Some v) fact taints from held turns = by_tainted v fact taints from held turns

    known_target : (a : Assigned) → ((value : Node) → a.value ≡ Some value → (t : Named) → Among a.targets t → IsKnown numbers t.name) → (t : Named) → Among a.targets t → (value : Option Node) → a.value ≡ value → Gives sets source N value → IsKnown numbers t.name
    known_target a known t among None e none = absurd none
    known_target a known t among (Some v) e given = known v e t among

    -- one node more
    pub node_says : (a : Assigned) → ((value : Node) → a.value ≡ Some value → (t : Named) → Among a.targets t → IsKnown numbers t.name) → Says First (AfterNode sets source N a) (AfterFact sets.sanitizers numbers R a)
    node_says a known n = (
      λ h. elim h [
        | inl ((t, among, e), given) ↦
            let k = known_target a known t among a.value refl given in
            let g = given_by a.value given in
            let P : List ℕ → Type 0 = λ m. IsFactOf numbers m k.0 in
            (k.0, subst P e k.1, (g.2.0, g.2.1, inl ((t, among, k.1), (g.0, g.1, g.2.2))))
        | inr (on, unrenewed) ↦
            let r = (says n).0 on in
            (r.0, r.1, (r.2.0, r.2.1, inr (r.2.2, λ (renews, t, among, f, plain). unrenewed (renews, t, among, one_name t.name n r.0 f r.1, plain))))
      ],
      λ (to, f, (from, held, after)). elim after [
        | inl ((t, among, g), (fact, taints, turns)) ↦ inl ((t, among, one_name t.name n to g f), by_given a.value fact taints from held turns)
        | inr (turns, unrenewed) ↦ inr ((says n).1 (to, f, (from, held, turns)), λ (renews, t, among, e, plain). unrenewed (renews, t, among, (let P : List ℕ → Type 0 = λ m. IsFactOf numbers m to in subst P (sym e) f), plain))
      ],
    )

    pub node_keeps : (a : Assigned) → Keeps (AfterFact sets.sanitizers numbers R a)
    node_keeps a from to lt = (
      λ h. elim h [ inl ((t, among, f), v) ↦ absurd (no_source t.name to f lt) | inr (turns, unrenewed) ↦ (keeps from to lt).0 turns ],
      λ e. inr ((keeps from to lt).1 e, λ (renews, t, among, f, plain). no_source t.name to f lt),
    )

  -- the nodes of a point, one after the other
  pub nodes_say : (First N : List ℕ → Type 0) (R : ℕ → ℕ → Type 0) (list : List Assigned) → Says First N R → Keeps R → AreKnown numbers list
      → Says First (AfterNodes sets source N list) (AfterFacts sets.sanitizers numbers R list) × Keeps (AfterFacts sets.sanitizers numbers R list)
  nodes_say First N R [] says keeps known = (says, keeps)
  nodes_say First N R (a ∷ more) says keeps known =
      nodes_say First (AfterNode sets source N a) (AfterFact sets.sanitizers numbers R a) more (node_says First N R says keeps a (known a (inl refl))) (node_keeps First N R says keeps a) (λ b among. known b (inr among))

  -- nothing is done yet
  same_says : (N : List ℕ → Type 0) → ((n : List ℕ) → N n → IsKnown numbers n) → Says N N Same
  same_says N known n = (
    λ on. let k = known n on in (k.0, k.1, (k.0, inr (n, k.1, on), refl)),
    λ (to, f, (from, held, e)). elim held [
      | inl q ↦ absurd (no_source n to f (omega (arith, e, q, number_below)))
      | inr (m, g, on) ↦ (let P : ℕ → Type 0 = λ z. IsFactOf numbers m z in subst N (one_name m n to (subst P (sym e) g) f) on)
    ],
  )

  same_keeps : Keeps Same
  same_keeps from to lt = (λ e. e, λ e. e)

  one_fact : (n : List ℕ) (f g : ℕ) → IsFactOf numbers n f → IsFactOf numbers n g → f ≡ g
  one_fact n f g (i, has, e) (k, got, h) =
      let q : Some i ≡ Some k = sym has ∙ got in
      let same : i ≡ k = cc in
      omega (arith, e, h, same)

  -- a fact that isn't the one from which it comes is a name's
  abbrev Named_or : (ℕ → ℕ → Type 0) → Type 0
  Named_or R = (from to : ℕ) → R from to → (to ≡ from) ⊎ ((n : List ℕ) × IsFactOf numbers n to)

  named_after : (R : ℕ → ℕ → Type 0) (list : List Assigned) → Named_or R → Named_or (AfterFacts sets.sanitizers numbers R list)
  named_after R [] all = all
  named_after R (a ∷ more) all = named_after (AfterFact sets.sanitizers numbers R a) more (λ from to h. elim h [
    | inl ((t, among, f), v) ↦ inr (t.name, f)
    | inr (turns, unrenewed) ↦ all from to turns
  ])

  -- the names that a point may taint have facts
  pub record IsKnownAt (nodes : List Node) (p : Point) : Type 0 where
    pub assigned : AreKnown numbers (assigned_of nodes p)
    pub carried : (c : Carry) → Among sets.carries c → (t : Numbered) → IsExpressionAt (nodes_of nodes p) c.target t → (b : Named) → Among (targets reaches.Base t) b → IsKnown numbers b.name

  -- the facts are the number of the source, and those of the names of a set, which all have one
  pub record AreHeld (N : List ℕ → Type 0) (B : ℕ → Type 0) : Type 0 where
    pub held : (fact : ℕ) → B fact ↔ Held N fact
    pub known : (n : List ℕ) → N n → IsKnown numbers n

  module _ (nodes : List Node) (p : Point) (at : IsKnownAt nodes p) (N : List ℕ → Type 0) (B : ℕ → Type 0) (all : AreHeld N B) where
    says_now : Says N N Same
    says_now = same_says N all.known

    after_list : Says N (AfterNodes sets source N (assigned_of nodes p)) (AfterFacts sets.sanitizers numbers Same (assigned_of nodes p)) × Keeps (AfterFacts sets.sanitizers numbers Same (assigned_of nodes p))
    after_list = nodes_say N N Same (assigned_of nodes p) says_now same_keeps at.assigned

    abbrev Later : ℕ → Type 0
    Later to = (from : ℕ) × B from × PointFact nodes sets numbers p from to

    later_held : (to from : ℕ) → B from → PointFact nodes sets numbers p from to → Held (After nodes sets source N p) to
    later_held to from b (inl after) =
        let h = (all.held from).0 b in
        elim (named_after Same (assigned_of nodes p) (λ x y e. inl e) from to after) [
          | inl e ↦ elim ((all.held from).0 b) [
            | inl q ↦ inl (e ∙ q)
            | inr (n, f, on) ↦
                let P : ℕ → Type 0 = λ z. IsFactOf numbers n z in
                let g = subst P (sym e) f in
                inr (n, g, inl ((after_list.0 n).1 (to, g, (from, (all.held from).0 b, after))))
          ]
          | inr (n, f) ↦ inr (n, f, inl ((after_list.0 n).1 (to, f, (from, h, after))))
        ]
    later_held to from b (inr (c, among, r)) =
        let h = (all.held from).0 b in
        inr (
          r.named.name,
          r.fact,
          inr (
            c,
            among,
            record {
              place = r.place;
              stands = r.stands;
              range = r.range;
              from = r.source;
              from_is = r.source_is;
              tainted = by_tainted N N Same says_now same_keeps r.source.node from r.tainted from h refl;
              to = r.target;
              to_is = r.target_is;
              target = r.named;
              base = r.base;
              name = refl;
            },
          ),
        )

    held_later : (to : ℕ) → Held (After nodes sets source N p) to → Later to
    held_later to (inl e) = (number, (all.held number).1 (inl refl), inl ((after_list.1 number to (let P : ℕ → Type 0 = λ z. z < numbers.sources in subst P (sym e) number_below)).1 e))
    held_later to (inr (n, f, inl after)) =
        let r = (after_list.0 n).0 after in
        let P : ℕ → Type 0 = λ z. AfterFacts sets.sanitizers numbers Same (assigned_of nodes p) r.2.0 z in
        (r.2.0, (all.held r.2.0).1 r.2.1, inl (subst P (one_fact n r.0 to r.1 f) r.2.2))
    held_later to (inr (n, f, inr (c, among, k))) =
        let r = tainted_by N N Same says_now same_keeps k.from.node k.tainted in
        let H : ℕ → Type 0 = λ z. Held N z in
        let F : List ℕ → Type 0 = λ m. IsFactOf numbers m to in (
          r.0,
          (all.held r.0).1 (subst H (sym r.2.2) r.2.1),
          inr (
            c,
            among,
            record {
              place = k.place;
              stands = k.stands;
              range = k.range;
              source = k.from;
              source_is = k.from_is;
              tainted = r.1;
              target = k.to;
              target_is = k.to_is;
              named = k.target;
              base = k.base;
              fact = subst F (sym k.name) f;
            },
          ),
        )

    known_later : (n : List ℕ) → After nodes sets source N p n → IsKnown numbers n
    known_later n (inl after) = let r = (after_list.0 n).0 after in (r.0, r.1)
    known_later n (inr (c, among, k)) = subst (IsKnown numbers) k.name (at.carried c among k.to k.to_is k.target k.base)

    pub point_held : AreHeld (After nodes sets source N p) Later
    point_held = record { held = λ to. (λ (from, b, q). later_held to from b q, held_later to); known = known_later }

  module _ (root : Node) (unit : ℕ) (at : (p : Point) → Among (points_of root unit) p → IsKnownAt (pre_of root) p) (first : (n : List ℕ) → AtEntry root unit source n → IsKnown numbers n) where
    -- what is tainted along a path is what is brought along it
    pub left_held : (earlier : List Point) (p : Point) → IsPath root unit earlier p → AreHeld (Left root unit sets source earlier) (Brought root unit sets numbers source number earlier)
    left_held [] p is = record { held = λ fact. (λ h. h, λ h. h); known = first }
    left_held (last ∷ earlier) p (before, there, goes) =
        point_held (pre_of root) last (at last (path_there root unit earlier last before)) (Left root unit sets source earlier) (Brought root unit sets numbers source number earlier) (left_held earlier last before)

    -- at the end of a path a node is tainted exactly where one of its facts is brought along
    pub hit_is : (earlier : List Point) (p : Point) → IsPath root unit earlier p → (v : Node) → Tainted sets source (Left root unit sets source earlier) v ↔ ((fact : ℕ) × Taints sets.sanitizers numbers v fact × Brought root unit sets numbers source number earlier fact)
    hit_is earlier p is v =
        let N = Left root unit sets source earlier in
        let all = left_held earlier p is in
        let says = same_says N all.known in (
          λ t.
              let r = tainted_by N N Same says same_keeps v t in
              let H : ℕ → Type 0 = λ z. Held N z in
              (r.0, r.1, (all.held r.0).1 (subst H (sym r.2.2) r.2.1)),
          λ (fact, taints, b). by_tainted N N Same says same_keeps v fact taints fact ((all.held fact).0 b) refl,
        )
