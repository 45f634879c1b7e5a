-- Trees, members and leaves that begin later.
use Rattle.std.proofs.Common.{◌≡◌, ℕ, ◌+◌, ◌<◌, List, [], ◌∷◌, inl, inr, ◌↔◌, refl, sym, ap, ◌∙◌, arith}
use Rattle.std.specs.declared.cmp.Ordering.{Ordering}
use Rattle.std.specs.declared.cmp.Ordering.TheVariants.{Less, Equal, Greater}
use Rattle.std.specs.Ordering.{nat_cmp, ordering_then, MatchOrdering}
use Rattle.std.proofs.lemmas.Cmp.{ranked}
use Rattle.std.specs.Cmp.{nat_cmp_is}
use Rattle.std.specs.Cmp.Lexicographic.{slice_cmp}
use Rattle.std.proofs.lemmas.List.{length-map}
use Rattle.node_tree.specs.declared.node.Node.{Node}
use Rattle.node_tree.specs.declared.span.Span.{Span}
use Rattle.node_tree.specs.Span.{span_cmp}
use Rattle.node_tree.specs.Tree.{kids_of}
use Rattle.meta_bind.specs.declared.bound.Bound.{Bound}
use Rattle.meta_bind.specs.Bounds.{place_cmp, contents_cmp, binding_cmp}
use Rattle.tree_match.specs.declared.leaf.Leaf.{Leaf}
use Rattle.tree_match.specs.declared.leaf.Leaf.TheVariants.{Full, Crowded}
use Rattle.node_match.specs.Sets.{Among}
use Rattle.tree_match.specs.Ascending.{IsAscending}
use Rattle.tree_match.specs.Members.{Member, member_cmp}
use Rattle.tree_match.specs.Leaf.{IsLeaf}
use Rattle.piece_match.proofs.Copies.{SpanAt, Copy, copied, Copies, none_copied, more_copied, BoundsAt, MemberCopy}
use Rattle.piece_match.specs.Moved.{moved_span, moved_bound, moved_binding, moved_member, moved_members, moved_leaf, Moved, Later, Earlier}

module _ (d : ℕ) where
  mutual
    pub turned : (n m : Node) → Copy (Later d) n m → Copy (Earlier d) m n
    turned n m (copied k t s ks) = copied (sym k) (sym t) s (all_turned (kids_of n) (kids_of m) ks)

    all_turned : (ns ms : List Node) → Copies (Later d) ns ms → Copies (Earlier d) ms ns
    all_turned [] [] none_copied = none_copied
    all_turned [] (m ∷ ms) x = elim x [ ]
    all_turned (n ∷ ns) [] x = elim x [ ]
    all_turned (n ∷ ns) (m ∷ ms) (more_copied x xs) = more_copied (turned n m x) (all_turned ns ms xs)

  span_later : (s t : Span) → SpanAt (Later d) s t → t ≡ moved_span d s
  span_later s t (e, f) =
      let g : ℕ → Span = λ x. record { from = x; to = t.to } in
      let h : ℕ → Span = λ x. record { from = s.from + d; to = x } in
      ap g e ∙ ap h f

  binding_later : (bs cs : List Bound) → BoundsAt (Later d) bs cs → cs ≡ moved_binding d bs
  binding_later [] [] x = refl
  binding_later [] (c ∷ cs) x = absurd x
  binding_later (b ∷ bs) [] x = absurd x
  binding_later (b ∷ bs) (c ∷ cs) ((name, span, nodes), rest) =
      let f : List ℕ → Bound = λ x. record { name = x; span = c.span; nodes = c.nodes } in
      let g : Span → Bound = λ x. record { name = b.name; span = x; nodes = c.nodes } in
      let h : List Node → Bound = λ x. record { name = b.name; span = moved_span d b.span; nodes = x } in
      ap (λ (x : Bound). x ∷ cs) (ap f (sym name) ∙ ap g (span_later b.span c.span span) ∙ ap h (sym nodes))
      ∙ ap (λ (xs : List Bound). moved_bound d b ∷ xs) (binding_later bs cs rest)

  pub member_later : (x y : Member) → MemberCopy (Later d) x y → y ≡ moved_member d x
  member_later x y (s, b) =
      let f : Span → Member = λ z. (z, y.1) in
      let g : List Bound → Member = λ z. (moved_span d x.0, z) in
      ap f (span_later x.0 y.0 s) ∙ ap g (binding_later x.1 y.1 b)

  pub bounds_back : (bs cs : List Bound) → BoundsAt (Earlier d) bs cs → BoundsAt (Later d) cs bs
  bounds_back [] [] x = tt
  bounds_back [] (c ∷ cs) x = absurd x
  bounds_back (b ∷ bs) [] x = absurd x
  bounds_back (b ∷ bs) (c ∷ cs) ((name, span, nodes), rest) = ((sym name, span, sym nodes), bounds_back bs cs rest)

  -- ---- order

  places_moved : (x y : ℕ) → nat_cmp (x + d) (y + d) ≡ nat_cmp x y
  places_moved x y = sym (nat_cmp_is (x + d) (y + d) (nat_cmp x y) (at (nat_cmp x y) (ranked x y (nat_cmp x y) refl)))
    where
      at : (o : Ordering) → MatchOrdering o (x < y) (x ≡ y) (y < x) → MatchOrdering o (x + d < y + d) (x + d ≡ y + d) (y + d < x + d)
      at Less h = omega arith
      at Equal h = ap (λ (z : ℕ). z + d) h
      at Greater h = omega arith

  spans_moved : (s t : Span) → span_cmp (moved_span d s) (moved_span d t) ≡ span_cmp s t
  spans_moved s t =
      ap (λ (o : Ordering). ordering_then o (nat_cmp (s.to + d) (t.to + d))) (places_moved s.from t.from)
      ∙ ap (λ (o : Ordering). ordering_then (nat_cmp s.from t.from) o) (places_moved s.to t.to)

  bound_places : (bs cs : List Bound) → slice_cmp place_cmp (moved_binding d bs) (moved_binding d cs) ≡ slice_cmp place_cmp bs cs
  bound_places [] [] = refl
  bound_places [] (c ∷ cs) = refl
  bound_places (b ∷ bs) [] = refl
  bound_places (b ∷ bs) (c ∷ cs) =
      ap (λ (o : Ordering). ordering_then o (slice_cmp place_cmp (moved_binding d bs) (moved_binding d cs))) (ap (λ (o : Ordering). ordering_then (slice_cmp nat_cmp b.name c.name) o) (spans_moved b.span c.span))
      ∙ ap (λ (o : Ordering). ordering_then (place_cmp b c) o) (bound_places bs cs)

  bound_contents : (bs cs : List Bound) → slice_cmp contents_cmp (moved_binding d bs) (moved_binding d cs) ≡ slice_cmp contents_cmp bs cs
  bound_contents [] [] = refl
  bound_contents [] (c ∷ cs) = refl
  bound_contents (b ∷ bs) [] = refl
  bound_contents (b ∷ bs) (c ∷ cs) = ap (λ (o : Ordering). ordering_then (contents_cmp b c) o) (bound_contents bs cs)

  members_moved : (x y : Member) → member_cmp (moved_member d x) (moved_member d y) ≡ member_cmp x y
  members_moved x y =
      ap (λ (o : Ordering). ordering_then o (binding_cmp (moved_binding d x.1) (moved_binding d y.1))) (spans_moved x.0 y.0)
      ∙ ap (λ (o : Ordering). ordering_then (span_cmp x.0 y.0) o)
      (ap (λ (o : Ordering). ordering_then o (slice_cmp contents_cmp (moved_binding d x.1) (moved_binding d y.1))) (bound_places x.1 y.1)
      ∙ ap (λ (o : Ordering). ordering_then (slice_cmp place_cmp x.1 y.1) o) (bound_contents x.1 y.1))

  pub still_ascends : (xs : List Member) → IsAscending member_cmp xs → IsAscending member_cmp (moved_members d xs)
  still_ascends [] up = tt
  still_ascends (x ∷ []) up = tt
  still_ascends (x ∷ y ∷ ys) up = (members_moved x y ∙ up.0, still_ascends (y ∷ ys) up.1)

  -- ---- leaves

  pub among_moved : (xs : List Member) (y : Member) → Among (moved_members d xs) y ↔ Moved d (Among xs) y
  among_moved [] y = (λ h. absurd h, λ (x, e, h). absurd h)
  among_moved (z ∷ zs) y =
      let ih = among_moved zs y in (
        λ h. elim h [ inl e ↦ (z, sym e, inl refl) | inr a ↦ (let (x, e, b) = ih.0 a in (x, e, inr b)) ],
        λ (x, e, h). elim h [ inl f ↦ inl (ap (moved_member d) f ∙ sym e) | inr a ↦ inr (ih.1 (x, e, a)) ],
      )

  pub leaf_moved : (Set : Member → Type 0) (leaf : Leaf) → IsLeaf Set leaf → IsLeaf (Moved d Set) (moved_leaf d leaf)
  leaf_moved Set (Full members) (whole, few) = (
    record {
      exact = λ y. (
        λ h. (let (x, e, a) = (among_moved members y).0 h in (x, e, (whole.exact x).0 a)),
        λ (x, e, z). (among_moved members y).1 (x, e, (whole.exact x).1 z),
      );
      ordered = still_ascends members whole.ordered;
    },
    omega (arith, few, length-map members (moved_member d)),
  )
  leaf_moved Set Crowded more = (let long = more.more in record {
    some = moved_members d more.some;
    members = λ y h. (let (x, e, a) = (among_moved more.some y).0 h in (x, e, more.members x a));
    ordered = still_ascends more.some more.ordered;
    more = omega (arith, long, length-map more.some (moved_member d));
  })
