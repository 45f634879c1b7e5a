-- The members of a pattern stand at places of the file's text.
use Rattle.std.proofs.Common.{◌≡◌, ℕ, suc, List, [], ◌∷◌, ◌++◌, ◌⊎◌, inl, inr, ◌-◌, take, drop, map, refl, sym, subst, Bool, true, false, cond, not}
use Rattle.std.specs.Prelude.{remove, All, None, Some, Result, Ok, Err, IfOk}
use Rattle.std.specs.Ordering.{is_lt}
use Rattle.std.specs.Str.{IsCharBoundary}
use Rattle.std.specs.List.{flat_map}
use Rattle.std.proofs.lemmas.List.Concat.{flat_map-cons}
use Rattle.std.proofs.lemmas.List.Elements.{All-nil, All-cons, All-head, All-tail, All-append, All-take, All-drop, All-filter, All-weaker}
use Rattle.node_tree.specs.declared.node.Node.{Node, Node-F, roll-Node, out-roll-Node, ind-Node}
use Rattle.node_tree.specs.declared.span.Span.{Span}
use Rattle.node_tree.specs.declared.view.Pattern.{Pattern}
use Rattle.node_tree.specs.declared.view.Shape.{Shape}
use Rattle.node_tree.specs.declared.view.Shape.TheVariants as shapes
use Rattle.node_tree.specs.Tree.{kind_of, text_of, kids_of, span_of, pre_of}
use Rattle.node_tree.specs.Blocks.{is_block}
use Rattle.node_tree.specs.Span.{LiesIn}
use Rattle.node_tree.specs.Spans.{SpansLieIn}
use Rattle.node_tree.proofs.Trees.{pre_is}
use Rattle.meta_bind.specs.declared.bound.Bound.{Bound}
use Rattle.meta_bind.specs.Bounds.{name_cmp, with_bound}
use Rattle.meta_bind.specs.Places.{EndsLieIn}
use Rattle.tree_match.specs.declared.leaf.Leaf.{Leaf}
use Rattle.tree_match.specs.declared.leaf.Leaf.TheVariants.{Full, Crowded}
use Rattle.node_match.specs.Sets.{Among}
use Rattle.node_match.specs.Free.{Part, parts_of}
use Rattle.node_match.specs.Orders.{asked_of, is_named, named_of, unnamed_of, named_at, unnamed_at, all_asked}
use Rattle.node_match.specs.Relation.{end_of, run_span, bound_by, Binds, fresh, again, Matches, same_node, known_literal, known_string, wildcard, metavariable, some_string, deep, nodes_of, MatchesKids, in_order, choosing, MatchesArguments, arguments, MatchesKid, by_itself, as_arguments, MatchesChoice, no_choice, choice, MatchesList, both_empty, head_and_rest, free_and_rest, dots, named_dots}
use Rattle.node_tree.specs.Numbers.{root_of}
use Rattle.tree_match.specs.Members.{Member, MemberAt, MemberRun, MemberOf, IsMember, KnownTree, kids_between, range_of, blocks_at, known_to}
use Rattle.node_tree.specs.declared.known.Known.{Known}
use Rattle.node_tree.specs.Numbers.{Numbered, kids_at, pre_at}
use Rattle.node_match.proofs.Numbering.{kids_nodes}
use Rattle.node_match.proofs.Sets.{among_at}
use Rattle.tree_match.proofs.Pres.{pre_nodes}
use Rattle.tree_match.specs.Leaf.{IsLeaf}
use Rattle.tree_match.specs.Placed.{IsPlaced, IsLeafPlaced}

-- ---- what holds of all items

module _ {X : Type 0} (P : X → Type 0) where
  pub all_among : (xs : List X) (x : X) → All P xs → Among xs x → P x
  all_among [] x all h = elim h [ ]
  all_among (y ∷ ys) x all h = at h (λ k. all_among ys x (All-tail P y ys all) k)
    where
      at : (y ≡ x) ⊎ Among ys x → (Among ys x → P x) → P x
      at (inl e) rest = subst P e (All-head P y ys all)
      at (inr k) rest = rest k

  pub among_all : (xs : List X) → ((x : X) → Among xs x → P x) → All P xs
  among_all [] each = All-nil P
  among_all (x ∷ xs) each = All-cons P x xs (each x (inl refl)) (among_all xs (λ y h. each y (inr h)))

  all_front : (xs ys : List X) → All P (xs ++ ys) → All P xs
  all_front [] ys all = All-nil P
  all_front (x ∷ xs) ys all = All-cons P x xs (All-head P x (xs ++ ys) all) (all_front xs ys (All-tail P x (xs ++ ys) all))

  all_rest : (xs ys : List X) → All P (xs ++ ys) → All P ys
  all_rest [] ys all = all
  all_rest (x ∷ xs) ys all = all_rest xs ys (All-tail P x (xs ++ ys) all)

module _ (text : List ℕ) where
  -- ---- the nodes of a tree

  abbrev Lies : Node → Type 0
  Lies n = SpansLieIn text n

  abbrev SpanLies : Node → Type 0
  SpanLies n = LiesIn text (span_of n)

  abbrev Ends : Node → Type 0
  Ends n = EndsLieIn text (span_of n)

  opened : (n : Node) → Lies n → All SpanLies (n ∷ flat_map pre_of (kids_of n))
  opened n lies = let P : List Node → Type 0 = All SpanLies in subst P (pre_is n) lies

  ends_lie : (n : Node) → Lies n → Ends n
  ends_lie n lies = let l = All-head SpanLies n (flat_map pre_of (kids_of n)) (opened n lies) in (l.begins, l.ends)

  trees_lie : (ns : List Node) → All SpanLies (flat_map pre_of ns) → All Lies ns
  trees_lie [] all = All-nil Lies
  trees_lie (n ∷ ns) all =
      let P : List Node → Type 0 = All SpanLies in
      let both = subst P (flat_map-cons pre_of n ns) all in
      All-cons Lies n ns (all_front SpanLies (pre_of n) (flat_map pre_of ns) both) (trees_lie ns (all_rest SpanLies (pre_of n) (flat_map pre_of ns) both))

  pub kids_lie : (n : Node) → Lies n → All Lies (kids_of n)
  kids_lie n lies = trees_lie (kids_of n) (All-tail SpanLies n (flat_map pre_of (kids_of n)) (opened n lies))

  -- so it is with each node below
  abbrev Below : Node → Type 0
  Below n = Lies n → All Lies (pre_of n)

  below_kids : (ns : List ((n : Node) × Below n)) → All Lies (map (λ e. e.0) ns) → All Lies (flat_map pre_of (map (λ e. e.0) ns))
  below_kids [] all = All-nil Lies
  below_kids (n ∷ ns) all =
      let ms : List Node = map (λ e. e.0) ns in
      let P : List Node → Type 0 = All Lies in
      subst P (sym (flat_map-cons pre_of n.0 ms)) (All-append Lies (pre_of n.0) (flat_map pre_of ms) (n.1 (All-head Lies n.0 ms all)) (below_kids ns (All-tail Lies n.0 ms all)))

  nodes_lie : (n : Node) → Below n
  nodes_lie = ind-Node Below (λ x y is lies.
      let n = roll-Node x in
      let P : List Node → Type 0 = All Lies in
      let Q : List Node → Type 0 = λ ks. All Lies ks → All Lies (flat_map pre_of ks) in
      let R : Node-F Node → Type 0 = λ z. All Lies z.kids → All Lies (flat_map pre_of z.kids) in
      let kids : R (record { kind = x.kind; text = x.text; kids = kids_of n; span = x.span }) = subst R (sym (out-roll-Node x)) (subst R is (below_kids y.kids)) in
      subst P (sym (pre_is n)) (All-cons Lies n (flat_map pre_of (kids_of n)) lies (kids (kids_lie n lies))))

  -- ---- runs

  run_ends : (n : Node) (ns : List Node) → IsCharBoundary text (span_of n).to → All Ends ns → IsCharBoundary text (end_of n ns)
  run_ends n [] here all = here
  run_ends n (m ∷ ms) here all = run_ends m ms (All-head Ends m ms all).1 (All-tail Ends m ms all)

  run_lies : (h : Node) (ns : List Node) → Ends h → All Ends ns → EndsLieIn text (run_span h ns)
  run_lies h [] holder all = (holder.0, holder.0)
  run_lies h (n ∷ ns) holder all = ((All-head Ends n ns all).0, run_ends n ns (All-head Ends n ns all).1 (All-tail Ends n ns all))

  kids_run_lies : (h : Node) (ns : List Node) → Lies h → All Lies ns → EndsLieIn text (run_span h ns)
  kids_run_lies h ns lies all = run_lies h ns (ends_lie h lies) (All-weaker Lies Ends ends_lie ns all)

  -- ---- bindings

  abbrev BoundLies : Bound → Type 0
  BoundLies b = EndsLieIn text b.span

  abbrev AreBound : List Bound → Type 0
  AreBound b = All BoundLies b

  one_more : (x : Bound) (bs : List Bound) → BoundLies x → AreBound bs → AreBound (with_bound x bs)
  one_more x [] lies all = All-cons BoundLies x [] lies all
  one_more x (c ∷ cs) lies all = at (is_lt (name_cmp x.name c.name)) (one_more x cs lies (All-tail BoundLies c cs all))
    where
      at : (t : Bool) → AreBound (with_bound x cs) → AreBound (cond t (x ∷ c ∷ cs) (c ∷ with_bound x cs))
      at true rest = All-cons BoundLies x (c ∷ cs) lies all
      at false rest = All-cons BoundLies c (with_bound x cs) (All-head BoundLies c cs all) rest

  binds_lies : (h : Node) (name : List ℕ) (run : List Node) (b c : List Bound) → EndsLieIn text (run_span h run) → AreBound b → Binds h name run b c → AreBound c
  binds_lies h name run b _ lies all (fresh none) = one_more (bound_by h name run) b lies all
  binds_lies h name run b _ lies all (again old is same) = all

  -- ---- nodes with numbers

  abbrev LiesAt : Numbered → Type 0
  LiesAt s = Lies s.node

  lift : (ss : List Numbered) → All Lies (nodes_of ss) → All LiesAt ss
  lift [] all = All-nil LiesAt
  lift (s ∷ ss) all = All-cons LiesAt s ss (All-head Lies s.node (nodes_of ss) all) (lift ss (All-tail Lies s.node (nodes_of ss) all))

  lower : (ss : List Numbered) → All LiesAt ss → All Lies (nodes_of ss)
  lower [] all = All-nil Lies
  lower (s ∷ ss) all = All-cons Lies s.node (nodes_of ss) (All-head LiesAt s ss all) (lower ss (All-tail LiesAt s ss all))

  kids_lie_at : (s : Numbered) → Lies s.node → All LiesAt (kids_at s)
  kids_lie_at s lies = let P : List Node → Type 0 = All Lies in lift (kids_at s) (subst P (sym (kids_nodes s)) (kids_lie s.node lies))

  pre_lie_at : (s : Numbered) → Lies s.node → All LiesAt (pre_at s)
  pre_lie_at s lies = let P : List Node → Type 0 = All Lies in lift (pre_at s) (subst P (sym (pre_nodes s)) (nodes_lie s.node lies))

  -- ---- matches

  mutual
    one_bound : (C : List Known) (p : Node) (n : Numbered) (b c : List Bound) → Matches C p n b c → Lies n.node → AreBound b → AreBound c
    one_bound C p n b c (same_node r k t x) lies all = kids_bound C p n b c x lies all
    one_bound C p n b _ (known_literal l r is h e) lies all = all
    one_bound C p n b _ (wildcard r w t) lies all = all
    one_bound C p n b c (metavariable r w t x) lies all =
        binds_lies n.node (text_of p) (n.node ∷ []) b c (kids_run_lies n.node (n.node ∷ []) lies (All-cons Lies n.node [] lies (All-nil Lies))) all x
    one_bound C p n b _ (some_string r s) lies all = all
    one_bound C p n b _ (known_string l r h k) lies all = all
    one_bound C p n b c (deep q m r k e among x) lies all = one_bound C q m b c x (all_among LiesAt (pre_at n) m (pre_lie_at n lies) among) all

    kids_bound : (C : List Known) (p : Node) (n : Numbered) (b c : List Bound) → MatchesKids C p n b c → Lies n.node → AreBound b → AreBound c
    kids_bound C p n b c (in_order _ x) lies all = list_bound C n (parts_of p) (kids_at n) b c x lies (kids_lie_at n lies) all
    kids_bound C p n b c (choosing {rest = rest} _ _ x) lies all = choice_bound C (asked_of (kids_of p)) (kids_at n) rest b c x (kids_lie_at n lies) all

    choice_bound : (C : List Known) (ps : List Node) (ns rest : List Numbered) (b c : List Bound) → MatchesChoice C ps ns rest b c → All LiesAt ns → AreBound b → AreBound c
    choice_bound C _ ns _ b _ no_choice kids all = all
    choice_bound C (p ∷ ps) ns rest b c (choice {c = d} k n lt is x y) kids all =
        choice_bound C ps (remove ns k) rest d c y (All-append LiesAt (take k ns) (drop (suc k) ns) (All-take LiesAt k ns kids) (All-drop LiesAt (suc k) ns kids))
        (one_bound C p n b d x (all_among LiesAt ns n kids (among_at ns k n lt is)) all)

    kid_bound : (C : List Known) (h : Numbered) (p : Node) (n : Numbered) (b c : List Bound) → MatchesKid C h p n b c → Lies n.node → AreBound b → AreBound c
    kid_bound C h p n b c (by_itself _ x) lies all = one_bound C p n b c x lies all
    kid_bound C h p n b c (as_arguments _ x) lies all = arguments_bound C p n b c x lies all

    arguments_bound : (C : List Known) (p : Node) (n : Numbered) (b d : List Bound) → MatchesArguments C p n b d → Lies n.node → AreBound b → AreBound d
    arguments_bound C p n b d (arguments {rest = rest} {c = c} _ _ x _ y) lies all =
        let kids = kids_lie_at n lies in
        choice_bound C (named_of (kids_of p)) (named_at (kids_at n)) rest c d y (All-filter (λ (k : Numbered). is_named k.node) LiesAt (kids_at n) kids)
        (list_bound C n (all_asked (unnamed_of (kids_of p))) (unnamed_at (kids_at n)) b c x lies (All-filter (λ (k : Numbered). not (is_named k.node)) LiesAt (kids_at n) kids) all)

    list_bound : (C : List Known) (h : Numbered) (ps : List Part) (ns : List Numbered) (b c : List Bound) → MatchesList C h ps ns b c → Lies h.node → All LiesAt ns → AreBound b → AreBound c
    list_bound C h _ _ b _ both_empty lies kids all = all
    list_bound C h (Some p ∷ ps) (n ∷ ns) b c (head_and_rest {c = d} x y) lies kids all =
        list_bound C h ps ns d c y lies (All-tail LiesAt n ns kids) (kid_bound C h p n b d x (All-head LiesAt n ns kids) all)
    list_bound C h (None ∷ ps) (n ∷ ns) b c (free_and_rest y) lies kids all = list_bound C h ps ns b c y lies (All-tail LiesAt n ns kids) all
    list_bound C h (Some p ∷ ps) ns b c (dots k r y) lies kids all = list_bound C h ps (drop k ns) b c y lies (All-drop LiesAt k ns kids) all
    list_bound C h (Some p ∷ ps) ns b c (named_dots {c = d} k r x y) lies kids all =
        list_bound C h ps (drop k ns) d c y lies (All-drop LiesAt k ns kids)
        (binds_lies h.node (text_of p) (nodes_of (take k ns)) b d (kids_run_lies h.node (nodes_of (take k ns)) lies (lower (take k ns) (All-take LiesAt k ns kids))) all x)

  -- ---- members

  at_range : (s t : Span) → s ≡ t → EndsLieIn text t → EndsLieIn text s
  at_range s t e lies = let P : Span → Type 0 = EndsLieIn text in subst P (sym e) lies

  node_member : (C : List Known) (p : Node) (n : Numbered) (m : Member) → Lies n.node → MemberAt C p n m → IsPlaced text m
  node_member C p n m lies (may, is, x) = (at_range m.0 (span_of n.node) is (ends_lie n.node lies), one_bound C p n [] m.1 x lies (All-nil BoundLies))

  run_member : (C : List Known) (p : Node) (h : Numbered) (m : Member) → Lies h.node → MemberRun C p h m → IsPlaced text m
  run_member C p h m lies r =
      let ns = kids_between h r.from r.end in
      let kids = All-take LiesAt (r.end - r.from) (drop r.from (kids_at h)) (All-drop LiesAt r.from (kids_at h) (kids_lie_at h lies)) in (
        at_range m.0 (range_of h ns) r.range (kids_run_lies h.node (nodes_of ns) lies (lower ns kids)),
        list_bound C h (parts_of p) ns [] m.1 r.matches lies kids (All-nil BoundLies),
      )

  member_of : (C : List Known) (s : Shape) (p tree : Node) (m : Member) → Lies tree → MemberOf C s p tree m → IsPlaced text m
  member_of C shapes.Expr p tree m lies (n, among, x) = node_member C p n m (all_among LiesAt (pre_at (root_of tree)) n (pre_lie_at (root_of tree) lies) among) x
  member_of C shapes.Run p tree m lies (h, among, x) =
      run_member C p h m (all_among LiesAt (blocks_at (root_of tree)) h (All-filter (λ (n : Numbered). is_block (kind_of n.node)) LiesAt (pre_at (root_of tree)) (pre_lie_at (root_of tree) lies)) among) x

  pub member_placed : (pattern : Pattern) (file : KnownTree) (m : Member) → SpansLieIn text file.tree → IsMember pattern file m → IsPlaced text m
  member_placed pattern file m lies x = member_of (known_to pattern file.known) pattern.shape pattern.tree file.tree m lies x

  leaf_placed : (pattern : Pattern) (file : KnownTree) (leaf : Leaf) → SpansLieIn text file.tree → IsLeaf (IsMember pattern file) leaf → IsLeafPlaced text leaf
  leaf_placed pattern file (Full members) lies whole = among_all (IsPlaced text) members (λ m h. member_placed pattern file m lies ((whole.0.exact m).0 h))
  leaf_placed pattern file Crowded lies more = tt

  pub leaves_placed : {E : Type 0} (pattern : Pattern) (file : KnownTree) (r : Result Leaf E) → SpansLieIn text file.tree → IfOk r (λ leaf. IsLeaf (IsMember pattern file) leaf) → IfOk r (λ leaf. IsLeafPlaced text leaf)
  leaves_placed pattern file (Ok leaf) lies exact = leaf_placed pattern file leaf lies exact
  leaves_placed pattern file (Err e) lies exact = tt
