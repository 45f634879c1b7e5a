-- A pattern says the same of a tree and of its copy elsewhere, where the same is known of their names by number.
use Rattle.std.proofs.Common.{◌≡◌, ℕ, zero, suc, ◌+◌, ◌-◌, ◌<◌, ◌≤◌, List, [], ◌∷◌, ◌++◌, ◌⊎◌, inl, inr, length, length-append, take, drop, get_or, refl, sym, ap, ◌∙◌, subst, Bool, true, false, cond, arith}
use Rattle.std.specs.Prelude.{Option, None, Some, remove, filter, not}
use Rattle.std.specs.Option.{option_map}
use Rattle.std.specs.List.{flat_map}
use Rattle.std.proofs.lemmas.List.Concat.{flat_map-cons}
use Rattle.node_tree.specs.declared.node.Node.{Node}
use Rattle.node_tree.specs.declared.kind.Kind.{Kind}
use Rattle.node_tree.specs.declared.kind.Kind.TheVariants as kinds
use Rattle.node_tree.specs.declared.span.Span.{Span}
use Rattle.node_tree.specs.declared.known.Known.{Known}
use Rattle.node_tree.specs.declared.view.Shape.{Shape}
use Rattle.node_tree.specs.declared.view.Shape.TheVariants as shapes
use Rattle.node_tree.specs.Tree.{kind_of, text_of, kids_of, span_of, pre_of, content_of, content_kind}
use Rattle.node_tree.specs.Blocks.{is_block}
use Rattle.node_tree.proofs.Trees.{pre_is, parts_from_content}
use Rattle.node_tree.specs.Numbers.{Numbered, count_of, siblings, kids_at, numbered, pre_at}
use Rattle.meta_bind.specs.declared.bound.Bound.{Bound}
use Rattle.node_match.specs.Sets.{Among}
use Rattle.node_tree.specs.Kinds.{is_expression, is_term}
use Rattle.node_match.specs.Free.{Part, parts_of}
use Rattle.node_match.specs.Relation.{held_at, nodes_of, Matches, same_node, known_literal, wildcard, metavariable, some_string, known_string, deep, MatchesKids, in_order, choosing, MatchesChoice, no_choice, choice, MatchesList, both_empty, head_and_rest, free_and_rest, dots, named_dots, MatchesArguments, arguments, MatchesKid, by_itself, as_arguments}
use Rattle.tree_match.specs.Members.{Member, MayStand, MemberAt, MemberRun, MemberUnder, kids_between, range_of, those_blocks}
use Rattle.piece_match.proofs.Copies.{SpanAt, Copy, copied, Copies, none_copied, more_copied, BoundsAt, MemberCopy}
use Rattle.node_match.specs.Orders.{asked_of, is_arguments, is_keyword, named_of, unnamed_of, named_at, unnamed_at, all_asked}
use Rattle.piece_match.proofs.Copied.{copy_kind, copy_span, copy_kids, copies_length, pre_copied, run_copied, binds_copied, string_copied, text_copied, class_copied}
use Rattle.piece_match.proofs.Amongs.{among_first, among_second, among_either, numbered_append}

-- ---- literals of the same content

held_same : (o q : Option Node) (l : Node) → option_map content_of o ≡ option_map content_of q → o ≡ Some l → (k : Node) × (q ≡ Some k) × (content_of k ≡ content_of l)
held_same None q l e is = absurd cc
held_same (Some n) None l e is = absurd cc
held_same (Some n) (Some k) l e is =
    let same : content_of n ≡ content_of k = cc in
    let here : n ≡ l = cc in
    (k, refl, sym same ∙ ap content_of here)

string_kind : (k : Kind) → content_kind k ≡ kinds.Str → k ≡ kinds.Str
string_kind kinds.Id e = absurd cc
string_kind _ e = e

-- what has the content of a string is one
string_same : (l k : Node) → content_of k ≡ content_of l → kind_of l ≡ kinds.Str → kind_of k ≡ kinds.Str
string_same l k e is = string_kind (kind_of k) ((parts_from_content k l e).kind ∙ ap content_kind is)

-- Num relates the numbers of the two trees, and both count on alike; below end the literals of C and D have the same contents
module _ (At : ℕ → ℕ → Type 0) (C D : List Known) (Num : ℕ → ℕ → Type 0) (end : ℕ) (on : (i j k : ℕ) → Num i j → Num (i + k) (j + k)) (known : (i j : ℕ) → Num i j → i < end → option_map content_of (held_at C i) ≡ option_map content_of (held_at D j)) where
  -- the second node is the copy, with the number that stands for the first one's, and all numbers below it are within the tree
  pub record Twin (x y : Numbered) : Type 0 where
    pub number : Num x.at y.at
    pub within : x.at + count_of x.node ≤ end
    pub copy : Copy At x.node y.node

  abbrev Twins : List Numbered → List Numbered → Type 0
  Twins [] [] = Unit {0}
  Twins [] (y ∷ ys) = ⊥
  Twins (x ∷ xs) [] = ⊥
  Twins (x ∷ xs) (y ∷ ys) = Twin x y × Twins xs ys

  twins_drop : (k : ℕ) (xs ys : List Numbered) → Twins xs ys → Twins (drop k xs) (drop k ys)
  twins_drop zero xs ys t = t
  twins_drop (suc k) [] [] t = tt
  twins_drop (suc k) [] (y ∷ ys) t = absurd t
  twins_drop (suc k) (x ∷ xs) [] t = absurd t
  twins_drop (suc k) (x ∷ xs) (y ∷ ys) t = twins_drop k xs ys t.1

  twins_take : (k : ℕ) (xs ys : List Numbered) → Twins xs ys → Twins (take k xs) (take k ys)
  twins_take zero xs ys t = tt
  twins_take (suc k) [] [] t = tt
  twins_take (suc k) [] (y ∷ ys) t = absurd t
  twins_take (suc k) (x ∷ xs) [] t = absurd t
  twins_take (suc k) (x ∷ xs) (y ∷ ys) t = (t.0, twins_take k xs ys t.1)

  twins_copied : (xs ys : List Numbered) → Twins xs ys → Copies At (nodes_of xs) (nodes_of ys)
  twins_copied [] [] t = none_copied
  twins_copied [] (y ∷ ys) t = absurd t
  twins_copied (x ∷ xs) [] t = absurd t
  twins_copied (x ∷ xs) (y ∷ ys) t = more_copied t.0.copy (twins_copied xs ys t.1)

  twins_length : (xs ys : List Numbered) → Twins xs ys → length xs ≡ length ys
  twins_length [] [] t = refl
  twins_length [] (y ∷ ys) t = absurd t
  twins_length (x ∷ xs) [] t = absurd t
  twins_length (x ∷ xs) (y ∷ ys) t = ap suc (twins_length xs ys t.1)

  twins_append : (us vs xs ys : List Numbered) → Twins us vs → Twins xs ys → Twins (us ++ xs) (vs ++ ys)
  twins_append [] [] xs ys t s = s
  twins_append [] (v ∷ vs) xs ys t s = absurd t
  twins_append (u ∷ us) [] xs ys t s = absurd t
  twins_append (u ∷ us) (v ∷ vs) xs ys t s = (t.0, twins_append us vs xs ys t.1 s)

  twins_remove : (k : ℕ) (xs ys : List Numbered) → Twins xs ys → Twins (remove xs k) (remove ys k)
  twins_remove k xs ys t = twins_append (take k xs) (take k ys) (drop (suc k) xs) (drop (suc k) ys) (twins_take k xs ys t) (twins_drop (suc k) xs ys t)

  -- those of some kinds
  twins_filter : (f : Kind → Bool) (xs ys : List Numbered) → Twins xs ys → Twins (filter (λ (n : Numbered). f (kind_of n.node)) xs) (filter (λ (n : Numbered). f (kind_of n.node)) ys)
  twins_filter f [] [] t = tt
  twins_filter f [] (y ∷ ys) t = absurd t
  twins_filter f (x ∷ xs) [] t = absurd t
  twins_filter f (x ∷ xs) (y ∷ ys) (t, ts) =
      let P : Bool → Type 0 = λ b. Twins (cond (f (kind_of x.node)) (x ∷ kept xs) (kept xs)) (cond b (y ∷ kept ys) (kept ys)) in
      subst P (ap f (copy_kind At x.node y.node t.copy)) (by (f (kind_of x.node)) (twins_filter f xs ys ts))
    where
      kept : List Numbered → List Numbered
      kept zs = filter (λ (n : Numbered). f (kind_of n.node)) zs

      by : (b : Bool) → Twins (kept xs) (kept ys) → Twins (cond b (x ∷ kept xs) (kept xs)) (cond b (y ∷ kept ys) (kept ys))
      by true rest = (t, rest)
      by false rest = rest

  twin_at : (xs ys : List Numbered) (k : ℕ) (x : Numbered) → Twins xs ys → k < length xs → x ≡ get_or xs k x → (y : Numbered) × (y ≡ get_or ys k y) × Twin x y
  twin_at [] ys k x t lt is = absurd (omega arith)
  twin_at (z ∷ xs) [] k x t lt is = absurd t
  twin_at (z ∷ xs) (y ∷ ys) zero x t lt is = let P : Numbered → Type 0 = λ w. Twin w y in (y, refl, subst P (sym is) t.0)
  twin_at (z ∷ xs) (y ∷ ys) (suc k) x t lt is = twin_at xs ys k x t.1 (omega arith) is

  none_twin : (xs ys : List Numbered) → Twins xs ys → xs ≡ [] → ys ≡ []
  none_twin [] [] t e = refl
  none_twin [] (y ∷ ys) t e = absurd t
  none_twin (x ∷ xs) ys t e = absurd cc

  -- ---- counting

  size_is : (n : Node) → length (pre_of n) ≡ suc (length (flat_map pre_of (kids_of n)))
  size_is n = ap length (pre_is n)

  sizes_are : (n : Node) (ns : List Node) → length (flat_map pre_of (n ∷ ns)) ≡ length (pre_of n) + length (flat_map pre_of ns)
  sizes_are n ns = ap length (flat_map-cons pre_of n ns) ∙ length-append (pre_of n) (flat_map pre_of ns)

  own_within : (x y : Numbered) → Twin x y → x.at < end
  own_within x y t = let w = t.within in let s = size_is x.node in omega (arith, w, s)

  -- past two trees of one size
  past : (i j : ℕ) (n m : Node) → Num i j → length (pre_of n) ≡ length (pre_of m) → Num (i + length (pre_of n)) (j + length (pre_of m))
  past i j n m e same = let P : ℕ → Type 0 = λ k. Num (i + length (pre_of n)) (j + k) in subst P same (on i j (length (pre_of n)) e)

  twins_from : (i j : ℕ) (ns ms : List Node) → Num i j → Copies At ns ms → i + length (flat_map pre_of ns) ≤ end → Twins (siblings i ns) (siblings j ms)
  twins_from i j [] [] e none_copied le = tt
  twins_from i j [] (m ∷ ms) e x le = elim x [ ]
  twins_from i j (n ∷ ns) [] e x le = elim x [ ]
  twins_from i j (n ∷ ns) (m ∷ ms) e (more_copied x xs) le =
      let s = sizes_are n ns in
      let same = copies_length At (pre_of n) (pre_of m) (pre_copied At n m x) in (
        record { number = e; within = omega (arith, le, s); copy = x },
        twins_from (i + length (pre_of n)) (j + length (pre_of m)) ns ms (past i j n m e same) xs (omega (arith, le, s)),
      )

  kids_twins : (x y : Numbered) → Twin x y → Twins (kids_at x) (kids_at y)
  kids_twins x y t =
      let n = t.number in let w = t.within in let s = size_is x.node in
      twins_from (x.at + 1) (y.at + 1) (kids_of x.node) (kids_of y.node) (on x.at y.at 1 n) (copy_kids At x.node y.node t.copy) (omega (arith, w, s))

  abbrev Paired : List Numbered → List Numbered → Type 0
  Paired xs ys = (z : Numbered) → Among xs z → (w : Numbered) × Among ys w × Twin z w

  both_paired : (xs ys us vs : List Numbered) → Paired xs us → Paired ys vs → Paired (xs ++ ys) (us ++ vs)
  both_paired xs ys us vs f g z a = elim (among_either xs ys z a) [
    | inl b ↦ (let (w, c, t) = f z b in (w, among_first us vs w c, t))
    | inr b ↦ (let (w, c, t) = g z b in (w, among_second us vs w c, t))
  ]

  one_paired : (x y : Numbered) → Twin x y → Paired (x ∷ []) (y ∷ [])
  one_paired x y t z a = elim a [ inl e ↦ (let P : Numbered → Type 0 = λ k. Twin k y in (y, inl refl, subst P e t)) | inr b ↦ absurd b ]

  mutual
    pre_paired : (i j : ℕ) (n m : Node) → Num i j → Copy At n m → i + length (pre_of n) ≤ end → Paired (numbered i (pre_of n)) (numbered j (pre_of m))
    pre_paired i j n m e (copied k h s ks) le =
        let size = size_is n in
        let P : List Node → Type 0 = λ xs. Paired (numbered i xs) (numbered j (pre_of m)) in
        let Q : List Node → Type 0 = λ ys. Paired (numbered i (n ∷ flat_map pre_of (kids_of n))) (numbered j ys) in
        let x : Numbered = record { at = i; node = n } in
        let y : Numbered = record { at = j; node = m } in
        let here : Twin x y = record { number = e; within = le; copy = copied k h s ks } in
        let rest = pres_paired (i + 1) (j + 1) (kids_of n) (kids_of m) (on i j 1 e) ks (omega (arith, le, size)) in
        subst P (sym (pre_is n)) (subst Q (sym (pre_is m)) (both_paired (x ∷ []) (numbered (i + 1) (flat_map pre_of (kids_of n))) (y ∷ []) (numbered (j + 1) (flat_map pre_of (kids_of m)))
        (one_paired x y here) rest))

    pres_paired : (i j : ℕ) (ns ms : List Node) → Num i j → Copies At ns ms → i + length (flat_map pre_of ns) ≤ end → Paired (numbered i (flat_map pre_of ns)) (numbered j (flat_map pre_of ms))
    pres_paired i j [] [] e none_copied le = λ z a. absurd a
    pres_paired i j [] (m ∷ ms) e x le = elim x [ ]
    pres_paired i j (n ∷ ns) [] e x le = elim x [ ]
    pres_paired i j (n ∷ ns) (m ∷ ms) e (more_copied x xs) le =
        let s = sizes_are n ns in
        let same = copies_length At (pre_of n) (pre_of m) (pre_copied At n m x) in
        let f = ap (numbered i) (flat_map-cons pre_of n ns) ∙ numbered_append i (pre_of n) (flat_map pre_of ns) in
        let g = ap (numbered j) (flat_map-cons pre_of m ms) ∙ numbered_append j (pre_of m) (flat_map pre_of ms) in
        let P : List Numbered → Type 0 = λ us. Paired us (numbered j (flat_map pre_of (m ∷ ms))) in
        let Q : List Numbered → Type 0 = λ us. Paired (numbered i (pre_of n) ++ numbered (i + length (pre_of n)) (flat_map pre_of ns)) us in
        subst P (sym f) (subst Q (sym g) (both_paired (numbered i (pre_of n)) (numbered (i + length (pre_of n)) (flat_map pre_of ns)) (numbered j (pre_of m)) (numbered (j + length (pre_of m)) (flat_map pre_of ms))
        (pre_paired i j n m e x (omega (arith, le, s))) (pres_paired (i + length (pre_of n)) (j + length (pre_of m)) ns ms (past i j n m e same) xs (omega (arith, le, s)))))

  below_twins : (x y : Numbered) → Twin x y → Paired (pre_at x) (pre_at y)
  below_twins x y t = pre_paired x.at y.at x.node y.node t.number t.copy t.within

  -- ---- matches

  mutual
    pub one_twin : (p : Node) (x y : Numbered) (b c d : List Bound) → Twin x y → BoundsAt At b d → Matches C p x b c → (e : List Bound) × BoundsAt At c e × Matches D p y d e
    one_twin p x y b c d t v (same_node r k h z) =
        let (e, w, u) = kids_twin p x y b c d t v z in
        (e, w, same_node r (k ∙ copy_kind At x.node y.node t.copy) (text_copied At p x.node y.node t.copy h) u)
    one_twin p x y b _ d t v (known_literal l r is (k, f) e) =
        let (m, g, same) = held_same (held_at C x.at) (held_at D y.at) l (known x.at y.at t.number (own_within x y t)) f in
        (d, v, known_literal m r is (sym (copy_kind At x.node y.node t.copy) ∙ k, g) (same ∙ e))
    one_twin p x y b _ d t v (wildcard r w h) = (d, v, wildcard r w (class_copied At is_term x.node y.node t.copy h))
    one_twin p x y b c d t v (metavariable r w h z) =
        let (e, k, u) = binds_copied At x.node y.node (text_of p) (x.node ∷ []) (y.node ∷ []) b c d t.copy (more_copied t.copy none_copied) v z in
        (e, k, metavariable r w (class_copied At is_term x.node y.node t.copy h) u)
    one_twin p x y b _ d t v (some_string r s) = (d, v, some_string r (string_copied At x.node y.node t.copy s))
    one_twin p x y b _ d t v (known_string l r (k, f) e) =
        let (m, g, same) = held_same (held_at C x.at) (held_at D y.at) l (known x.at y.at t.number (own_within x y t)) f in
        (d, v, known_string m r (sym (copy_kind At x.node y.node t.copy) ∙ k, g) (string_same l m same e))
    one_twin p x y b c d t v (deep q z r o h among k) =
        let (w, a, into) = below_twins x y t z among in
        let (e, m, u) = one_twin q z w b c d into v k in
        (e, m, deep q w r o (class_copied At is_expression x.node y.node t.copy h) a u)

    kids_twin : (p : Node) (x y : Numbered) (b c d : List Bound) → Twin x y → BoundsAt At b d → MatchesKids C p x b c → (e : List Bound) × BoundsAt At c e × MatchesKids D p y d e
    kids_twin p x y b c d t v (in_order still z) =
        let (e, w, u) = list_twin x y (parts_of p) (kids_at x) (kids_at y) b c d t (kids_twins x y t) v z in (e, w, in_order still u)
    kids_twin p x y b c d t v (choosing {rest = rest} float ends z) =
        let (e, left, w, l, u) = choice_twin (asked_of (kids_of p)) (kids_at x) (kids_at y) rest b c d (kids_twins x y t) v z in
        (e, w, choosing float (λ no. none_twin rest left l (ends no)) u)

    choice_twin : (ps : List Node) (xs ys rest : List Numbered) (b c d : List Bound) → Twins xs ys → BoundsAt At b d → MatchesChoice C ps xs rest b c
        → (e : List Bound) × (left : List Numbered) × BoundsAt At c e × Twins rest left × MatchesChoice D ps ys left d e
    choice_twin _ xs ys _ b _ d ts v no_choice = (d, ys, v, ts, no_choice)
    choice_twin (p ∷ ps) xs ys rest b c d ts v (choice {c = f} k x lt is z zs) =
        let (y, here, t) = twin_at xs ys k x ts lt is in
        let (e, w, u) = one_twin p x y b f d t v z in
        let (g, left, ws, l, us) = choice_twin ps (remove xs k) (remove ys k) rest f c e (twins_remove k xs ys ts) w zs in
        let many = twins_length xs ys ts in
        (g, left, ws, l, choice k y (omega (arith, many, lt)) here u us)

    arguments_twin : (p : Node) (x y : Numbered) (b c d : List Bound) → Twin x y → BoundsAt At b d → MatchesArguments C p x b c → (e : List Bound) × BoundsAt At c e × MatchesArguments D p y d e
    arguments_twin p x y b c d t v (arguments {rest = rest} {c = f} k h zs ends ws) =
        let kids = kids_twins x y t in
        let (e, w, us) = list_twin x y (all_asked (unnamed_of (kids_of p))) (unnamed_at (kids_at x)) (unnamed_at (kids_at y)) b f d t (twins_filter (λ (q : Kind). not (is_keyword q)) (kids_at x) (kids_at y) kids) v zs in
        let (g, left, u, l, vs) = choice_twin (named_of (kids_of p)) (named_at (kids_at x)) (named_at (kids_at y)) rest f c e (twins_filter is_keyword (kids_at x) (kids_at y) kids) w ws in
        (g, u, arguments (k ∙ copy_kind At x.node y.node t.copy) (text_copied At p x.node y.node t.copy h) us (λ no. none_twin rest left l (ends no)) vs)

    kid_twin : (h g : Numbered) (p : Node) (x y : Numbered) (b c d : List Bound) → Twin h g → Twin x y → BoundsAt At b d → MatchesKid C h p x b c → (e : List Bound) × BoundsAt At c e × MatchesKid D g p y d e
    kid_twin h g p x y b c d t s v (by_itself other z) =
        let (e, w, u) = one_twin p x y b c d s v z in
        (e, w, by_itself (sym (ap (λ (k : Kind). is_arguments k p) (copy_kind At h.node g.node t.copy)) ∙ other) u)
    kid_twin h g p x y b c d t s v (as_arguments list z) =
        let (e, w, u) = arguments_twin p x y b c d s v z in
        (e, w, as_arguments (sym (ap (λ (k : Kind). is_arguments k p) (copy_kind At h.node g.node t.copy)) ∙ list) u)

    pub list_twin : (h g : Numbered) (ps : List Part) (xs ys : List Numbered) (b c d : List Bound) → Twin h g → Twins xs ys → BoundsAt At b d → MatchesList C h ps xs b c → (e : List Bound) × BoundsAt At c e × MatchesList D g ps ys d e
    list_twin h g _ [] [] b _ d t ts v both_empty = (d, v, both_empty)
    list_twin h g _ [] (y ∷ ys) b _ d t ts v both_empty = absurd ts
    list_twin h g (Some p ∷ ps) (x ∷ xs) [] b c d t ts v (head_and_rest z zs) = absurd ts
    list_twin h g (None ∷ ps) (x ∷ xs) [] b c d t ts v (free_and_rest zs) = absurd ts
    list_twin h g (Some p ∷ ps) (x ∷ xs) (y ∷ ys) b c d t (s, ss) v (head_and_rest {c = k} z zs) =
        let (e, w, u) = kid_twin h g p x y b k d t s v z in
        let (f, ws, us) = list_twin h g ps xs ys k c e t ss w zs in
        (f, ws, head_and_rest u us)
    list_twin h g (None ∷ ps) (x ∷ xs) (y ∷ ys) b c d t (s, ss) v (free_and_rest zs) =
        let (e, w, u) = list_twin h g ps xs ys b c d t ss v zs in (e, w, free_and_rest u)
    list_twin h g (Some p ∷ ps) xs ys b c d t ts v (dots k r zs) =
        let (e, w, u) = list_twin h g ps (drop k xs) (drop k ys) b c d t (twins_drop k xs ys ts) v zs in (e, w, dots k r u)
    list_twin h g (Some p ∷ ps) xs ys b c d t ts v (named_dots {c = l} k r z zs) =
        let (e, w, u) = binds_copied At h.node g.node (text_of p) (nodes_of (take k xs)) (nodes_of (take k ys)) b l d t.copy (twins_copied (take k xs) (take k ys) (twins_take k xs ys ts)) v z in
        let (f, ws, us) = list_twin h g ps (drop k xs) (drop k ys) l c e t (twins_drop k xs ys ts) w zs in
        (f, ws, named_dots k r u us)

  -- ---- members

  node_twin : (p : Node) (x y : Numbered) (m : Member) → Twin x y → MemberAt C p x m → (w : Member) × MemberCopy At m w × MemberAt D p y w
  node_twin p x y m t (may, is, z) =
      let (e, v, u) = one_twin p x y [] m.1 [] t tt z in
      let P : Span → Type 0 = λ s. SpanAt At s (span_of y.node) in
      let stand : MayStand p y.node = λ r. class_copied At is_expression x.node y.node t.copy (may r) in
      ((span_of y.node, e), (subst P (sym is) (copy_span At x.node y.node t.copy), v), (stand, refl, u))

  pub run_twin : (p : Node) (x y : Numbered) (m : Member) → Twin x y → MemberRun C p x m → (w : Member) × MemberCopy At m w × MemberRun D p y w
  run_twin p x y m t r =
      let kids = kids_twins x y t in
      let same = twins_length (kids_at x) (kids_at y) kids in
      let here = twins_take (r.end - r.from) (drop r.from (kids_at x)) (drop r.from (kids_at y)) (twins_drop r.from (kids_at x) (kids_at y) kids) in
      let (e, v, u) = list_twin x y (parts_of p) (kids_between x r.from r.end) (kids_between y r.from r.end) [] m.1 [] t here tt r.matches in
      let P : Span → Type 0 = λ s. SpanAt At s (range_of y (kids_between y r.from r.end)) in
      let within = r.within in (
        (range_of y (kids_between y r.from r.end), e),
        (subst P (sym r.range) (run_copied At x.node y.node (nodes_of (kids_between x r.from r.end)) (nodes_of (kids_between y r.from r.end)) t.copy (twins_copied (kids_between x r.from r.end) (kids_between y r.from r.end) here)), v),
        record {
          from = r.from;
          end = r.end;
          some = r.some;
          within = omega (arith, within, same);
          range = refl;
          matches = u;
          begins = r.begins;
          ends = λ dots. r.ends dots ∙ same;
        },
      )

  one_block : (k : Kind) (xs : List Numbered) (x z : Numbered) → Among (cond (is_block k) (x ∷ xs) xs) z → ((is_block k ≡ true) × (x ≡ z)) ⊎ Among xs z
  one_block k xs x z h = by (is_block k) refl h
    where
      by : (b : Bool) → is_block k ≡ b → Among (cond b (x ∷ xs) xs) z → ((is_block k ≡ true) × (x ≡ z)) ⊎ Among xs z
      by true e (inl f) = inl (e, f)
      by true e (inr a) = inr a
      by false e a = inr a

  block_among : (xs : List Numbered) (z : Numbered) → Among (those_blocks xs) z → Among xs z × (is_block (kind_of z.node) ≡ true)
  block_among [] z h = absurd h
  block_among (x ∷ xs) z h = elim (one_block (kind_of x.node) (those_blocks xs) x z h) [
    | inl (b, e) ↦ (let P : Numbered → Type 0 = λ k. is_block (kind_of k.node) ≡ true in (inl e, subst P e b))
    | inr a ↦ (let (c, b) = block_among xs z a in (inr c, b))
  ]

  among_block : (xs : List Numbered) (z : Numbered) → is_block (kind_of z.node) ≡ true → Among xs z → Among (those_blocks xs) z
  among_block [] z b h = absurd h
  among_block (x ∷ xs) z b (inl e) =
      let P : Numbered → Type 0 = λ k. is_block (kind_of k.node) ≡ true in
      let Q : Bool → Type 0 = λ t. Among (cond t (x ∷ those_blocks xs) (those_blocks xs)) z in
      let here : is_block (kind_of x.node) ≡ true = subst P (sym e) b in
      subst Q (sym here) (inl e)
  among_block (x ∷ xs) z b (inr a) = by (is_block (kind_of x.node)) (among_block xs z b a)
    where
      by : (t : Bool) → Among (those_blocks xs) z → Among (cond t (x ∷ those_blocks xs) (those_blocks xs)) z
      by true c = inr c
      by false c = c

  pub member_twin : (s : Shape) (p : Node) (x y : Numbered) (m : Member) → Twin x y → MemberUnder C s p x m → (w : Member) × MemberCopy At m w × MemberUnder D s p y w
  member_twin shapes.Expr p x y m t (z, among, k) =
      let (w, a, into) = below_twins x y t z among in
      let (n, v, u) = node_twin p z w m into k in
      (n, v, (w, a, u))
  member_twin shapes.Run p x y m t (z, among, k) =
      let (c, b) = block_among (pre_at x) z among in
      let (w, a, into) = below_twins x y t z c in
      let (n, v, u) = run_twin p z w m into k in
      (n, v, (w, among_block (pre_at y) w (class_copied At is_block z.node w.node into.copy b) a, u))
