-- What a pattern needs stands in each tree that it matches.
use Rattle.std.proofs.Common.{◌≡◌, ◌⊎◌, inl, inr, ℕ, zero, suc, List, [], ◌∷◌, ◌++◌, take, drop, refl, sym, ◌∙◌, subst}
use Rattle.std.specs.Prelude.{None, Some, true, false, filter, Bool, cond, not}
use Rattle.std.proofs.lemmas.List.Concat.{flat_map-cons}
use Rattle.node_tree.specs.declared.node.Node.{Node}
use Rattle.node_tree.specs.declared.kind.Kind.{Kind}
use Rattle.node_tree.specs.declared.kind.Kind.TheVariants as kinds
use Rattle.node_tree.specs.declared.view.Shape.{Shape}
use Rattle.node_tree.specs.declared.view.Shape.TheVariants.{Expr, Run}
use Rattle.node_tree.specs.Tree.{kind_of, text_of, kids_of, pre_of, pre_all}
use Rattle.node_tree.specs.Blocks.{is_block}
use Rattle.node_tree.proofs.Trees.{pre_is}
use Rattle.node_pool.proofs.Induction.{Each, by_kids}
use Rattle.meta_bind.specs.declared.bound.Bound.{Bound}
use Rattle.node_match.specs.declared.class.Role.{Role}
use Rattle.node_match.specs.declared.class.Role.TheVariants as roles
use Rattle.node_match.specs.Sets.{Among}
use Rattle.node_match.specs.Kinds.{role_of, IsOne}
use Rattle.node_match.specs.Free.{Part, parts_of, HasText, IsTextFree}
use Rattle.node_match.specs.Relation.{Matches, MatchesKids, in_order, choosing, MatchesArguments, MatchesKid, by_itself, as_arguments, MatchesList, both_empty, head_and_rest, free_and_rest, dots, named_dots, Holds, held_at, same_node, known_literal, known_string, wildcard, metavariable, some_string, deep}
use Rattle.node_match.specs.Orders.{is_dots, is_dots_role, asked_of, is_list, is_named, named_of, unnamed_of, named_at, unnamed_at, all_asked}
use Rattle.node_match.proofs.Inversion.{plain_cases, Somewhere}
use Rattle.node_match.proofs.Choosing.{choice_meets, asked_among}
use Rattle.node_match.proofs.Arguments.{arguments_listed, arguments_alike, arguments_parted, among_named, among_unnamed, among_asked, among_part}
use Rattle.node_match.proofs.Parts.{part_kid}
use Rattle.tree_match.proofs.Pres.{pre_nodes}
use Rattle.node_match.proofs.Numbering.{kids_nodes, among_nodes}
use Rattle.node_tree.specs.declared.known.Known.{Known}
use Rattle.node_tree.specs.Numbers.{Numbered, kids_at, pre_at}
use Rattle.node_tree.specs.Numbers.{root_of}
use Rattle.tree_match.specs.Members.{Member, MemberOf, MemberRun, kids_between}
use Rattle.file_match.specs.Words.{Word, word_of, Has, Needs, own, below, inside, PartNeeds, NeedsOf}

-- ---- nodes among lists

in_front : (xs ys : List Node) (n : Node) → Among xs n → Among (xs ++ ys) n
in_front [] ys n h = absurd h
in_front (x ∷ xs) ys n (inl e) = inl e
in_front (x ∷ xs) ys n (inr h) = inr (in_front xs ys n h)

in_back : (xs ys : List Node) (n : Node) → Among ys n → Among (xs ++ ys) n
in_back [] ys n h = h
in_back (x ∷ xs) ys n h = inr (in_back xs ys n h)

in_either : (xs ys : List Node) (n : Node) → Among (xs ++ ys) n → Among xs n ⊎ Among ys n
in_either [] ys n h = inr h
in_either (x ∷ xs) ys n (inl e) = inl (inl e)
in_either (x ∷ xs) ys n (inr h) = elim (in_either xs ys n h) [ inl a ↦ inl (inr a) | inr b ↦ inr b ]

-- ---- preorder

-- the nodes below a node of a list of trees
in_trees : (ns : List Node) (n m : Node) → Among ns n → Among (pre_of n) m → Among (pre_all ns) m
in_trees [] n m a h = absurd a
in_trees (x ∷ xs) n m (inl e) h =
    let P : List Node → Type 0 = λ ys. Among ys m in
    let Q : Node → Type 0 = λ y. Among (pre_of y) m in
    subst P (sym (flat_map-cons pre_of x xs)) (in_front (pre_of x) (pre_all xs) m (subst Q (sym e) h))
in_trees (x ∷ xs) n m (inr a) h =
    let P : List Node → Type 0 = λ ys. Among ys m in
    subst P (sym (flat_map-cons pre_of x xs)) (in_back (pre_of x) (pre_all xs) m (in_trees xs n m a h))

pub in_kid : (h n m : Node) → Among (kids_of h) n → Among (pre_of n) m → Among (pre_of h) m
in_kid h n m a b = let P : List Node → Type 0 = λ ys. Among ys m in subst P (sym (pre_is h)) (inr (in_trees (kids_of h) n m a b))

abbrev Closed : Node → Type 0
Closed n = (m k : Node) → Among (pre_of n) m → Among (pre_of m) k → Among (pre_of n) k

closed_trees : (ns : List Node) → Each Closed ns → (m k : Node) → Among (pre_all ns) m → Among (pre_of m) k → Among (pre_all ns) k
closed_trees [] each m k a b = absurd a
closed_trees (n ∷ ns) each m k a b =
    let P : List Node → Type 0 = λ ys. Among ys m in
    let Q : List Node → Type 0 = λ ys. Among ys k in
    subst Q (sym (flat_map-cons pre_of n ns)) (elim (in_either (pre_of n) (pre_all ns) m (subst P (flat_map-cons pre_of n ns) a)) [
      | inl x ↦ in_front (pre_of n) (pre_all ns) k (each.0 m k x b)
      | inr y ↦ in_back (pre_of n) (pre_all ns) k (closed_trees ns each.1 m k y b)
    ])

-- what stands below a node below n stands below n
pub in_below : (n : Node) → Closed n
in_below = by_kids Closed (λ n each m k a b.
    let P : List Node → Type 0 = λ ys. Among ys m in
    let Q : List Node → Type 0 = λ ys. Among ys k in
    let R : Node → Type 0 = λ x. Among (pre_of x) k in
    elim (subst P (pre_is n) a) [
      | inl e ↦ subst R (sym e) b
      | inr x ↦ subst Q (sym (pre_is n)) (inr (closed_trees (kids_of n) each m k x b))
    ])

-- ---- nodes with numbers

among_kids : (h s : Numbered) → Among (kids_at h) s → Among (kids_of h.node) s.node
among_kids h s a = let P : List Node → Type 0 = λ ns. Among ns s.node in subst P (kids_nodes h) (among_nodes (kids_at h) s a)

among_pre : (h s : Numbered) → Among (pre_at h) s → Among (pre_of h.node) s.node
among_pre h s a = let P : List Node → Type 0 = λ ns. Among ns s.node in subst P (pre_nodes h) (among_nodes (pre_at h) s a)

spot_drop : (k : ℕ) (xs : List Numbered) (n : Numbered) → Among (drop k xs) n → Among xs n
spot_drop zero xs n h = h
spot_drop (suc k) [] n h = h
spot_drop (suc k) (x ∷ xs) n h = inr (spot_drop k xs n h)

spot_take : (k : ℕ) (xs : List Numbered) (n : Numbered) → Among (take k xs) n → Among xs n
spot_take zero xs n h = absurd h
spot_take (suc k) [] n h = h
spot_take (suc k) (x ∷ xs) n (inl e) = inl e
spot_take (suc k) (x ∷ xs) n (inr h) = inr (spot_take k xs n h)

spot_filter : (f : Numbered → Bool) (xs : List Numbered) (n : Numbered) → Among (filter f xs) n → Among xs n
spot_filter f [] n h = h
spot_filter f (x ∷ xs) n h = at (f x) (λ a. spot_filter f xs n a) h
  where
    at : (t : Bool) → (Among (filter f xs) n → Among xs n) → Among (cond t (x ∷ filter f xs) (filter f xs)) n → Among (x ∷ xs) n
    at true rest (inl e) = inl e
    at true rest (inr a) = inr (rest a)
    at false rest a = inr (rest a)

-- ---- matches

-- a pattern matches a node, or the arguments of a call
abbrev pub Meets : List Known → Node → Numbered → List Bound → List Bound → Type 0
Meets C q n b c = Matches C q n b c ⊎ ((is_list (kind_of q) ≡ true) × MatchesArguments C q n b c)

kid_meets : (C : List Known) (h : Numbered) (q : Node) (n : Numbered) (b c : List Bound) → MatchesKid C h q n b c → Meets C q n b c
kid_meets C h q n b c (by_itself _ x) = inl x
kid_meets C h q n b c (as_arguments are x) = inr (arguments_listed (kind_of h.node) q are, x)

list_plain : (k : Kind) → is_list k ≡ true → role_of k ≡ roles.Plain
list_plain kinds.List e = refl
list_plain _ e = absurd (let f : false ≡ true = e in cc)

-- a part that takes one node is met by one of them
record Met (C : List Known) (q : Node) (ns : List Numbered) : Type 0 where
  node : Numbered
  among : Among ns node
  before : List Bound
  after : List Bound
  matches : Meets C q node before after

met_in : (C : List Known) (q : Node) (ms ns : List Numbered) → ((n : Numbered) → Among ms n → Among ns n) → Met C q ms → Met C q ns
met_in C q ms ns part x = record { node = x.node; among = part x.node x.among; before = x.before; after = x.after; matches = x.matches }

met_next : (C : List Known) (q : Node) (n : Numbered) (ns : List Numbered) → Met C q ns → Met C q (n ∷ ns)
met_next C q n ns = met_in C q ns (n ∷ ns) (λ m a. inr a)

met_after : (C : List Known) (k : ℕ) (q : Node) (ns : List Numbered) → Met C q (drop k ns) → Met C q ns
met_after C k q ns = met_in C q (drop k ns) ns (λ m a. spot_drop k ns m a)

-- dots take no node by themselves
not_one : (p q : Node) (r : Role) → Some p ≡ Some q → role_of (kind_of p) ≡ r → (IsOne r → ⊥) → IsOne (role_of (kind_of q)) → ⊥
not_one p q r e role isnt one =
    let f : q ≡ p = cc in
    let P : Node → Type 0 = λ z. IsOne (role_of (kind_of z)) in
    let Q : Role → Type 0 = IsOne in
    isnt (subst Q role (subst P f one))

part_met : (C : List Known) (h : Numbered) (q : Node) (ps : List Part) (ns : List Numbered) (b c : List Bound) → IsOne (role_of (kind_of q)) → Among ps (Some q) → MatchesList C h ps ns b c → Met C q ns
part_met C h q _ _ b _ one a both_empty = absurd a
part_met C h q (Some p ∷ ps) (n ∷ ns) b c one (inl e) (head_and_rest {c = d} x y) =
    let P : Node → Type 0 = λ z. Meets C z n b d in
    let f : p ≡ q = cc in
    record { node = n; among = inl refl; before = b; after = d; matches = subst P f (kid_meets C h p n b d x) }
part_met C h q (Some p ∷ ps) (n ∷ ns) b c one (inr a) (head_and_rest x y) = met_next C q n ns (part_met C h q ps ns _ c one a y)
part_met C h q (None ∷ ps) (n ∷ ns) b c one (inl e) (free_and_rest y) = absurd cc
part_met C h q (None ∷ ps) (n ∷ ns) b c one (inr a) (free_and_rest y) = met_next C q n ns (part_met C h q ps ns b c one a y)
part_met C h q (Some p ∷ ps) ns b c one (inl e) (dots k r x) = absurd (not_one p q _ e r (λ z. z) one)
part_met C h q (Some p ∷ ps) ns b c one (inr a) (dots k r x) = met_after C k q ns (part_met C h q ps (drop k ns) b c one a x)
part_met C h q (Some p ∷ ps) ns b c one (inl e) (named_dots k r x y) = absurd (not_one p q _ e r (λ z. z) one)
part_met C h q (Some p ∷ ps) ns b c one (inr a) (named_dots k r x y) = met_after C k q ns (part_met C h q ps (drop k ns) _ c one a y)

one_asks : (q : Node) → IsOne (role_of (kind_of q)) → is_dots q ≡ false
one_asks q one = at (role_of (kind_of q)) one
  where
    at : (r : Role) → IsOne r → is_dots_role r ≡ false
    at roles.Plain _ = refl
    at roles.Meta _ = refl
    at roles.MetaDots o = absurd o
    at roles.Dots o = absurd o
    at roles.Deep _ = refl
    at roles.StrAny _ = refl

kids_met : (C : List Known) (p : Node) (n : Numbered) (q : Node) (b c : List Bound) → IsOne (role_of (kind_of q)) → Among (parts_of p) (Some q) → MatchesKids C p n b c → Met C q (kids_at n)
kids_met C p n q b c one a (in_order _ x) = part_met C n q (parts_of p) (kids_at n) b c one a x
kids_met C p n q b c one a (choosing {rest = rest} _ _ x) =
    let (m, among, d, e, y) = choice_meets C q (asked_of (kids_of p)) (kids_at n) rest b c (asked_among (kids_of p) q (one_asks q one) (part_kid p q a)) x in
    record { node = m; among = among; before = d; after = e; matches = inl y }

-- the same of the arguments of a call
arguments_met : (C : List Known) (p : Node) (n : Numbered) (q : Node) (b c : List Bound) → IsOne (role_of (kind_of q)) → Among (kids_of p) q → MatchesArguments C p n b c → Met C q (kids_at n)
arguments_met C p n q b c one a x = by (is_named q) refl
  where
    by : (t : Bool) → is_named q ≡ t → Met C q (kids_at n)
    by true so =
        let (d, y, (rest, ends, z)) = arguments_parted C p n b c x in
        let (m, among, e, g, w) = choice_meets C q (named_of (kids_of p)) (named_at (kids_at n)) rest d c (among_named (kids_of p) q so a) z in
        record { node = m; among = among_part (λ (k : Numbered). is_named k.node) (kids_at n) m among; before = e; after = g; matches = inl w }
    by false none =
        let (d, y, z) = arguments_parted C p n b c x in
        met_in C q (unnamed_at (kids_at n)) (kids_at n) (λ m h. among_part (λ (k : Numbered). not (is_named k.node)) (kids_at n) m h)
        (part_met C n q (all_asked (unnamed_of (kids_of p))) (unnamed_at (kids_at n)) b d one (among_asked (unnamed_of (kids_of p)) q (among_unnamed (kids_of p) q none a)) y)

module _ (fixed : Bool) where
  needs_one : (q : Node) (w : Word) → Needs fixed q w → IsOne (role_of (kind_of q))
  needs_one q _ (own r f l) = let P : Role → Type 0 = IsOne in subst P (sym r) tt
  needs_one q w (below r l a x) = let P : Role → Type 0 = IsOne in subst P (sym r) tt
  needs_one q w (inside r a x) = let P : Role → Type 0 = IsOne in subst P (sym r) tt

has_in : (n m : Node) (w : Word) → Among (pre_of n) m → Has (pre_of m) w → Has (pre_of n) w
has_in n m w a (k, b, is) = (k, in_below n m k a b, is)

self_in : (n : Node) → Among (pre_of n) n
self_in n = let P : List Node → Type 0 = λ ys. Among ys n in subst P (sym (pre_is n)) (inl refl)

words_are : (p n : Node) → kind_of p ≡ kind_of n → text_of p ≡ text_of n → word_of n ≡ word_of p
words_are p n e f = cc

nothing_held : (C : List Known) (s : Numbered) (l : Node) → C ≡ [] → Holds C s l → ⊥
nothing_held C s l none h = let P : List Known → Type 0 = λ ks. held_at ks s.at ≡ Some l in let e : None ≡ Some l = subst P none h.1 in absurd (let f = e in cc)

deep_cases : (C : List Known) (p : Node) (n : Numbered) (b : List Bound) → role_of (kind_of p) ≡ roles.Deep → (q : Node) → kids_of p ≡ q ∷ [] → (c : List Bound) → Matches C p n b c → Somewhere C q (pre_at n) b c
deep_cases C p n b role q one c (same_node r _ _ _) = absurd (let e = sym role ∙ r in cc)
deep_cases C p n b role q one _ (known_literal _ r _ _ _) = absurd (let e = sym role ∙ r in cc)
deep_cases C p n b role q one _ (wildcard r _ _) = absurd (let e = sym role ∙ r in cc)
deep_cases C p n b role q one c (metavariable r _ _ _) = absurd (let e = sym role ∙ r in cc)
deep_cases C p n b role q one _ (some_string r _) = absurd (let e = sym role ∙ r in cc)
deep_cases C p n b role q one _ (known_string _ r _ _) = absurd (let e = sym role ∙ r in cc)
deep_cases C p n b role q one c (deep q' m _ is _ among x) = let e : q' ≡ q = (let f = sym is ∙ one in cc) in let P : Node → Type 0 = λ y. Matches C y m b c in (m, among, subst P e x)

word_here : (p : Node) (n : Numbered) → (IsTextFree p → ⊥) → kind_of p ≡ kind_of n.node → HasText p n.node → Has (pre_of n.node) (word_of p)
word_here p n text kinds texts = elim texts [ inl e ↦ (n.node, self_in n.node, words_are p n.node kinds e) | inr f ↦ absurd (text f) ]

module _ (C : List Known) (fixed : Bool) (none : fixed ≡ true → C ≡ []) where
  pub met_needs : (p : Node) (w : Word) → Needs fixed p w → (n : Numbered) (b c : List Bound) → Meets C p n b c → Has (pre_of n.node) w
  met_needs p _ (own role text literal) n b c (inl x) =
      elim (plain_cases C p n b role c x) [
        | inl (kinds, texts, y) ↦ word_here p n text kinds texts
        | inr ((l, is, h, e), _) ↦ absurd (nothing_held C n l (none (literal is)) h)
      ]
  met_needs p _ (own role text literal) n b c (inr (_, x)) = let alike = arguments_alike C p n b c x in word_here p n text alike.0 alike.1
  met_needs p w (below {q = q} role literal a x) n b c (inl y) =
      elim (plain_cases C p n b role c y) [
        | inl (kinds, texts, z) ↦ (let met = kids_met C p n q b c (needs_one fixed q w x) a z in
            let k = met_needs q w x met.node met.before met.after met.matches in
            (k.0, in_kid n.node met.node.node k.0 (among_kids n met.node met.among) k.1, k.2))
        | inr ((l, is, h, e), _) ↦ absurd (literal is)
      ]
  met_needs p w (below {q = q} role literal a x) n b c (inr (_, y)) =
      let met = arguments_met C p n q b c (needs_one fixed q w x) (part_kid p q a) y in
      let k = met_needs q w x met.node met.before met.after met.matches in
      (k.0, in_kid n.node met.node.node k.0 (among_kids n met.node met.among) k.1, k.2)
  met_needs p w (inside {q = q} role one x) n b c (inl y) =
      let (m, among, z) = (deep_cases C p n b role q one c y) in
      has_in n.node m.node w (among_pre n m among) (met_needs q w x m b c (inl z))
  met_needs p w (inside {q = q} role one x) n b c (inr (listed, y)) = absurd (let e : roles.Plain ≡ roles.Deep = sym (list_plain (kind_of p) listed) ∙ role in cc)

  pub needed : (p : Node) (w : Word) → Needs fixed p w → (n : Numbered) (b c : List Bound) → Matches C p n b c → Has (pre_of n.node) w
  needed p w needs n b c x = met_needs p w needs n b c (inl x)

  -- a node with a run of its own has each word that the run needs
  pub run_needs : (p : Node) (h : Numbered) (w : Word) (m : Member) → PartNeeds fixed p w → MemberRun C p h m → Has (pre_of h.node) w
  run_needs p h w m (q, part, needs) r =
      let met = part_met C h q (parts_of p) (kids_between h r.from r.end) [] m.1 (needs_one fixed q w needs) part r.matches in
      let k = met_needs q w needs met.node met.before met.after met.matches in
      let kid = spot_drop r.from (kids_at h) met.node (spot_take _ (drop r.from (kids_at h)) met.node met.among) in
      (k.0, in_kid h.node met.node.node k.0 (among_kids h met.node kid) k.1, k.2)

  -- a tree with a member has each word that the pattern needs
  pub member_needs : (shape : Shape) (p tree : Node) (w : Word) (m : Member) → NeedsOf fixed shape p w → MemberOf C shape p tree m → Has (pre_of tree) w
  member_needs Expr p tree w m needs (n, among, (stands, range, x)) = has_in tree n.node w (among_pre (root_of tree) n among) (needed p w needs n [] m.1 x)
  member_needs Run p tree w m needs (h, among, r) =
      let block = among_pre (root_of tree) h (spot_filter (λ (z : Numbered). is_block (kind_of z.node)) (pre_at (root_of tree)) h among) in
      has_in tree h.node w block (run_needs p h w m needs r)
