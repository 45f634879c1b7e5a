-- A pattern whose names stand for something already binds nothing.
use Rattle.std.proofs.Common.{◌≡◌, ◌⊎◌, inl, inr, ℕ, suc, ◌+◌, ◌<◌, ◌≤◌, List, [], ◌∷◌, ◌++◌, length, take, drop, get_or, refl, sym, ap, ◌∙◌, subst, add-one, cond, Bool, true, false, not}
use Rattle.std.specs.Prelude.{None, Some, remove}
use Rattle.std.proofs.lemmas.List.{drop_all}
use Rattle.std.proofs.lemmas.List.Concat.{flat_map-cons}
use Rattle.std.proofs.Math.Seq.{drop-cons}
use Rattle.node_tree.specs.declared.node.Node.{Node}
use Rattle.node_tree.specs.declared.known.Known.{Known}
use Rattle.node_tree.specs.Tree.{kind_of, text_of, kids_of, pre_of, pre_all}
use Rattle.node_tree.specs.Numbers.{Numbered, kids_at}
use Rattle.node_tree.proofs.Trees.{pre_is}
use Rattle.meta_bind.specs.declared.bound.Bound.{Bound}
use Rattle.node_match.specs.declared.class.Role.{Role}
use Rattle.node_match.specs.declared.class.Role.TheVariants as roles
use Rattle.node_match.specs.Sets.{Among}
use Rattle.node_match.specs.Kinds.{role_of}
use Rattle.node_match.specs.Free.{Part, parts_of}
use Rattle.node_match.specs.Orders.{is_dots, is_named, asked_of, named_of, unnamed_of, named_at, unnamed_at, all_asked, choosers}
use Rattle.node_match.specs.Relation.{Binds, fresh, again, Matches, same_node, known_literal, known_string, wildcard, metavariable, some_string, deep, MatchesKids, in_order, choosing, MatchesChoice, no_choice, choice, MatchesArguments, arguments, MatchesKid, by_itself, as_arguments, MatchesList, both_empty, head_and_rest, free_and_rest, dots, named_dots, nodes_of}
use Rattle.node_match.specs.Choices.{Chosen}
use Rattle.node_search.specs.Steady.{IsBound, BindsNothing, IsSteady}
use Rattle.node_match.proofs.Parts.{part_kid}

-- ---- nodes below

in_front : (xs ys : List Node) (n : Node) → Among xs n → Among (xs ++ ys) n
in_front [] ys n h = absurd h
in_front (x ∷ xs) ys n (inl e) = inl e
in_front (x ∷ xs) ys n (inr h) = inr (in_front xs ys n h)

in_back : (xs ys : List Node) (n : Node) → Among ys n → Among (xs ++ ys) n
in_back [] ys n h = h
in_back (x ∷ xs) ys n h = inr (in_back xs ys n h)

in_trees : (ns : List Node) (n m : Node) → Among ns n → Among (pre_of n) m → Among (pre_all ns) m
in_trees [] n m a h = absurd a
in_trees (x ∷ xs) n m (inl e) h =
    let P : List Node → Type 0 = λ ys. Among ys m in
    let Q : Node → Type 0 = λ y. Among (pre_of y) m in
    subst P (sym (flat_map-cons pre_of x xs)) (in_front (pre_of x) (pre_all xs) m (subst Q (sym e) h))
in_trees (x ∷ xs) n m (inr a) h =
    let P : List Node → Type 0 = λ ys. Among ys m in
    subst P (sym (flat_map-cons pre_of x xs)) (in_back (pre_of x) (pre_all xs) m (in_trees xs n m a h))

in_kid : (h n m : Node) → Among (kids_of h) n → Among (pre_of n) m → Among (pre_of h) m
in_kid h n m a b = let P : List Node → Type 0 = λ ys. Among ys m in subst P (sym (pre_is h)) (inr (in_trees (kids_of h) n m a b))

here : (n : Node) → Among (pre_of n) n
here n = let P : List Node → Type 0 = λ ys. Among ys n in subst P (sym (pre_is n)) (inl refl)

steady_kid_of : (b : List Bound) (p : Node) → IsSteady b p → (q : Node) → Among (kids_of p) q → IsSteady b q
steady_kid_of b p s q a m among = s m (in_kid p q m a among)

-- ---- names

bound_again : (h : Node) (name : List ℕ) (run : List Node) (b c : List Bound) → IsBound b name → Binds h name run b c → b ≡ c
bound_again h name run b _ (old, is) (fresh none) = absurd (let e : None ≡ Some old = sym none ∙ is in let f = e in cc)
bound_again h name run b _ (old, is) (again other same nodes) = refl

role_binds : (b : List Bound) (q : Node) (r : Role) → IsSteady b q → role_of (kind_of q) ≡ r → BindsNothing b r (text_of q)
role_binds b q r s role = let P : Role → Type 0 = λ x. BindsNothing b x (text_of q) in subst P role (s q (here q))

-- ---- those that choose are among the patterns

chooser_kid : (named : Bool) (ps : List Node) (q : Node) → Among (choosers named ps) q → Among ps q
chooser_kid true [] q a = a
chooser_kid false [] q a = a
chooser_kid true (p ∷ ps) q a = at (is_named p) (chooser_kid true ps q) a
  where
    at : (t : Bool) → (Among (named_of ps) q → Among ps q) → Among (cond t (p ∷ named_of ps) (named_of ps)) q → Among (p ∷ ps) q
    at true rest (inl e) = inl e
    at true rest (inr x) = inr (rest x)
    at false rest x = inr (rest x)
chooser_kid false (p ∷ ps) q a = at (is_dots p) (chooser_kid false ps q) a
  where
    at : (t : Bool) → (Among (asked_of ps) q → Among ps q) → Among (cond t (asked_of ps) (p ∷ asked_of ps)) q → Among (p ∷ ps) q
    at false rest (inl e) = inl e
    at false rest (inr x) = inr (rest x)
    at true rest x = inr (rest x)

unnamed_kid : (ps : List Node) (q : Node) → Among (all_asked (unnamed_of ps)) (Some q) → Among ps q
unnamed_kid [] q a = absurd a
unnamed_kid (p ∷ ps) q a = at (is_named p) (unnamed_kid ps q) a
  where
    at : (t : Bool) → (Among (all_asked (unnamed_of ps)) (Some q) → Among ps q) → Among (all_asked (cond (not t) (p ∷ unnamed_of ps) (unnamed_of ps))) (Some q) → Among (p ∷ ps) q
    at false rest (inl e) = let f : p ≡ q = cc in inl f
    at false rest (inr x) = inr (rest x)
    at true rest x = inr (rest x)

-- ---- matches

mutual
  pub steady : (C : List Known) (q : Node) (n : Numbered) (b c : List Bound) → IsSteady b q → Matches C q n b c → b ≡ c
  steady C q n b c s (same_node r k t x) = steady_kids C q n b c (steady_kid_of b q s) x
  steady C q n b _ s (known_literal l r is h e) = refl
  steady C q n b _ s (wildcard r w t) = refl
  steady C q n b c s (metavariable r ne t x) =
      elim (role_binds b q roles.Meta s r) [ inl w ↦ absurd (ne w) | inr is ↦ bound_again n.node (text_of q) (n.node ∷ []) b c is x ]
  steady C q n b _ s (some_string r is) = refl
  steady C q n b _ s (known_string l r h k) = refl
  steady C q n b c s (deep p m r one e a x) = let P : List Node → Type 0 = λ ks. Among ks p in steady C p m b c (steady_kid_of b q s p (subst P (sym one) (inl refl))) x

  steady_kids : (C : List Known) (p : Node) (n : Numbered) (b c : List Bound) → ((q : Node) → Among (kids_of p) q → IsSteady b q) → MatchesKids C p n b c → b ≡ c
  steady_kids C p n b c each (in_order _ x) = steady_list C n (parts_of p) (kids_at n) b c (λ q a. each q (part_kid p q a)) x
  steady_kids C p n b c each (choosing {rest = rest} _ _ x) = steady_choice C (asked_of (kids_of p)) (kids_at n) rest b c (λ q a. each q (chooser_kid false (kids_of p) q a)) x

  pub steady_choice : (C : List Known) (ps : List Node) (ns rest : List Numbered) (b c : List Bound) → ((q : Node) → Among ps q → IsSteady b q) → MatchesChoice C ps ns rest b c → b ≡ c
  steady_choice C _ ns _ b _ each no_choice = refl
  steady_choice C (p ∷ ps) ns rest b d each (choice {c = c} k n lt is x y) =
      let e = steady C p n b c (each p (inl refl)) x in
      let P : List Bound → Type 0 = λ z. (q : Node) → Among ps q → IsSteady z q in
      e ∙ steady_choice C ps (remove ns k) rest c d (subst P e (λ q a. each q (inr a))) y

  steady_arguments : (C : List Known) (p : Node) (n : Numbered) (b d : List Bound) → ((q : Node) → Among (kids_of p) q → IsSteady b q) → MatchesArguments C p n b d → b ≡ d
  steady_arguments C p n b d each (arguments {rest = rest} {c = c} k t x ends y) =
      let e = steady_list C n (all_asked (unnamed_of (kids_of p))) (unnamed_at (kids_at n)) b c (λ q a. each q (unnamed_kid (kids_of p) q a)) x in
      let P : List Bound → Type 0 = λ z. (q : Node) → Among (kids_of p) q → IsSteady z q in
      let each' : (q : Node) → Among (kids_of p) q → IsSteady c q = subst P e each in
      e ∙ steady_choice C (named_of (kids_of p)) (named_at (kids_at n)) rest c d (λ q a. each' q (chooser_kid true (kids_of p) q a)) y

  pub steady_at : (C : List Known) (h : Numbered) (q : Node) (n : Numbered) (b c : List Bound) → IsSteady b q → MatchesKid C h q n b c → b ≡ c
  steady_at C h q n b c s (by_itself _ x) = steady C q n b c s x
  steady_at C h q n b c s (as_arguments _ x) = steady_arguments C q n b c (steady_kid_of b q s) x

  steady_list : (C : List Known) (h : Numbered) (ps : List Part) (ns : List Numbered) (b c : List Bound) → ((q : Node) → Among ps (Some q) → IsSteady b q) → MatchesList C h ps ns b c → b ≡ c
  steady_list C h _ _ b _ each both_empty = refl
  steady_list C h (Some p ∷ ps) (n ∷ ns) b d each (head_and_rest {c = c} x y) =
      let e = steady_at C h p n b c (each p (inl refl)) x in
      let P : List Bound → Type 0 = λ z. (q : Node) → Among ps (Some q) → IsSteady z q in
      e ∙ steady_list C h ps ns c d (subst P e (λ q a. each q (inr a))) y
  steady_list C h (None ∷ ps) (n ∷ ns) b c each (free_and_rest y) = steady_list C h ps ns b c (λ q a. each q (inr a)) y
  steady_list C h (Some p ∷ ps) ns b c each (dots k r y) = steady_list C h ps (drop k ns) b c (λ q a. each q (inr a)) y
  steady_list C h (Some p ∷ ps) ns b d each (named_dots {c = c} k r x y) =
      let e = bound_again h.node (text_of p) (nodes_of (take k ns)) b c (role_binds b p roles.MetaDots (each p (inl refl)) r) x in
      let P : List Bound → Type 0 = λ z. (q : Node) → Among ps (Some q) → IsSteady z q in
      e ∙ steady_list C h ps (drop k ns) c d (subst P e (λ q a. each q (inr a))) y

-- the nodes that are left to look at
pub steady_next : (b : List Bound) (all rest next : List Node) (m : Node) → ((n : Node) → Among all n → BindsNothing b (role_of (kind_of n)) (text_of n) ⊎ Among rest n) → rest ≡ m ∷ next → BindsNothing b (role_of (kind_of m)) (text_of m)
    → (n : Node) → Among all n → BindsNothing b (role_of (kind_of n)) (text_of n) ⊎ Among next n
steady_next b all rest next m inv cut so n a =
    let P : List Node → Type 0 = λ xs. Among xs n in
    let Q : Node → Type 0 = λ x. BindsNothing b (role_of (kind_of x)) (text_of x) in
    elim (inv n a) [ inl x ↦ inl x | inr y ↦ elim (subst P cut y) [ inl e ↦ inl (subst Q e so) | inr z ↦ inr z ] ]

pub steady_all : (b : List Bound) (all rest : List Node) → ((n : Node) → Among all n → BindsNothing b (role_of (kind_of n)) (text_of n) ⊎ Among rest n) → rest ≡ [] → (n : Node) → Among all n → BindsNothing b (role_of (kind_of n)) (text_of n)
steady_all b all rest inv none n a =
    let P : List Node → Type 0 = λ xs. Among xs n in
    elim (inv n a) [ inl x ↦ x | inr y ↦ absurd (subst P none y) ]

-- the patterns that are left to look at
pub patterns_next : (b : List Bound) (ps all : List Node) (i : ℕ) (p : Node) → i < length ps → p ≡ get_or ps i p → IsSteady b p → ((q : Node) → Among all q → IsSteady b q ⊎ Among (drop i ps) q) → (q : Node) → Among all q → IsSteady b q ⊎ Among (drop (i + 1) ps) q
patterns_next b ps all i p lt is so inv q a =
    let cut : drop i ps ≡ p ∷ drop (i + 1) ps = drop-cons ps i p lt ∙ ap (λ (x : Node). x ∷ drop (suc i) ps) (sym is) ∙ ap (λ (j : ℕ). p ∷ drop j ps) (sym (add-one i)) in
    let P : List Node → Type 0 = λ xs. Among xs q in
    let Q : Node → Type 0 = λ x. IsSteady b x in
    elim (inv q a) [ inl x ↦ inl x | inr y ↦ elim (subst P cut y) [ inl e ↦ inl (subst Q e so) | inr z ↦ inr z ] ]

pub patterns_all : (b : List Bound) (ps all : List Node) (i : ℕ) → length ps ≤ i → ((q : Node) → Among all q → IsSteady b q ⊎ Among (drop i ps) q) → (q : Node) → Among all q → IsSteady b q
patterns_all b ps all i le inv q a =
    let P : List Node → Type 0 = λ xs. Among xs q in
    elim (inv q a) [ inl x ↦ x | inr y ↦ absurd (subst P (drop_all i ps le) y) ]

pub steady_chosen : (C : List Known) (named f : Bool) (ps : List Node) (ns : List Numbered) (b c : List Bound) → ((q : Node) → Among ps q → IsSteady b q) → Chosen C named f ps ns b c → b ≡ c
steady_chosen C named f ps ns b c each (rest, ends, x) = steady_choice C (choosers named ps) ns rest b c (λ q a. each q (chooser_kid named ps q a)) x
