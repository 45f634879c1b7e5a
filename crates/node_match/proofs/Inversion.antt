-- What each role of a pattern says of a match.
use Rattle.std.proofs.Common.{◌≡◌, ◌≢◌, ◌⊎◌, inl, inr, ◌↔◌, ℕ, ◌+◌, ◌≤◌, List, [], ◌∷◌, length, refl, sym, ap, ◌∙◌, subst, arith, true, false}
use Rattle.node_tree.specs.declared.node.Node.{Node}
use Rattle.node_tree.specs.Tree.{kind_of, text_of, kids_of, pre_of}
use Rattle.node_tree.proofs.Trees.{pre_is}
use Rattle.std.specs.List.{flat_map}
use Rattle.meta_bind.specs.declared.bound.Bound.{Bound}
use Rattle.node_match.specs.declared.class.Role.{Role}
use Rattle.node_match.specs.declared.class.Role.TheVariants as roles
use Rattle.node_match.specs.Sets.{Among}
use Rattle.node_tree.specs.Kinds.{is_term, is_expression, is_literal}
use Rattle.node_match.specs.Kinds.{role_of, IsOne}
use Rattle.node_match.specs.Free.{parts_of}
use Rattle.node_match.specs.declared.order.Order.TheVariants.{Fixed, Any}
use Rattle.node_match.specs.Orders.{order_of}
use Rattle.node_match.specs.Relation.{Matches, MatchesKid, by_itself, as_arguments, MatchesKids, MatchesList, in_order, choosing, same_node, known_literal, known_string, wildcard, metavariable, some_string, deep, Binds, IsString, wild}
use Rattle.node_match.specs.Holding.{HoldsString, Same, Held}
use Rattle.node_match.proofs.Arguments.{arguments_one}
use Rattle.node_tree.specs.declared.known.Known.{Known}
use Rattle.node_tree.specs.Numbers.{Numbered, kids_at, pre_at, numbered}

-- ---- one node

module _ (C : List Known) where
  module _ (p : Node) (n : Numbered) (b : List Bound) (role : role_of (kind_of p) ≡ roles.Plain) where
    pub plain_cases : (c : List Bound) → Matches C p n b c → Same C p n b c ⊎ Held C p n b c
    plain_cases c (same_node _ k t x) = inl (k, t, x)
    plain_cases _ (known_literal l _ is h e) = inr ((l, is, h, e), refl)
    plain_cases _ (wildcard r _ _) = absurd (let e = sym role ∙ r in cc)
    plain_cases c (metavariable r _ _ _) = absurd (let e = sym role ∙ r in cc)
    plain_cases _ (some_string r _) = absurd (let e = sym role ∙ r in cc)
    plain_cases _ (known_string _ r _ _) = absurd (let e = sym role ∙ r in cc)
    plain_cases c (deep _ _ r _ _ _ _) = absurd (let e = sym role ∙ r in cc)

    pub plain_or_held : (c : List Bound) → (Same C p n b c ⊎ Held C p n b c) ↔ Matches C p n b c
    plain_or_held c = (
      λ x. elim x [
        | inl (k, t, y) ↦ same_node role k t y
        | inr ((l, is, h, e), same) ↦ (let P : List Bound → Type 0 = λ d. Matches C p n b d in subst P same (known_literal l role is h e))
      ],
      λ x. plain_cases c x,
    )

    -- a literal alone stands for names
    pub no_literal : is_literal (kind_of p) ≡ false → (c : List Bound) → Same C p n b c ↔ Matches C p n b c
    no_literal not c = (
      λ x. (plain_or_held c).0 (inl x),
      λ x. elim (plain_cases c x) [ inl y ↦ y | inr ((l, is, h, e), same) ↦ absurd (let f : false ≡ true = sym not ∙ is in cc) ],
    )

  module _ (p : Node) (n : Numbered) (b : List Bound) (role : role_of (kind_of p) ≡ roles.Meta) where
    pub meta_terms : (c : List Bound) → Matches C p n b c → is_term (kind_of n.node) ≡ true
    meta_terms c (same_node r _ _ _) = absurd (let e = sym role ∙ r in cc)
    meta_terms _ (known_literal _ r _ _ _) = absurd (let e = sym role ∙ r in cc)
    meta_terms _ (wildcard _ _ t) = t
    meta_terms c (metavariable _ _ t _) = t
    meta_terms _ (some_string r _) = absurd (let e = sym role ∙ r in cc)
    meta_terms _ (known_string _ r _ _) = absurd (let e = sym role ∙ r in cc)
    meta_terms c (deep _ _ r _ _ _ _) = absurd (let e = sym role ∙ r in cc)

    pub meta_wild : text_of p ≡ wild → is_term (kind_of n.node) ≡ true → (t c : List Bound) → t ≡ b → (t ≡ c) ↔ Matches C p n b c
    meta_wild text term t c t-is = (λ e. let P : List Bound → Type 0 = λ d. Matches C p n b d in subst P (sym t-is ∙ e) (wildcard role text term), λ x. t-is ∙ to c x)
      where
        to : (c : List Bound) → Matches C p n b c → b ≡ c
        to c (same_node r _ _ _) = absurd (let e = sym role ∙ r in cc)
        to _ (known_literal _ r _ _ _) = absurd (let e = sym role ∙ r in cc)
        to _ (wildcard _ _ _) = refl
        to c (metavariable _ ne _ _) = absurd (ne text)
        to _ (some_string r _) = absurd (let e = sym role ∙ r in cc)
        to _ (known_string _ r _ _) = absurd (let e = sym role ∙ r in cc)
        to c (deep _ _ r _ _ _ _) = absurd (let e = sym role ∙ r in cc)

    pub meta_named : text_of p ≢ wild → is_term (kind_of n.node) ≡ true → (c : List Bound) → Binds n.node (text_of p) (n.node ∷ []) b c ↔ Matches C p n b c
    meta_named text term c = (λ x. metavariable role text term x, λ x. to c x)
      where
        to : (c : List Bound) → Matches C p n b c → Binds n.node (text_of p) (n.node ∷ []) b c
        to c (same_node r _ _ _) = absurd (let e = sym role ∙ r in cc)
        to _ (known_literal _ r _ _ _) = absurd (let e = sym role ∙ r in cc)
        to _ (wildcard _ is _) = absurd (text is)
        to c (metavariable _ _ _ x) = x
        to _ (some_string r _) = absurd (let e = sym role ∙ r in cc)
        to _ (known_string _ r _ _) = absurd (let e = sym role ∙ r in cc)
        to c (deep _ _ r _ _ _ _) = absurd (let e = sym role ∙ r in cc)

  module _ (p : Node) (n : Numbered) (b : List Bound) (role : role_of (kind_of p) ≡ roles.StrAny) where
    pub any_strings : (c : List Bound) → Matches C p n b c → IsString n.node ⊎ HoldsString C n
    any_strings c (same_node r _ _ _) = absurd (let e = sym role ∙ r in cc)
    any_strings _ (known_literal _ r _ _ _) = absurd (let e = sym role ∙ r in cc)
    any_strings _ (wildcard r _ _) = absurd (let e = sym role ∙ r in cc)
    any_strings c (metavariable r _ _ _) = absurd (let e = sym role ∙ r in cc)
    any_strings _ (some_string _ is) = inl is
    any_strings _ (known_string l _ h k) = inr (l, h, k)
    any_strings c (deep _ _ r _ _ _ _) = absurd (let e = sym role ∙ r in cc)

    pub any_string : IsString n.node ⊎ HoldsString C n → (t c : List Bound) → t ≡ b → (t ≡ c) ↔ Matches C p n b c
    any_string is t c t-is = (
      λ e. let P : List Bound → Type 0 = λ d. Matches C p n b d in subst P (sym t-is ∙ e) (elim is [ inl s ↦ some_string role s | inr (l, h, k) ↦ known_string l role h k ]),
      λ x. t-is ∙ to c x,
    )
      where
        to : (c : List Bound) → Matches C p n b c → b ≡ c
        to c (same_node r _ _ _) = absurd (let e = sym role ∙ r in cc)
        to _ (known_literal _ r _ _ _) = absurd (let e = sym role ∙ r in cc)
        to _ (wildcard r _ _) = absurd (let e = sym role ∙ r in cc)
        to c (metavariable r _ _ _) = absurd (let e = sym role ∙ r in cc)
        to _ (some_string _ _) = refl
        to _ (known_string _ _ _ _) = refl
        to c (deep _ _ r _ _ _ _) = absurd (let e = sym role ∙ r in cc)

-- some node of a list matches
abbrev pub Somewhere : List Known → Node → List Numbered → List Bound → List Bound → Type 0
Somewhere C q ns b c = (m : Numbered) × Among ns m × Matches C q m b c

module _ (C : List Known) where
  module _ (p : Node) (n : Numbered) (b : List Bound) (role : role_of (kind_of p) ≡ roles.Deep) where
    pub deep_in : (q : Node) → kids_of p ≡ q ∷ [] → is_expression (kind_of n.node) ≡ true → (c : List Bound) → Somewhere C q (pre_at n) b c ↔ Matches C p n b c
    deep_in q one expression c = (λ (m, among, x). deep q m role one expression among x, λ x. to c x)
      where
        to : (c : List Bound) → Matches C p n b c → Somewhere C q (pre_at n) b c
        to c (same_node r _ _ _) = absurd (let e = sym role ∙ r in cc)
        to _ (known_literal _ r _ _ _) = absurd (let e = sym role ∙ r in cc)
        to _ (wildcard r _ _) = absurd (let e = sym role ∙ r in cc)
        to c (metavariable r _ _ _) = absurd (let e = sym role ∙ r in cc)
        to _ (some_string r _) = absurd (let e = sym role ∙ r in cc)
        to _ (known_string _ r _ _) = absurd (let e = sym role ∙ r in cc)
        to c (deep q' m _ is _ among x) = let e : q' ≡ q = (let f = sym is ∙ one in cc) in let P : Node → Type 0 = λ y. Matches C y m b c in (m, among, subst P e x)

  -- a pattern that matches no node by itself
  pub no_one : (p : Node) (n : Numbered) (b c : List Bound) → Matches C p n b c → IsOne (role_of (kind_of p))
  no_one p n b c (same_node r _ _ _) = let P : Role → Type 0 = IsOne in subst P (sym r) tt
  no_one p n b _ (known_literal _ r _ _ _) = let P : Role → Type 0 = IsOne in subst P (sym r) tt
  no_one p n b _ (wildcard r _ _) = let P : Role → Type 0 = IsOne in subst P (sym r) tt
  no_one p n b c (metavariable r _ _ _) = let P : Role → Type 0 = IsOne in subst P (sym r) tt
  no_one p n b _ (some_string r _) = let P : Role → Type 0 = IsOne in subst P (sym r) tt
  no_one p n b _ (known_string _ r _ _) = let P : Role → Type 0 = IsOne in subst P (sym r) tt
  no_one p n b c (deep _ _ r _ _ _ _) = let P : Role → Type 0 = IsOne in subst P (sym r) tt

  kid_one : (h : Numbered) (p : Node) (n : Numbered) (b c : List Bound) → MatchesKid C h p n b c → IsOne (role_of (kind_of p))
  kid_one h p n b c (by_itself _ x) = no_one p n b c x
  kid_one h p n b c (as_arguments are _) = arguments_one (kind_of h.node) p are

  pub no_dots : (h : Numbered) (p : Node) (n : Numbered) (b c : List Bound) → role_of (kind_of p) ≡ roles.Dots → MatchesKid C h p n b c → ⊥
  no_dots h p n b c role x = let P : Role → Type 0 = IsOne in subst P role (kid_one h p n b c x)

  pub no_meta_dots : (h : Numbered) (p : Node) (n : Numbered) (b c : List Bound) → role_of (kind_of p) ≡ roles.MetaDots → MatchesKid C h p n b c → ⊥
  no_meta_dots h p n b c role x = let P : Role → Type 0 = IsOne in subst P role (kid_one h p n b c x)

-- ---- how kids match

module _ (C : List Known) where
  pub ordered_kids : (p : Node) (n : Numbered) (b c : List Bound) → order_of p ≡ Fixed → MatchesList C n (parts_of p) (kids_at n) b c ↔ MatchesKids C p n b c
  ordered_kids p n b c fixed = (λ x. in_order fixed x, λ x. to c x)
    where
      to : (c : List Bound) → MatchesKids C p n b c → MatchesList C n (parts_of p) (kids_at n) b c
      to c (in_order _ x) = x
      to c (choosing any _ _) = absurd (let e : Fixed ≡ Any = sym fixed ∙ any in cc)

-- ---- some node of a list

module _ (C : List Known) where
  pub somewhere_more : (q q' : Node) (m : Numbered) (ns : List Numbered) (all : List Numbered) (b c : List Bound) → all ≡ m ∷ ns → q' ≡ q → Somewhere C q all b c ↔ (Matches C q' m b c ⊎ Somewhere C q ns b c)
  somewhere_more q q' m ns all b c e is =
      let A : List Numbered → Type 0 = λ xs. Somewhere C q xs b c ↔ (Matches C q' m b c ⊎ Somewhere C q ns b c) in
      let B : Node → Type 0 = λ y. Somewhere C q (m ∷ ns) b c ↔ (Matches C y m b c ⊎ Somewhere C q ns b c) in
      subst A (sym e) (subst B (sym is) (
        λ (n, among, x). elim among [ inl here ↦ (let P : Numbered → Type 0 = λ y. Matches C q y b c in inl (subst P (sym here) x)) | inr a ↦ inr (n, a, x) ],
        λ a. elim a [ inl x ↦ (m, inl refl, x) | inr (n, among, x) ↦ (n, inr among, x) ],
      ))

  pub nowhere : (q : Node) (ns : List Numbered) (b c : List Bound) → ns ≡ [] → Somewhere C q ns b c → ⊥
  nowhere q ns b c e (m, among, x) = let P : List Numbered → Type 0 = λ xs. Among xs m in subst P e among

  -- a node without kids is all that there is of its tree
  pub only_here : (q q' : Node) (n : Numbered) (b c : List Bound) → kids_of n.node ≡ [] → q' ≡ q → Matches C q' n b c ↔ Somewhere C q (pre_at n) b c
  only_here q q' n b c none is =
      let alone : pre_at n ≡ n ∷ [] = ap (numbered n.at) (pre_is n.node ∙ ap (λ (ks : List Node). n.node ∷ flat_map pre_of ks) none) in
      let all = somewhere_more q q' n [] (pre_at n) b c alone is in
      (λ x. all.1 (inl x), λ s. elim (all.0 s) [ inl x ↦ x | inr y ↦ absurd (nowhere q [] b c refl y) ])

pub one_kid : (ns : List Node) → length ns ≡ 1 → (q : Node) × (ns ≡ q ∷ [])
one_kid [] e = absurd (omega (arith, e))
one_kid (n ∷ []) e = (n, refl)
one_kid (n ∷ m ∷ ns) e = absurd (omega (arith, e))
