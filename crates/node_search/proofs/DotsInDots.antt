-- Dots that stand directly in dots match what the inner ones match.
use Rattle.std.proofs.Common.{◌≡◌, inl, inr, ◌↔◌, ℕ, zero, suc, ◌+◌, List, [], ◌∷◌, take, refl, sym, ◌∙◌, subst, true}
use Rattle.node_tree.specs.declared.node.Node.{Node}
use Rattle.node_tree.specs.declared.known.Known.{Known}
use Rattle.node_tree.specs.Tree.{kind_of, kids_of, pre_of}
use Rattle.node_tree.specs.Numbers.{Numbered, count_of, numbered, pre_at}
use Rattle.node_tree.proofs.Trees.{pre_is}
use Rattle.node_pool.specs.Preorder.{IsPreorder}
use Rattle.node_pool.proofs.Placing.{tree_preorder}
use Rattle.meta_bind.specs.declared.bound.Bound.{Bound}
use Rattle.node_match.specs.declared.class.Role.TheVariants as roles
use Rattle.node_match.specs.Sets.{Among}
use Rattle.node_tree.specs.Kinds.{is_expression}
use Rattle.node_match.specs.Kinds.{role_of}
use Rattle.node_match.specs.Relation.{Matches, same_node, known_literal, known_string, wildcard, metavariable, some_string, deep}
use Rattle.node_match.proofs.Inversion.{deep_in}

-- ---- nodes below nodes, with their numbers

in_first : (at k : ℕ) (ns : List Node) (m : Numbered) → Among (numbered at (take k ns)) m → Among (numbered at ns) m
in_first at zero ns m h = absurd h
in_first at (suc k) [] m h = h
in_first at (suc k) (n ∷ ns) m (inl e) = inl e
in_first at (suc k) (n ∷ ns) m (inr h) = inr (in_first (at + 1) k ns m h)

in_order : (at : ℕ) (ns : List Node) (m k : Numbered) → IsPreorder ns → Among (numbered at ns) m → Among (pre_at m) k → Among (numbered at ns) k
in_order at [] m k ordered a h = absurd a
in_order at (n ∷ ns) m k ordered (inl e) h =
    let P : Numbered → Type 0 = λ x. Among (pre_at x) k in
    let Q : List Node → Type 0 = λ xs. Among (numbered at xs) k in
    in_first at (count_of n) (n ∷ ns) k (subst Q (sym ordered.0) (subst P (sym e) h))
in_order at (n ∷ ns) m k ordered (inr a) h = inr (in_order (at + 1) ns m k ordered.1 a h)

-- what is below a node below is below
below_below : (n m k : Numbered) → Among (pre_at n) m → Among (pre_at m) k → Among (pre_at n) k
below_below n m k = in_order n.at (pre_of n.node) m k (tree_preorder n.node)

itself : (n : Numbered) → Among (pre_at n) n
itself n = let P : List Node → Type 0 = λ ns. Among (numbered n.at ns) n in subst P (sym (pre_is n.node)) (inl refl)

-- ---- dots

module _ (C : List Known) where
  deep_expression : (p : Node) (n : Numbered) (b c : List Bound) → role_of (kind_of p) ≡ roles.Deep → Matches C p n b c → is_expression (kind_of n.node) ≡ true
  deep_expression p n b c role (same_node r _ _ _) = absurd (let e = sym role ∙ r in cc)
  deep_expression p n b _ role (known_literal _ r _ _ _) = absurd (let e = sym role ∙ r in cc)
  deep_expression p n b _ role (wildcard r _ _) = absurd (let e = sym role ∙ r in cc)
  deep_expression p n b c role (metavariable r _ _ _) = absurd (let e = sym role ∙ r in cc)
  deep_expression p n b _ role (some_string r _) = absurd (let e = sym role ∙ r in cc)
  deep_expression p n b _ role (known_string _ r _ _) = absurd (let e = sym role ∙ r in cc)
  deep_expression p n b c role (deep _ _ _ _ is _ _) = is

  -- what the inner dots match below an expression, they match at the expression
  raised : (q : Node) (n m : Numbered) (b c : List Bound) → role_of (kind_of q) ≡ roles.Deep → is_expression (kind_of n.node) ≡ true → Among (pre_at n) m → Matches C q m b c → Matches C q n b c
  raised q n m b c role is a (same_node r _ _ _) = absurd (let e = sym role ∙ r in cc)
  raised q n m b _ role is a (known_literal _ r _ _ _) = absurd (let e = sym role ∙ r in cc)
  raised q n m b _ role is a (wildcard r _ _) = absurd (let e = sym role ∙ r in cc)
  raised q n m b c role is a (metavariable r _ _ _) = absurd (let e = sym role ∙ r in cc)
  raised q n m b _ role is a (some_string r _) = absurd (let e = sym role ∙ r in cc)
  raised q n m b _ role is a (known_string _ r _ _) = absurd (let e = sym role ∙ r in cc)
  raised q n m b c role is a (deep r k _ one _ a' x) = deep r k role one is (below_below n m k a a') x

  pub dots_in_dots : (p q : Node) (n : Numbered) (b c : List Bound) → role_of (kind_of p) ≡ roles.Deep → role_of (kind_of q) ≡ roles.Deep → kids_of p ≡ q ∷ [] → Matches C q n b c ↔ Matches C p n b c
  dots_in_dots p q n b c outer inner one = (
    λ y. deep q n outer one (deep_expression q n b c inner y) (itself n) y,
    λ x.
        let (m, a, y) = (deep_in C p n b outer q one (deep_expression p n b c outer x) c).1 x in
        raised q n m b c inner (deep_expression p n b c outer x) a y,
  )
