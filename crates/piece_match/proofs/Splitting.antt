-- The members in a file are those in its pieces.
use Rattle.std.proofs.Common.{◌≡◌, ℕ, ◌+◌, List, [], ◌∷◌, ◌++◌, ◌⊎◌, inl, inr, ◌↔◌, refl, sym, ap, ◌∙◌, subst, Bool, true, false, cond}
use Rattle.std.specs.List.{flat_map}
use Rattle.std.proofs.lemmas.List.Concat.{flat_map-cons}
use Rattle.std.proofs.lemmas.List.Elements.{filter-append}
use Rattle.node_tree.specs.declared.node.Node.{Node}
use Rattle.node_tree.specs.declared.kind.Kind.{Kind}
use Rattle.node_tree.specs.declared.kind.Kind.TheVariants as kinds
use Rattle.node_tree.specs.declared.view.Pattern.{Pattern}
use Rattle.node_tree.specs.declared.view.Shape.{Shape}
use Rattle.node_tree.specs.declared.view.Shape.TheVariants.{Expr, Run}
use Rattle.node_tree.specs.Tree.{kind_of, kids_of, pre_of}
use Rattle.node_tree.specs.Blocks.{is_block}
use Rattle.node_tree.specs.declared.known.Known.{Known}
use Rattle.node_tree.specs.Numbers.{Numbered, count_of, root_of, siblings, kids_at, numbered, pre_at}
use Rattle.node_tree.proofs.Trees.{pre_is}
use Rattle.meta_bind.specs.declared.bound.Bound.{Bound}
use Rattle.tree_match.specs.declared.leaf.Leaf.{Leaf}
use Rattle.tree_match.specs.declared.leaf.Leaf.TheVariants.{Full, Crowded}
use Rattle.node_match.specs.Sets.{Among}
use Rattle.node_tree.specs.Kinds.{is_expression, is_term}
use Rattle.node_match.specs.Relation.{IsString, Matches, same_node, known_literal, wildcard, metavariable, some_string, known_string, deep}
use Rattle.tree_match.specs.Members.{Member, MemberAt, MemberRun, MemberIn, MemberUnder, IsMember, KnownTree, known_to, those_blocks, blocks_at}
use Rattle.piece_match.proofs.Amongs.{among_flat, numbered_append}
use Rattle.tree_match.specs.Leaf.{HasMore, IsLeaf}
use Rattle.piece_match.specs.Union.{InSome, IsUnion, InAny, AreLeaves}
use Rattle.piece_match.specs.Pieces.{is_root, RootRun}

-- ---- a root is no expression, name or type, no string, and no pattern that isn't a root

module _ (C : List Known) (p : Node) (n : Numbered) (root : kind_of n.node ≡ kinds.Root) where
  no_term : (f : Kind → Bool) → f kinds.Root ≡ false → f (kind_of n.node) ≡ true → ⊥
  no_term f off on = absurd (let e : true ≡ false = sym on ∙ ap f root ∙ off in cc)

  no_string : IsString n.node → ⊥
  no_string (inl e) = absurd (let k : kinds.Root ≡ kinds.Str = sym root ∙ e in cc)
  no_string (inr (e, all)) = absurd (let k : kinds.Root ≡ kinds.StrJoin = sym root ∙ e in cc)

  no_name : kind_of n.node ≡ kinds.Name → ⊥
  no_name e = absurd (let k : kinds.Root ≡ kinds.Name = sym root ∙ e in cc)

  pub unmatched : is_root (kind_of p) ≡ false → (b c : List Bound) → Matches C p n b c → ⊥
  unmatched other b c (same_node r k t x) = absurd (let e : true ≡ false = sym (ap is_root (k ∙ root)) ∙ other in cc)
  unmatched other b _ (known_literal l r is (k, h) e) = no_name k
  unmatched other b _ (wildcard r w t) = no_term is_term refl t
  unmatched other b c (metavariable r w t x) = no_term is_term refl t
  unmatched other b _ (some_string r s) = no_string s
  unmatched other b _ (known_string l r (k, h) e) = no_name k
  unmatched other b c (deep q m r o t a x) = no_term is_expression refl t

-- ---- nodes and blocks by kids

numbered_pres : (at : ℕ) (ns : List Node) → numbered at (flat_map pre_of ns) ≡ flat_map pre_at (siblings at ns)
numbered_pres at [] = refl
numbered_pres at (n ∷ ns) =
    let x : Numbered = record { at = at; node = n } in
    ap (numbered at) (flat_map-cons pre_of n ns) ∙ numbered_append at (pre_of n) (flat_map pre_of ns)
    ∙ ap (λ (ys : List Numbered). pre_at x ++ ys) (numbered_pres (at + count_of n) ns) ∙ sym (flat_map-cons pre_at x (siblings (at + count_of n) ns))

-- a node, and then those of each kid in order
pub pre_at_is : (s : Numbered) → pre_at s ≡ s ∷ flat_map pre_at (kids_at s)
pre_at_is s = ap (numbered s.at) (pre_is s.node) ∙ ap (λ (ys : List Numbered). s ∷ ys) (numbered_pres (s.at + 1) (kids_of s.node))

blocks_flat : (ss : List Numbered) → those_blocks (flat_map pre_at ss) ≡ flat_map blocks_at ss
blocks_flat [] = refl
blocks_flat (s ∷ ss) =
    ap those_blocks (flat_map-cons pre_at s ss) ∙ filter-append (λ (n : Numbered). is_block (kind_of n.node)) (pre_at s) (flat_map pre_at ss)
    ∙ ap (λ (ks : List Numbered). blocks_at s ++ ks) (blocks_flat ss) ∙ sym (flat_map-cons blocks_at s ss)

blocks_are : (s : Numbered) → kind_of s.node ≡ kinds.Root → blocks_at s ≡ s ∷ flat_map blocks_at (kids_at s)
blocks_are s root =
    ap those_blocks (pre_at_is s) ∙ ap (λ (k : Kind). cond (is_block k) (s ∷ those_blocks (flat_map pre_at (kids_at s))) (those_blocks (flat_map pre_at (kids_at s)))) root
    ∙ ap (λ (ks : List Numbered). s ∷ ks) (blocks_flat (kids_at s))

-- a node, or one of those of its kids
parts_of_tree : (At : Numbered → Member → Type 0) (f : Numbered → List Numbered) (s : Numbered) (m : Member) → f s ≡ s ∷ flat_map f (kids_at s)
    → MemberIn At (f s) m ↔ (At s m ⊎ ((k : Numbered) × Among (kids_at s) k × MemberIn At (f k) m))
parts_of_tree At f s m e =
    let P : List Numbered → Type 0 = λ ns. MemberIn At ns m ↔ (At s m ⊎ ((k : Numbered) × Among (kids_at s) k × MemberIn At (f k) m)) in
    let at : (n : Numbered) → s ≡ n → At n m → At s m = λ n is x. (let Q : Numbered → Type 0 = λ k. At k m in subst Q (sym is) x) in
    subst P (sym e) (
      λ (n, among, x). elim among [
        | inl is ↦ inl (at n is x)
        | inr a ↦ (let (k, b, c) = (among_flat f (kids_at s) n).0 a in inr (k, b, (n, c, x)))
      ],
      λ h. elim h [
        | inl x ↦ (s, inl refl, x)
        | inr (k, b, (n, c, x)) ↦ (n, inr ((among_flat f (kids_at s) n).1 (k, b, c)), x)
      ],
    )

-- ---- the law

split_at : (C : List Known) (shape : Shape) (p : Node) (s : Numbered) → kind_of s.node ≡ kinds.Root → is_root (kind_of p) ≡ false → (m : Member)
    → MemberUnder C shape p s m ↔ (((shape ≡ Run) × MemberRun C p s m) ⊎ ((k : Numbered) × Among (kids_at s) k × MemberUnder C shape p k m))
split_at C Expr p s root other m =
    let parts = parts_of_tree (MemberAt C p) pre_at s m (pre_at_is s) in (
      λ x. elim (parts.0 x) [ inl (may, is, z) ↦ absurd (unmatched C p s root other [] m.1 z) | inr y ↦ inr y ],
      λ x. elim x [ inl (e, y) ↦ absurd cc | inr y ↦ parts.1 (inr y) ],
    )
split_at C Run p s root other m =
    let parts = parts_of_tree (MemberRun C p) blocks_at s m (blocks_are s root) in (
      λ x. elim (parts.0 x) [ inl r ↦ inl (refl, r) | inr y ↦ inr y ],
      λ x. elim x [ inl (e, r) ↦ parts.1 (inl r) | inr y ↦ parts.1 (inr y) ],
    )

-- the members of a pattern at a node and below it
abbrev pub UnderOf : Pattern → List Known → Numbered → Member → Type 0
UnderOf pattern known s m = MemberUnder (known_to pattern known) pattern.shape pattern.tree s m

-- the members in a file are the runs of its root, and the members in its kids
pub split : (pattern : Pattern) (file : KnownTree) (m : Member) → kind_of file.tree ≡ kinds.Root → is_root (kind_of pattern.tree) ≡ false
    → IsMember pattern file m ↔ (RootRun pattern file m ⊎ InAny (UnderOf pattern file.known) (kids_at (root_of file.tree)) m)
split pattern file m root other = split_at (known_to pattern file.known) pattern.shape pattern.tree (root_of file.tree) root other m

-- ---- leaves

more_as : (Set Other : Member → Type 0) (many : ℕ) → ((m : Member) → Set m → Other m) → HasMore Set many → HasMore Other many
more_as Set Other many into more = record { some = more.some; members = λ m h. into m (more.members m h); ordered = more.ordered; more = more.more }

pub leaf_as : (Set Other : Member → Type 0) (leaf : Leaf) → ((m : Member) → Set m ↔ Other m) → IsLeaf Set leaf → IsLeaf Other leaf
leaf_as Set Other (Full members) same (whole, few) = (record { exact = λ m. (λ h. (same m).0 ((whole.exact m).0 h), λ x. (whole.exact m).1 ((same m).1 x)); ordered = whole.ordered }, few)
leaf_as Set Other Crowded same more = more_as Set Other 10000 (λ m x. (same m).0 x) more

module _ {K : Type 0} (Set : K → Member → Type 0) where
  one_full : (k : K) (leaf : Leaf) (members : List Member) (m : Member) → leaf ≡ Full members → IsLeaf (Set k) leaf → Among members m → Set k m
  one_full k (Full xs) members m e x h =
      let f : Leaf → List Member = λ l. elim l [ Full z ↦ z | Crowded ↦ members ] in
      let P : List Member → Type 0 = λ z. Among z m in
      (x.0.exact m).0 (subst P (sym (ap f e)) h)
  one_full k Crowded members m e x h = absurd cc

  some_any : (ks : List K) (parts : List Leaf) (m : Member) → AreLeaves Set ks parts → InSome parts m → InAny Set ks m
  some_any [] [] m all (members, a, h) = absurd a
  some_any [] (leaf ∷ leaves) m all h = absurd all
  some_any (k ∷ ks) [] m all h = absurd all
  some_any (k ∷ ks) (leaf ∷ leaves) m (x, rest) (members, a, h) = elim a [
    | inl e ↦ (k, inl refl, one_full k leaf members m e x h)
    | inr b ↦ (let (l, c, y) = some_any ks leaves m rest (members, b, h) in (l, inr c, y))
  ]

  in_one : (k : K) (leaf : Leaf) (m : Member) → (leaf ≡ Crowded → ⊥) → IsLeaf (Set k) leaf → Set k m → (members : List Member) × (leaf ≡ Full members) × Among members m
  in_one k (Full xs) m calm x y = (xs, refl, (x.0.exact m).1 y)
  in_one k Crowded m calm x y = absurd (calm refl)

  any_some : (ks : List K) (parts : List Leaf) (m : Member) → (Among parts Crowded → ⊥) → AreLeaves Set ks parts → InAny Set ks m → InSome parts m
  any_some [] [] m calm all (k, a, y) = absurd a
  any_some [] (leaf ∷ leaves) m calm all h = absurd all
  any_some (k ∷ ks) [] m calm all h = absurd all
  any_some (k ∷ ks) (leaf ∷ leaves) m calm (x, rest) (l, a, y) = elim a [
    | inl e ↦ (let P : K → Type 0 = λ z. Set z m in let (members, is, h) = in_one k leaf m (λ c. calm (inl c)) x (subst P (sym e) y) in (members, inl is, h))
    | inr b ↦ (let (members, c, h) = any_some ks leaves m (λ c. calm (inr c)) rest (l, b, y) in (members, inr c, h))
  ]

  one_more : (k : K) (leaf : Leaf) → leaf ≡ Crowded → IsLeaf (Set k) leaf → HasMore (Set k) 10000
  one_more k (Full xs) e x = absurd cc
  one_more k Crowded e x = x

  crowded_any : (ks : List K) (parts : List Leaf) → AreLeaves Set ks parts → Among parts Crowded → (k : K) × Among ks k × HasMore (Set k) 10000
  crowded_any [] [] all a = absurd a
  crowded_any [] (leaf ∷ leaves) all a = absurd all
  crowded_any (k ∷ ks) [] all a = absurd all
  crowded_any (k ∷ ks) (leaf ∷ leaves) (x, rest) (inl e) = (k, inl refl, one_more k leaf e x)
  crowded_any (k ∷ ks) (leaf ∷ leaves) (x, rest) (inr b) = let (l, c, more) = crowded_any ks leaves rest b in (l, inr c, more)

  -- the union of the leaves of some sets is the leaf of their union
  pub union_leaf : (ks : List K) (parts : List Leaf) (leaf : Leaf) → AreLeaves Set ks parts → IsUnion parts leaf → IsLeaf (InAny Set ks) leaf
  union_leaf ks parts (Full members) all (calm, whole, few) = (
    record {
      exact = λ m. (λ h. some_any ks parts m all ((whole.exact m).0 h), λ x. (whole.exact m).1 (any_some ks parts m calm all x));
      ordered = whole.ordered;
    },
    few,
  )
  union_leaf ks parts Crowded all (inl a) = let (k, c, more) = crowded_any ks parts all a in more_as (Set k) (InAny Set ks) 10000 (λ m x. (k, c, x)) more
  union_leaf ks parts Crowded all (inr more) = more_as (InSome parts) (InAny Set ks) 10000 (λ m x. some_any ks parts m all x) more
