-- Blocks of members: what they say of each of them, and that every member is in one.
use Rattle.std.proofs.Common.{◌≡◌, ◌↔◌, ◌⊎◌, inl, inr, ℕ, ◌+◌, ◌-◌, ◌<◌, ◌≤◌, List, [], ◌∷◌, ◌++◌, length, take, drop, get_or, true, false, refl, sym, ap, ◌∙◌, subst, arith}
use Rattle.std.specs.Prelude.{Option, None, Some, MatchOption, max, min}
use Rattle.std.specs.Cmp.{IsTotalOrder}
use Rattle.std.specs.declared.cmp.Ordering.{Ordering}
use Rattle.std.specs.declared.cmp.Ordering.TheVariants.{Less, Equal, Greater}
use Rattle.std.specs.Ordering.{is_lt}
use Rattle.std.proofs.lemmas.Cmp.{tied_itself}
use Rattle.std.proofs.lemmas.List.{take_more, take_all, take-append-drop, drop-drop, drop_all}
use Rattle.node_tree.specs.declared.node.Node.{Node}
use Rattle.node_tree.specs.declared.span.Span.{Span}
use Rattle.node_tree.specs.Order.{node_cmp}
use Rattle.node_tree.proofs.Orders.{lists_order, node_order}
use Rattle.meta_bind.specs.declared.bound.Bound.{Bound}
use Rattle.meta_bind.specs.Bounds.{bound_at}
use Rattle.meta_bind.proofs.Chains.{lists_chain, node_chains}
use Rattle.tree_match.specs.Members.{Member}
use Rattle.node_match.specs.Sets.{Among}
use Rattle.node_match.proofs.Sets.{gathered}
use Rattle.sorted_sets.specs.Sizes.{Each, Any}
use Rattle.member_join.specs.Agreements.{AgreesWith}
use Rattle.sorted_sets.specs.Orders.{total_of}
use Rattle.member_join.specs.Joins.{IsNeeded, IsJoined, IsJoinedFrom}
use Rattle.member_join.specs.Blocks.{contents_order, IsNotBelow, Encloses, IsHullOf, IsReach, IsBlock, IsIn, IsApart, IsJoinedToBlocks}
use Rattle.member_join.specs.declared.block.Block.{Block}
use Rattle.member_join.specs.declared.block.Hull.{Hull}
use Rattle.member_join.specs.declared.operand.Role.{Role}
use Rattle.member_join.specs.declared.operand.Operand.{Operand}
use Rattle.member_join.specs.declared.state.State.{State}
use Rattle.member_join.proofs.Added.{needed_touches}
use Rattle.sorted_sets.proofs.Searches.{any_cons, any_joined}
use Rattle.sorted_sets.proofs.Lasts.{each_snoc}

-- ---- the order of contents

contents_total : IsTotalOrder contents_order
contents_total = total_of contents_order (lists_order node_cmp node_order) (lists_chain node_cmp node_chains)

is_less : (o : Ordering) → is_lt o ≡ true → o ≡ Less
is_less Less e = refl
is_less Equal e = absurd cc
is_less Greater e = absurd cc

pub not_below_itself : (a : List Node) → IsNotBelow a a
not_below_itself a = ap is_lt (tied_itself contents_total a)

-- what isn't below the greater of two isn't below the lesser
pub not_below_less : (a b n : List Node) → is_lt (contents_order a b) ≡ true → IsNotBelow n b → IsNotBelow n a
not_below_less a b n less above = at (contents_order n a) refl
  where
    at : (o : Ordering) → contents_order n a ≡ o → is_lt (contents_order n a) ≡ false
    at Less e = absurd (let f = ap is_lt (contents_total.trans n a b e (is_less (contents_order a b) less)) in let g = sym f ∙ above in cc)
    at Equal e = ap is_lt e
    at Greater e = ap is_lt e

-- what the lesser of two isn't below, the greater isn't below either
pub greater_not_below : (a b n : List Node) → is_lt (contents_order b a) ≡ true → IsNotBelow b n → IsNotBelow a n
greater_not_below a b n less above = at (contents_order a n) refl
  where
    at : (o : Ordering) → contents_order a n ≡ o → is_lt (contents_order a n) ≡ false
    at Less e = absurd (let f = ap is_lt (contents_total.trans b a n (is_less (contents_order b a) less) e) in let g = sym f ∙ above in cc)
    at Equal e = ap is_lt e
    at Greater e = ap is_lt e

-- ---- what holds of each of the first members

module _ {X : Type 0} (P Q : X → Type 0) (xs : List X) (i : ℕ) where
  pub each_more : (x : X) → i < length xs → x ≡ get_or xs i x → ((y : X) → P y → Q y) → Q x → Each P (take i xs) → Each Q (take (i + 1) xs)
  each_more x lt is weaker here h =
      let R : List X → Type 0 = Each Q in
      let one : take (i + 1) xs ≡ take i xs ++ x ∷ [] = take_more xs i x lt ∙ ap (λ (y : X). take i xs ++ y ∷ []) (sym is) in
      subst R (sym one) (each_snoc Q (take i xs) x (λ y k. weaker y (h y k)) here)

  pub each_all : length xs ≤ i → Each Q (take i xs) → Each Q xs
  each_all le h = let R : List X → Type 0 = Each Q in subst R (take_all i xs le) h

-- ---- hulls

-- a hull of the same name that encloses what another does
pub hull_wider : (h k : Hull) (m : Member) → k.name ≡ h.name → ((nodes : List Node) → Encloses h nodes → Encloses k nodes) → IsHullOf h m → IsHullOf k m
hull_wider h k m same wider is = at (bound_at k.name.now m.1) (let R : List ℕ → Type 0 = λ n. MatchOption (bound_at n m.1) ⊥ (λ (b : Bound). Encloses h b.nodes) in subst R (ap (λ n. n.now) (sym same)) is)
  where
    at : (o : Option Bound) → MatchOption o ⊥ (λ (b : Bound). Encloses h b.nodes) → MatchOption o ⊥ (λ (b : Bound). Encloses k b.nodes)
    at None x = x
    at (Some b) x = wider b.nodes x

-- a member whose contents the hull encloses
pub hull_here : (h : Hull) (name : List ℕ) (m : Member) (b : Bound) → h.name.now ≡ name → bound_at name m.1 ≡ Some b → Encloses h b.nodes → IsHullOf h m
hull_here h name m b same is inside =
    let R : Option Bound → Type 0 = λ o. MatchOption o ⊥ (λ (c : Bound). Encloses h c.nodes) in
    subst R (sym (ap (λ n. bound_at n m.1) same ∙ is)) inside

-- ---- blocks

-- how far the members up to the next one reach
pub reach_more : (members : List Member) (i : ℕ) (m : Member) (range wider : Span) → i < length members → m ≡ get_or members i m → wider.from ≡ min m.0.from range.from → wider.to ≡ max m.0.to range.to → IsReach range (take i members) → IsReach wider (take (i + 1) members)
reach_more members i m range wider lt is from to h = record {
  begins = each_more (λ (x : Member). range.from ≤ x.0.from) (λ (x : Member). wider.from ≤ x.0.from) members i m lt is (λ x le. omega (arith, from, le)) (omega (arith, from)) h.begins;
  ends = each_more (λ (x : Member). x.0.to ≤ range.to) (λ (x : Member). x.0.to ≤ wider.to) members i m lt is (λ x le. omega (arith, to, le)) (omega (arith, to)) h.ends;
}

pub reach_all : (members : List Member) (i : ℕ) (range : Span) → length members ≤ i → IsReach range (take i members) → IsReach range members
reach_all members i range le h = let R : List Member → Type 0 = IsReach range in subst R (take_all i members le) h

module _ (block : Block) (s : State) (is : IsBlock block) where
  -- the state binds a name to what lies outside of its hull
  pub bound_outside : (h : Hull) → Among block.hulls.items h → ((m : Member) → IsHullOf h m → AgreesWith s.plain s.inside m.1 → ⊥) → Each (IsApart s) block.members.now
  bound_outside h at out m k touch agree = out m (is.hulls h at m k) agree

-- members that lie apart from a state give none with it
pub none_apart : (role : Role) (b : State) (members : List Member) (later : List Operand) (s : State) → Each (IsApart b) members → (IsJoinedFrom role b members s × IsNeeded later s) → ⊥
none_apart role b members later s apart h = apart h.0.0 h.0.1 (needed_touches role b h.0.0 later s h.0.2 h.1) h.0.2.0

-- ---- members in blocks

-- the members in the blocks so far, and those from that place on, are all of them
pub record Blocked (members : List Member) (from : ℕ) (blocks : List Block) : Type 0 where
  pub within : from ≤ length members
  pub each : Each IsBlock blocks
  pub whole : (m : Member) → (Any (IsIn m) blocks ⊎ Among (drop from members) m) ↔ Among members m

among_joined : (xs ys : List Member) (m : Member) → Among (xs ++ ys) m ↔ (Among xs m ⊎ Among ys m)
among_joined xs ys m = (λ a. to ((any_joined (λ x. x ≡ m) xs ys).0 (m, a, refl)), λ h. from ((any_joined (λ x. x ≡ m) xs ys).1 (back h)))
  where
    named : (zs : List Member) → Any (λ x. x ≡ m) zs → Among zs m
    named zs h = let R : Member → Type 0 = Among zs in subst R h.2 h.1

    to : Any (λ x. x ≡ m) xs ⊎ Any (λ x. x ≡ m) ys → Among xs m ⊎ Among ys m
    to (inl h) = inl (named xs h)
    to (inr h) = inr (named ys h)

    back : Among xs m ⊎ Among ys m → Any (λ x. x ≡ m) xs ⊎ Any (λ x. x ≡ m) ys
    back (inl a) = inl (m, a, refl)
    back (inr a) = inr (m, a, refl)

    from : Any (λ x. x ≡ m) (xs ++ ys) → Among (xs ++ ys) m
    from h = named (xs ++ ys) h

pub blocked_none : (members : List Member) (blocks : List Block) → blocks ≡ [] → Blocked members 0 blocks
blocked_none members blocks none = let R : List Block → Type 0 = Blocked members 0 in subst R (sym none) (record {
  within = omega arith;
  each = λ b k. elim k [ ];
  whole = λ m. (λ h. elim h [ inl a ↦ absurd a.1 | inr a ↦ a ], λ a. inr a);
})

pub blocked_more : (members : List Member) (from end : ℕ) (blocks new : List Block) (b : Block) → from ≤ end → end ≤ length members → new ≡ blocks ++ b ∷ [] → b.members.now ≡ take (end - from) (drop from members) → IsBlock b → Blocked members from blocks → Blocked members end new
blocked_more members from end blocks new b le within f here is h = let R : List Block → Type 0 = Blocked members end in subst R (sym f) (record {
  within = within;
  each = each_snoc IsBlock blocks b h.each is;
  whole = λ m. gathered _ _ _ _ _ _ (more m) (split m) (h.whole m);
})
  where
    more : (m : Member) → Any (IsIn m) (blocks ++ b ∷ []) ↔ (Any (IsIn m) blocks ⊎ Among b.members.now m)
    more m =
        let joined = any_joined (IsIn m) blocks (b ∷ []) in
        let last = any_cons (IsIn m) b [] in (
          λ a. elim (joined.0 a) [ inl x ↦ inl x | inr x ↦ elim (last.0 x) [ inl y ↦ inr y | inr y ↦ absurd y.1 ] ],
          λ a. elim a [ inl x ↦ joined.1 (inl x) | inr y ↦ joined.1 (inr (last.1 (inl y))) ],
        )

    split : (m : Member) → Among (drop from members) m ↔ (Among b.members.now m ⊎ Among (drop end members) m)
    split m =
        let rest : drop (end - from) (drop from members) ≡ drop end members = drop-drop (end - from) from members ∙ ap (λ k. drop k members) (omega (arith, le)) in
        let parts : b.members.now ++ drop end members ≡ drop from members =
        ap (λ xs. xs ++ drop end members) here ∙ ap (λ xs. take (end - from) (drop from members) ++ xs) (sym rest) ∙ take-append-drop (end - from) (drop from members) in
        let R : List Member → Type 0 = λ xs. Among xs m ↔ (Among b.members.now m ⊎ Among (drop end members) m) in
        subst R parts (among_joined b.members.now (drop end members) m)

pub blocked_all : (members : List Member) (from : ℕ) (blocks : List Block) → length members ≤ from → Blocked members from blocks → (m : Member) → Any (IsIn m) blocks ↔ Among members m
blocked_all members from blocks le h m = (λ a. (h.whole m).0 (inl a), λ a. elim ((h.whole m).1 a) [ inl b ↦ b | inr r ↦ absurd (none r) ])
  where
    none : Among (drop from members) m → ⊥
    none r = let R : List Member → Type 0 = λ xs. Among xs m in subst R (drop_all from members le) r

-- a state and a member in some block
pub in_blocks : (role : Role) (before : List State) (members sorted arranged : List Member) (blocks given : List Block) (s : State) → arranged ≡ sorted → given ≡ blocks → ((m : Member) → Among sorted m ↔ Among members m)
    → ((m : Member) → Any (IsIn m) blocks ↔ Among arranged m) → IsJoinedToBlocks role before given s ↔ IsJoined role before members s
in_blocks role before members sorted arranged blocks given s as_sorted as_blocks same whole = (
  λ h. let at = h.2.2 in (h.0, h.1, (at.0, member at.0 (h.2.0, h.2.1, at.1), at.2)),
  λ h. let at = block h.2.0 h.2.1 in (h.0, h.1, (at.0, at.1, (h.2.0, at.2, h.2.2))),
)
  where
    member : (m : Member) → Any (IsIn m) given → Among members m
    member m h =
        let R : List Block → Type 0 = Any (IsIn m) in
        let S : List Member → Type 0 = λ ms. Among ms m in
        (same m).0 (subst S as_sorted ((whole m).0 (subst R as_blocks h)))

    block : (m : Member) → Among members m → Any (IsIn m) given
    block m h =
        let R : List Block → Type 0 = Any (IsIn m) in
        let S : List Member → Type 0 = λ ms. Among ms m in
        subst R (sym as_blocks) ((whole m).1 (subst S (sym as_sorted) ((same m).1 h)))
